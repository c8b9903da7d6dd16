-- `report_contains` meets its contract: an accepted catalogue is well-formed.
use Rattle.std.proofs.Common.{arith}
use Rattle.catalogue.specs.WellFormed.{WellFormed}
use Rattle.catalogue.proofs.Bounds.{header_within}
use Rattle.structure.proofs.Acceptance.{verdict_well_formed}
use Rattle.gate_structure.proofs.report_contains.Goals as goal

pub concepts-n-requires : goal.concepts-n-requires
concepts-n-requires g c = header_within (verdict_well_formed c.check.result c.check.ensures c.in-Ok.is)

pub contains-requires : goal.contains-requires
contains-requires g c =
    let w : WellFormed c.args.b.now = verdict_well_formed c.check.result c.check.ensures c.in-Ok.is in
    (w, omega (arith, c.concepts-n.ensures, c.if-i-n.true), w.concepts_limit)
