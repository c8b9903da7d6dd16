-- `report` meets its contract: an accepted catalogue is well-formed.
use Rattle.structure.proofs.Acceptance.{verdict_well_formed}
use Rattle.gate_store.proofs.report.Goals as goal

pub report_lengths-requires : goal.report_lengths-requires
report_lengths-requires g c = verdict_well_formed c.check.result c.check.ensures c.in-Ok.is
