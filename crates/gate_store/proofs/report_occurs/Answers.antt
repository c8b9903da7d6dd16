-- `report_occurs` meets its contract: the part of the row has a bit for each concept.
use Rattle.std.proofs.Common.{ℕ, ◌+◌, ◌/◌, arith, ap, ◌∙◌}
use lib.Seq.{length-take-le}
use Rattle.layout.specs.Parts.{width}
use Rattle.gate_store.proofs.report_occurs.Goals as goal

pub mark_occurring-requires : goal.mark_occurring-requires
unfolding width
mark_occurring-requires g c =
    let n = c.concepts-n in (
      c.requires.0,
      length-take-le ((n.result + 7) / 8) c.args.row.now (omega (arith, n.ensures, c.requires.0.sized.well_formed.concepts_limit, c.requires.1))
          ∙ ap (λ (k : ℕ). (k + 7) / 8) n.ensures,
    )
