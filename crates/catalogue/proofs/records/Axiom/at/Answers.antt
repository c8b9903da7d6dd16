-- `Axiom::at` reads the four bytes of the record.
use mathlib.Core.Path.{◌∙◌}
use Rattle.catalogue.specs.Records.{left, right}
use Rattle.catalogue.proofs.records.Axiom.at.Goals as goal

pub returns : goal.returns
unfolding left right
returns c =
    let start = c.axioms_at.ensures in
    record { left_is = c.from_slice.ensures.0 ∙ rw start; right_is = c.from_slice.ensures.1 ∙ rw start }
