-- `Composition::at` reads the six bytes of the record.
use mathlib.Core.Path.{◌∙◌}
use Rattle.catalogue.specs.Records.{role1, role2, result}
use Rattle.catalogue.proofs.records.Composition.at.Goals as goal

pub returns : goal.returns
unfolding role1 role2 result
returns c =
    let start = c.compositions_at.ensures in
    record { first_is = c.from_slice.ensures.0 ∙ rw start; second_is = c.from_slice.ensures.1 ∙ rw start; result_is = c.from_slice.ensures.2 ∙ rw start }
