-- `Inclusion::at` reads the four bytes of the record.
use mathlib.Core.Path.{◌∙◌}
use Rattle.catalogue.specs.Records.{within, around}
use Rattle.catalogue.proofs.records.Inclusion.at.Goals as goal

pub returns : goal.returns
unfolding within around
returns c =
    let start = c.inclusions_at.ensures in
    record { within_is = c.from_slice.ensures.0 ∙ rw start; around_is = c.from_slice.ensures.1 ∙ rw start }
