-- `Concept::at`: each field is the number at its two bytes.
use native.Mathlib.Omega.{arith}
use mathlib.Core.Path.{◌∙◌}
use Rattle.catalogue.specs.Records.{kind, first, second}
use Rattle.catalogue.proofs.Words.{two_bytes}
use Rattle.catalogue.proofs.records.Concept.at.Goals as goal

pub returns : goal.returns
unfolding kind first second
returns c =
    record {
      kind_is = c.from_bytes.ensures.0 ∙ two_bytes _ _ _ _ (omega arith) (omega arith);
      first_is = c.from_bytes.ensures.1 ∙ two_bytes _ _ _ _ (omega arith) (omega arith);
      second_is = c.from_bytes.ensures.2 ∙ two_bytes _ _ _ _ (omega arith) (omega arith);
    }
