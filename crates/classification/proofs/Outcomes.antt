-- What an answer of classify says of its questions, and of the store that is left.
use Prim.Native.Nat.{ℕ}
use mathlib.Core.Path.{◌≡◌, refl, sym, ap, ◌∙◌}
use mathlib.Core.List.{List}
use lib.ListN.{length}
use Rattle.std.proofs.Common.{Result, Ok}
use Rattle.catalogue.specs.declared.checks.Refusal.{Refusal}
use Rattle.catalogue.specs.Outcome.{Outcome, accepted, refused}
use Rattle.layout.specs.Parts.{Sized}
use Rattle.classification.specs.declared.Classified.{Classified}
use Rattle.classification.specs.Classified.{classify_checks, outcome_of, Classifies}
use Rattle.classification.proofs.Checks.{accepted_fits}

module _ (b store work : List ℕ) (answer : Result Classified Refusal) (store' work' : List ℕ) where
  -- The answer's outcome is that of the questions.
  pub answer_outcome : Classifies b store work answer store' work' → outcome_of answer ≡ classify_checks b (length store) (length work)
  answer_outcome c = go (classify_checks b (length store) (length work)) refl
    where
      go : (o : Outcome) → classify_checks b (length store) (length work) ≡ o → outcome_of answer ≡ classify_checks b (length store) (length work)
      go accepted e = (c.accepts e).answers ∙ sym e
      go (refused number at) e = (c.refuses number at e).answers ∙ sym e

  -- A store that classify accepted is as long as its well-formed catalogue asks.
  pub done_sized : (counts : Classified) → Classifies b store work answer store' work' → answer ≡ Ok counts → Sized b store'
  done_sized counts c e =
      let ok : classify_checks b (length store) (length work) ≡ accepted = sym (answer_outcome c) ∙ ap outcome_of e in
      record { well_formed = (accepted_fits b (length store) (length work) ok).well_formed; long = (c.accepts ok).fresh.long }
