-- What an answer of write says of its questions, and that a refused write has written nothing.
use Prim.Native.Nat.{ℕ}
use mathlib.Core.Path.{◌≡◌, refl}
use mathlib.Core.List.{List}
use Rattle.catalogue.specs.Outcome.{Outcome, refused}
use Rattle.catalogue.proofs.Outcomes.{never_both}
use Rattle.writing.specs.Write.{outcome_of, ByOutcome, wrote, stays}
use Rattle.std.proofs.Common.{Result}
use Rattle.catalogue.specs.declared.checks.Refusal.{Refusal}

pub answer_outcome : {b store output output' : List ℕ} {o : Outcome} (a : Result ℕ Refusal) → ByOutcome b store output o a output' → outcome_of a ≡ o
answer_outcome a (wrote e) = refl
answer_outcome a stays = refl

pub refused_keeps : {b store output output' : List ℕ} {o : Outcome} {number at : ℕ} (a : Result ℕ Refusal) → ByOutcome b store output o a output'
    → outcome_of a ≡ refused number at → output' ≡ output
refused_keeps a (wrote e) q = absurd (never_both _ refl q)
refused_keeps a stays q = refl
