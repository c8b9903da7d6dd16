-- What an answer of lookup and listing says of its questions.
use Prim.Native.Nat.{ℕ}
use mathlib.Core.Path.{◌≡◌, refl, ap, ◌∙◌}
use mathlib.Core.Bool.{Bool}
use mathlib.Core.List.{List, [], ◌∷◌}
use lib.ListN.{length}
use Rattle.std.proofs.Common.{Result}
use Rattle.catalogue.specs.Outcome.{Outcome, accepted, refused}
use Rattle.read_checks.specs.Checks.{read_checks, list_checks}
use Rattle.lookups.specs.Answers.{lookup_outcome, looked, looked_up}
use Rattle.lookups.specs.Listings.{list_outcome, listed, kinds_under, Lists}
use Rattle.catalogue.specs.declared.checks.Refusal.{Refusal}

looked_outcome : (o : Outcome) (has : Bool) → lookup_outcome (looked o has) ≡ o
looked_outcome accepted has = refl
looked_outcome (refused number at) has = refl

pub lookup_outcome_lem : (b : List ℕ) (c d : ℕ) (store : List ℕ) (a : Result Bool Refusal) → a ≡ looked_up b c d store → lookup_outcome a ≡ read_checks b (c ∷ d ∷ []) store
unfolding looked_up
lookup_outcome_lem b c d store a e = ap lookup_outcome e ∙ looked_outcome _ _

listed_outcome : (o : Outcome) (names : List ℕ) → list_outcome (listed o names) ≡ o
listed_outcome accepted names = refl
listed_outcome (refused number at) names = refl

pub list_outcome_lem : {b : List ℕ} {d : ℕ} {store list list' : List ℕ} (a : Result ℕ Refusal) → Lists b d store list a list'
    → list_outcome a ≡ list_checks b (d ∷ []) store (length list)
list_outcome_lem {b} {d} {store} a p = ap list_outcome p.answer ∙ listed_outcome _ (kinds_under b d store)
