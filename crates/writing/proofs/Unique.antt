-- Two calls of write at equal entries answer alike and leave the same bytes; and what is written.
use mathlib.Core.Path.{◌≡◌, refl, sym, ◌∙◌}
use mathlib.Core.Bool.{true}
use mathlib.Core.List.{List}
use Prim.Native.Nat.{ℕ, ◌≤◌}
use Rattle.catalogue.specs.Outcome.{Outcome, accepted}
use Rattle.catalogue.specs.Checks.{checked}
use Rattle.catalogue.specs.WellFormed.{WellFormed}
use Rattle.rules.specs.Axioms.{catalogue_axioms}
use Rattle.layout.specs.Parts.{in_force, spare_clear}
use Rattle.store.specs.Written.{axiom_count, written}
use Rattle.layout.proofs.StoreRows.{in_force_range}
use Rattle.store.proofs.Written.{written_accepted, written-axioms}
use Rattle.writing.specs.Write.{ByOutcome, wrote, stays}
use Rattle.std.proofs.Common.{Result}
use Rattle.catalogue.specs.declared.checks.Refusal.{Refusal}

-- An outcome leaves one answer, and one content of the output.
pub by_outcome_unique : (b store output : List ℕ) (o : Outcome) (answer answer' : Result ℕ Refusal) (left left' : List ℕ) → ByOutcome b store output o answer left → ByOutcome b store output o answer' left' → (answer ≡ answer') × (left ≡ left')
by_outcome_unique b store output o answer answer' left left' (wrote e) (wrote f) = (refl, e ∙ sym f)
by_outcome_unique b store output o answer answer' left left' stays stays = (refl, refl)

-- What write gives is accepted by questions 1 to 9, and has exactly the axioms in force.
pub written_again : (b store : List ℕ) → WellFormed b → spare_clear b store ≡ true → axiom_count b (in_force b store) ≤ 4096
    → (checked (written b (in_force b store)) ≡ accepted) × ((c d : ℕ) → catalogue_axioms (written b (in_force b store)) c d ≡ in_force b store c d)
written_again b store wf clear limit = (
  written_accepted b (in_force b store) wf limit,
  written-axioms b (in_force b store) wf (in_force_range b store clear),
)
