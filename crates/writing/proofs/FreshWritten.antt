-- What write gives from a store classified afresh from F: the catalogue with F as its axioms, and only 20 can refuse.
use Prim.Native.Nat.{ℕ, ◌≤◌, ◌<◌}
use mathlib.Core.Path.{◌≡◌, refl, sym, ap, subst, ◌∙◌}
use mathlib.Core.List.{List, ◌++◌}
use lib.Dec.{leb}
use lib.ListN.{length, drop}
use borrow.Author.Tests.{le-leb, lt-leb}
use Rattle.catalogue.specs.Outcome.{Outcome, accepted, ask}
use Rattle.catalogue.specs.Checks.{checked}
use Rattle.catalogue.proofs.Outcomes.{ask_yes, ask_no}
use Rattle.catalogue.proofs.Passed.{after_accepted}
use Rattle.rules.specs.Axioms.{Axioms}
use Rattle.store.specs.Written.{axiom_count, written}
use Rattle.store.specs.Fresh.{Fresh}
use Rattle.store.proofs.Checks.{marked-axioms, marked_fits, marked_limit}
use Rattle.writing.specs.Write.{output_fits, write_checks, ByOutcome, wrote, stays, Writes}
use Rattle.catalogue.specs.declared.checks.Refusal.{Refusal}
use Rattle.std.proofs.Common.{Result, Ok, Err}
use Rattle.catalogue.specs.Verdicts.{refusal}
use Rattle.writing.proofs.Order.{asks_20}
use Rattle.writing.proofs.Unique.{by_outcome_unique}

module _ (b : List ℕ) (F : Axioms) (store : List ℕ) (catalogue : checked b ≡ accepted) (few : axiom_count b F ≤ 4096) (fresh : Fresh b F store) (output : List ℕ) where
  asks : write_checks b store (length output) ≡ ask (leb (length (written b F)) (length output)) 20 0 accepted
  unfolding write_checks output_fits
  asks =
      after_accepted b _ catalogue
      ∙ asks_20 b store (length output) (marked_fits b F store fresh) fresh.spare (marked_limit b F store fresh few)
      ∙ ap (λ (G : Axioms). ask (leb (length (written b G)) (length output)) 20 0 accepted) (marked-axioms b F store fresh)

  outcome : {o : Outcome} {left : Result ℕ Refusal} {after : List ℕ} → write_checks b store (length output) ≡ o → ByOutcome b store output o left after → Writes b store output left after
  outcome {left = left} {after} e = subst (λ (o : Outcome). ByOutcome b store output o left after) (sym e)

  -- By the outcome of 20.
  pub fresh_long : length (written b F) ≤ length output → Writes b store output (Ok (length (written b F))) (written b F ++ drop (length (written b F)) output)
  fresh_long l =
      outcome (asks ∙ ask_yes 20 0 accepted (le-leb _ _ l))
      (subst (λ (G : Axioms). ByOutcome b store output accepted (Ok (length (written b G))) (written b G ++ drop (length (written b G)) output)) (marked-axioms b F store fresh) (wrote refl))

  pub fresh_short : length output < length (written b F) → Writes b store output (Err (refusal 20 0)) output
  fresh_short l = outcome (asks ∙ ask_no 20 0 accepted (lt-leb _ _ l)) stays

  -- And so of every exit that the contract allows.
  module _ (answer : Result ℕ Refusal) (output' : List ℕ) (w : Writes b store output answer output') where
    pub writes_long : length (written b F) ≤ length output → (answer ≡ Ok (length (written b F))) × (output' ≡ written b F ++ drop (length (written b F)) output)
    writes_long l = by_outcome_unique b store output _ answer _ output' _ w (fresh_long l)

    pub writes_short : length output < length (written b F) → (answer ≡ Err (refusal 20 0)) × (output' ≡ output)
    writes_short l = by_outcome_unique b store output _ answer _ output' _ w (fresh_short l)
