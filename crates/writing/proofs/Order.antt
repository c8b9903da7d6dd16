-- The questions of write in order, and what the call leaves at each.
use mathlib.Core.Path.{◌≡◌, sym, ap, ◌∙◌, subst}
use mathlib.Core.Bool.{true, false}
use mathlib.Core.List.{List, ◌++◌}
use Prim.Native.Nat.{ℕ, ◌+◌, ◌*◌, ◌≤◌, ◌<◌}
use native.Mathlib.Omega.{arith}
use lib.ListN.{length, drop}
use borrow.Author.Tests.{le-leb, lt-leb}
use Rattle.catalogue.specs.Outcome.{Outcome, accepted, refused, ask}
use Rattle.catalogue.specs.Checks.{checked}
use Rattle.catalogue.proofs.Outcomes.{ask_yes, ask_no, ask_past}
use Rattle.catalogue.proofs.Passed.{after_accepted, after_refused}
use Rattle.layout.specs.Parts.{in_force, spare_clear}
use Rattle.store.specs.Checks.{store_fits, axioms_in_limit, ask_store, ask_spare, ask_limit}
use Rattle.store.specs.Written.{axiom_count, written}
use Rattle.store.proofs.Written.{length-written}
use Rattle.catalogue.specs.Header.{axioms_at}
use Rattle.catalogue.specs.WellFormed.{WellFormed}
use Rattle.writing.specs.Write.{output_fits, store_checks, write_checks, ByOutcome, wrote, stays}
use Rattle.catalogue.specs.declared.checks.Refusal.{Refusal}
use Rattle.std.proofs.Common.{Result, Ok, Err}
use Rattle.catalogue.specs.Verdicts.{refusal}

module _ (b store : List ℕ) (long : ℕ) where
  pub asks_20 : store_fits b (length store) ≡ true → spare_clear b store ≡ true → axioms_in_limit b (in_force b store) ≡ true
      → store_checks b store long ≡ ask (output_fits b store long) 20 0 accepted
  unfolding store_checks ask_store ask_spare ask_limit
  asks_20 t u v = ask_yes 10 0 _ t ∙ ask_yes 13 0 _ u ∙ ask_yes 14 0 _ v

  -- What 20 refuses has passed 14.
  pub refused_20 : store_checks b store long ≡ refused 20 0
      → (axioms_in_limit b (in_force b store) ≡ true) × (ask (output_fits b store long) 20 0 accepted ≡ refused 20 0)
  unfolding store_checks ask_store ask_spare ask_limit
  refused_20 e =
      let fits = ask_past _ 10 0 _ (λ q. omega arith) e in
      let clear = ask_past _ 13 0 _ (λ q. omega arith) fits.1 in
      ask_past _ 14 0 _ (λ q. omega arith) clear.1

module _ (b store output : List ℕ) where
  stopped : (number : ℕ) → store_checks b store (length output) ≡ refused number 0 → ByOutcome b store output (store_checks b store (length output)) (Err (refusal number 0)) output
  stopped number e = subst (λ (o : Outcome). ByOutcome b store output o (Err (refusal number 0)) output) (sym e) stays

  pub stops_10 : store_fits b (length store) ≡ false → ByOutcome b store output (store_checks b store (length output)) (Err (refusal 10 0)) output
  unfolding store_checks ask_store
  stops_10 e = stopped 10 (ask_no 10 0 _ e)

  pub stops_13 : store_fits b (length store) ≡ true → spare_clear b store ≡ false → ByOutcome b store output (store_checks b store (length output)) (Err (refusal 13 0)) output
  unfolding store_checks ask_store ask_spare
  stops_13 t e = stopped 13 (ask_yes 10 0 _ t ∙ ask_no 13 0 _ e)

  -- From 14 on by the count of axioms in force and where they start, as the call computes them.
  module _ (t : store_fits b (length store) ≡ true) (u : spare_clear b store ≡ true) {count : ℕ} (f : count ≡ axiom_count b (in_force b store)) where
    pub stops_14 : 4096 < count → ByOutcome b store output (store_checks b store (length output)) (Err (refusal 14 0)) output
    unfolding store_checks ask_store ask_spare ask_limit axioms_in_limit
    stops_14 l = stopped 14 (ask_yes 10 0 _ t ∙ ask_yes 13 0 _ u ∙ ask_no 14 0 _ (lt-leb _ _ (omega arith)))

    in_limit : count ≤ 4096 → axioms_in_limit b (in_force b store) ≡ true
    unfolding axioms_in_limit
    in_limit l = le-leb _ _ (omega arith)

    module _ (wf : WellFormed b) {start : ℕ} (e : start ≡ axioms_at b) (few : count ≤ 4096) where
      long : start + 4 * count ≡ length (written b (in_force b store))
      long = omega (arith, length-written b (in_force b store) wf)

      pub stops_20 : length output < start + 4 * count → ByOutcome b store output (store_checks b store (length output)) (Err (refusal 20 0)) output
      unfolding output_fits
      stops_20 l = stopped 20 (asks_20 b store (length output) t u (in_limit few) ∙ ask_no 20 0 accepted (lt-leb _ _ (omega (arith, long))))

      pub writes_all : start + 4 * count ≤ length output → {front : List ℕ} → front ≡ written b (in_force b store)
          → ByOutcome b store output (store_checks b store (length output)) (Ok (start + 4 * count)) (front ++ drop (start + 4 * count) output)
      unfolding output_fits
      writes_all l is =
          rw (asks_20 b store (length output) t u (in_limit few) ∙ ask_yes 20 0 accepted (le-leb _ _ (omega (arith, long))), long)
          (wrote (ap (λ (l : List ℕ). l ++ drop (length (written b (in_force b store))) output) is))

  -- Questions 1 to 9 first.
  pub catalogue_first : (answer : Result ℕ Refusal) (output' : List ℕ) → checked b ≡ accepted → ByOutcome b store output (store_checks b store (length output)) answer output' → ByOutcome b store output (write_checks b store (length output)) answer output'
  unfolding write_checks
  catalogue_first answer output' e h =
      subst (λ (o : Outcome). ByOutcome b store output o answer output') (sym (after_accepted b (store_checks b store (length output)) e)) h

  pub catalogue_refused : (number at : ℕ) → checked b ≡ refused number at → ByOutcome b store output (write_checks b store (length output)) (Err (refusal number at)) output
  unfolding write_checks
  catalogue_refused number at e =
      subst (λ (o : Outcome). ByOutcome b store output o (Err (refusal number at)) output) (sym (after_refused b (store_checks b store (length output)) e)) stays
