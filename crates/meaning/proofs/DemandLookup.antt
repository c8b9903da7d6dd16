-- Demands 1 and 2 of the calls that read: what their answers mean from a store classified afresh, under the same catalogue.
use Prim.Native.Nat.{ℕ, ◌≤◌, ◌<◌}
use native.Mathlib.Omega.{arith}
use mathlib.Core.Path.{◌≡◌, refl, sym, ap, subst, ◌∙◌}
use mathlib.Core.Bool.{Bool, true, false}
use mathlib.Core.Logic.{◌↔◌, ◌⊎◌, inl, inr}
use mathlib.Core.List.{List, [], ◌∷◌}
use lib.Dec.{ltb}
use lib.ListN.{length}
use borrow.Author.Tests.{ltb-true, lt-ltb}
use Rattle.std.proofs.Common.{Result, Ok, Err}
use Rattle.catalogue.specs.declared.checks.Refusal.{Refusal}
use Rattle.catalogue.specs.Verdicts.{refusal}
use Rattle.catalogue.specs.Header.{concepts}
use Rattle.catalogue.specs.Outcome.{Outcome, accepted}
use Rattle.catalogue.specs.Checks.{checked}
use Rattle.catalogue.specs.WellFormed.{WellFormed}
use Rattle.catalogue.proofs.Outcomes.{ask_yes, ask_no}
use Rattle.catalogue.proofs.Passed.{after_accepted}
use Rattle.catalogue.proofs.Accepted.{accepted_well_formed}
use Rattle.booleans.proofs.Booleans.{by_bool, not-both, both}
use Rattle.rules.specs.Axioms.{Axioms, InRange}
use Rattle.rules.specs.Occurrence.{Occurs, occurs}
use Rattle.rules.specs.Models.{Entails, Refuted}
use Rattle.rules.proofs.Occurrence.{occurs_exact, occurs_below}
use Rattle.rules.proofs.DemandTwo.{demand_two_closure}
use Rattle.layout.specs.Parts.{held}
use Rattle.store.specs.Says.{says}
use Rattle.store.proofs.Says.{says_pair}
use Rattle.store.specs.Written.{axiom_count}
use Rattle.store.specs.Fresh.{Fresh}
use Rattle.store.specs.Checks.{every, ask_store, ask_spare, ask_limit, ask_numbers}
use Rattle.store.proofs.Checks.{marked-axioms, marked_fits, marked_limit, every_two}
use Rattle.read_checks.specs.Checks.{ask_occurs, open_checks, content_checks, read_checks}
use Rattle.lookups.specs.Answers.{looked, looked_up}
use Rattle.meaning.specs.Meaning.{LookupMeans}
use Rattle.lookups.proofs.Answered.{looked_up_lem, looked_refused}

-- ---- two answers are not one

yes_not_no : {r : Result Bool Refusal} → r ≡ Ok true → r ≡ Ok false → ⊥
yes_not_no e f = let z : ◌≡◌ {A = ℕ} 0 1 = cc in omega arith

yes_not_refused : {r : Result Bool Refusal} {number at : ℕ} → r ≡ Ok true → r ≡ Err (refusal number at) → ⊥
yes_not_refused e f = let z : ◌≡◌ {A = ℕ} 0 1 = cc in omega arith

no_not_refused : {r : Result Bool Refusal} {number at : ℕ} → r ≡ Ok false → r ≡ Err (refusal number at) → ⊥
no_not_refused e f = let z : ◌≡◌ {A = ℕ} 0 1 = cc in omega arith

not_both_refused : {r : Result Bool Refusal} → r ≡ Err (refusal 19 0) → r ≡ Err (refusal 15 0) → ⊥
not_both_refused e f =
    let h : refusal 19 0 ≡ refusal 15 0 = cc in
    let z : ◌≡◌ {A = ℕ} 19 15 = ap (λ (x : Refusal). x.number) h in
    omega arith

-- ---- two tests as one

-- Both of two tests that decide.
two_decide : {P : ℕ → Type 0} (test : ℕ → Bool) → ((c : ℕ) → (test c ≡ true) ↔ P c) → (c d : ℕ) → (every test (c ∷ d ∷ []) ≡ true) ↔ (P c × P d)
two_decide test decide c d = (
  λ e. let p = (both (test c) (test d)).0 (sym (every_two test c d) ∙ e) in ((decide c).0 p.0, (decide d).0 p.1),
  λ p. every_two test c d ∙ (both (test c) (test d)).1 ((decide c).1 p.0, (decide d).1 p.1),
)

below_decides : (n c : ℕ) → (ltb c n ≡ true) ↔ (c < n)
below_decides n c = (ltb-true c n, lt-ltb c n)

-- A store classified afresh from F, with the catalogue that it was classified under.
module _ (b : List ℕ) (F : Axioms) (store : List ℕ) (catalogue : checked b ≡ accepted) (range : InRange b F) (few : axiom_count b F ≤ 4096) (fresh : Fresh b F store) where
  wf : WellFormed b
  wf = accepted_well_formed catalogue

  -- Questions 1 to 10 pass, and so do 13 and 14: the calls ask 15 and 19 of F.
  pub content_asks : (names : List ℕ) → content_checks b names store ≡ ask_numbers b names (ask_occurs (occurs b F) names accepted)
  unfolding content_checks ask_spare ask_limit
  content_asks names =
      ask_yes 13 0 _ fresh.spare
      ∙ ask_yes 14 0 _ (marked_limit b F store fresh few)
      ∙ ap (λ (G : Axioms). ask_numbers b names (ask_occurs (occurs b G) names accepted)) (marked-axioms b F store fresh)

  pub open_passes : (rest : Outcome) → open_checks b (length store) rest ≡ rest
  unfolding open_checks ask_store
  open_passes rest = after_accepted b _ catalogue ∙ ask_yes 10 0 rest (marked_fits b F store fresh)

  pub read_asks : (names : List ℕ) → read_checks b names store ≡ ask_numbers b names (ask_occurs (occurs b F) names accepted)
  unfolding read_checks
  read_asks names = open_passes (content_checks b names store) ∙ content_asks names

  -- ---- lookup

  below_names : (c d : ℕ) → (every (λ x. ltb x (concepts b)) (c ∷ d ∷ []) ≡ true) ↔ ((c < concepts b) × (d < concepts b))
  below_names = two_decide (λ x. ltb x (concepts b)) (below_decides (concepts b))

  occur_names : (c d : ℕ) → (every (occurs b F) (c ∷ d ∷ []) ≡ true) ↔ (Occurs b F c × Occurs b F d)
  occur_names = two_decide (occurs b F) (occurs_exact b F wf range)

  -- What the store says of two concepts that occur.
  pub meant : (c d : ℕ) → Occurs b F c → Occurs b F d → ((says b store c d ≡ true) ↔ Entails b F c d) × ((says b store c d ≡ false) ↔ Refuted b F c d)
  meant c d o p =
      subst (λ (t : Bool). ((t ≡ true) ↔ Entails b F c d) × ((t ≡ false) ↔ Refuted b F c d)) (sym (says_pair b store c d))
      (demand_two_closure b F (held b store) wf range fresh.set c d o p)

  -- Where 15 says no, where 19 does, and where both say yes.
  outside_means : (c d : ℕ) (r : Result Bool Refusal) → r ≡ Err (refusal 15 0) → ¬ ((c < concepts b) × (d < concepts b)) → LookupMeans b F c d r
  outside_means c d r e out =
      let never : Occurs b F c → Occurs b F d → ⊥ = λ o p. out (occurs_below b F wf range c o, occurs_below b F wf range d p) in
      record {
        yes_means = (λ q. absurd (yes_not_refused q e), λ (o, p, _). absurd (never o p));
        no_means = (λ q. absurd (no_not_refused q e), λ (o, p, _). absurd (never o p));
        absent = (λ q. absurd (not_both_refused q e), λ (lc, ld, _). absurd (out (lc, ld)));
        outside = (λ _. out, λ _. e);
        one_of = inr (inr (inr e));
      }

  absent_means : (c d : ℕ) (r : Result Bool Refusal) → r ≡ Err (refusal 19 0) → (c < concepts b) × (d < concepts b) → ¬ (Occurs b F c × Occurs b F d) → LookupMeans b F c d r
  absent_means c d r e below missing =
      record {
        yes_means = (λ q. absurd (yes_not_refused q e), λ (o, p, _). absurd (missing (o, p)));
        no_means = (λ q. absurd (no_not_refused q e), λ (o, p, _). absurd (missing (o, p)));
        absent = (λ _. (below.0, below.1, missing), λ _. e);
        outside = (λ q. absurd (not_both_refused e q), λ out. absurd (out below));
        one_of = inr (inr (inl e));
      }

  answer_means : (c d : ℕ) (r : Result Bool Refusal) (t : Bool) → says b store c d ≡ t → r ≡ looked accepted t → Occurs b F c × Occurs b F d → LookupMeans b F c d r
  answer_means c d r true h e (o, p) =
      let (yes-is, no-is) = meant c d o p in
      let below : (c < concepts b) × (d < concepts b) = (occurs_below b F wf range c o, occurs_below b F wf range d p) in
      record {
        yes_means = (λ _. (o, p, yes-is.0 h), λ _. e);
        no_means = (λ q. absurd (yes_not_no e q), λ (_, _, n). absurd (not-both h (no-is.1 n)));
        absent = (λ q. absurd (yes_not_refused e q), λ (_, _, n). absurd (n (o, p)));
        outside = (λ q. absurd (yes_not_refused e q), λ n. absurd (n below));
        one_of = inl e;
      }
  answer_means c d r false h e (o, p) =
      let (yes-is, no-is) = meant c d o p in
      let below : (c < concepts b) × (d < concepts b) = (occurs_below b F wf range c o, occurs_below b F wf range d p) in
      record {
        yes_means = (λ q. absurd (yes_not_no q e), λ (_, _, y). absurd (not-both (yes-is.1 y) h));
        no_means = (λ _. (o, p, no-is.0 h), λ _. e);
        absent = (λ q. absurd (no_not_refused e q), λ (_, _, n). absurd (n (o, p)));
        outside = (λ q. absurd (no_not_refused e q), λ n. absurd (n below));
        one_of = inr (inl e);
      }

  -- Demand 2, and the refusals of demand 1: what a lookup from a fresh store means.
  pub lookup_means : (c d : ℕ) → LookupMeans b F c d (looked_up b c d store)
  unfolding ask_numbers ask_occurs
  lookup_means c d =
      let asks = read_asks (c ∷ d ∷ []) in
      by_bool (every (λ x. ltb x (concepts b)) (c ∷ d ∷ []))
      (λ below.
      by_bool (every (occurs b F) (c ∷ d ∷ []))
      (λ occur.
      answer_means c d (looked_up b c d store) (says b store c d) refl (looked_up_lem b c d store (asks ∙ ask_yes 15 0 _ below ∙ ask_yes 19 0 _ occur) refl) ((occur_names c d).0 occur))
      (λ missing.
      absent_means c d (looked_up b c d store) (looked_refused b c d store (asks ∙ ask_yes 15 0 _ below ∙ ask_no 19 0 _ missing)) ((below_names c d).0 below)
      (λ o. not-both ((occur_names c d).1 o) missing)))
      (λ out.
      outside_means c d (looked_up b c d store) (looked_refused b c d store (asks ∙ ask_no 15 0 _ out)) (λ l. not-both ((below_names c d).1 l) out))

  -- Two concepts that occur are answered.
  pub occurring_answered : (c d : ℕ) → Occurs b F c → Occurs b F d → (looked_up b c d store ≡ Ok true) ⊎ (looked_up b c d store ≡ Ok false)
  occurring_answered c d o p = go (lookup_means c d).one_of
    where
      r : Result Bool Refusal
      r = looked_up b c d store

      go : (r ≡ Ok true) ⊎ ((r ≡ Ok false) ⊎ ((r ≡ Err (refusal 19 0)) ⊎ (r ≡ Err (refusal 15 0)))) → (r ≡ Ok true) ⊎ (r ≡ Ok false)
      go (inl e) = inl e
      go (inr (inl e)) = inr e
      go (inr (inr (inl e))) = absurd (((lookup_means c d).absent.0 e).2 (o, p))
      go (inr (inr (inr e))) = absurd ((lookup_means c d).outside.0 e (occurs_below b F wf range c o, occurs_below b F wf range d p))
