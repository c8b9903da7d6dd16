-- Demands 1 and 2 of a listing: from a store classified afresh it names exactly the atomic kinds that occur and lie under D, and an empty list
-- comes only where there is none.
use Prim.Native.Nat.{ℕ, ◌*◌, ◌≤◌, ◌<◌}
use native.Mathlib.Nat.{not-suc-le-zero}
use native.Mathlib.Omega.{arith}
use mathlib.Core.Path.{◌≡◌, refl, sym, ap, subst, ◌∙◌}
use mathlib.Core.Bool.{Bool, true, ◌&&◌}
use mathlib.Core.Logic.{◌↔◌}
use mathlib.Core.List.{List, [], ◌∷◌}
use lib.Dec.{ltb, eqb}
use lib.ListN.{length}
use borrow.Author.Tests.{ltb-true, lt-ltb, leb-true, le-leb, eqb-true, eq-eqb}
use Rattle.std.proofs.Common.{Result, Ok, Err}
use Rattle.catalogue.specs.declared.checks.Refusal.{Refusal}
use Rattle.catalogue.specs.Verdicts.{refusal}
use Rattle.catalogue.specs.Header.{concepts}
use Rattle.catalogue.specs.Records.{kind}
use Rattle.catalogue.specs.Outcome.{Outcome, accepted, refused}
use Rattle.catalogue.specs.Checks.{checked}
use Rattle.catalogue.specs.WellFormed.{WellFormed}
use Rattle.catalogue.proofs.Outcomes.{ask_yes, ask_no}
use Rattle.catalogue.proofs.Accepted.{accepted_well_formed}
use Rattle.booleans.proofs.Booleans.{by_bool, not-both, both}
use Rattle.rules.specs.Axioms.{Axioms, InRange}
use Rattle.rules.specs.Occurrence.{Occurs, occurs}
use Rattle.rules.specs.Rules.{partition}
use Rattle.rules.proofs.Allowed.{derived_marked}
use Rattle.rules.proofs.Occurrence.{occurs_exact, occurs_below}
use Rattle.rules.proofs.Says.{says_closure}
use Rattle.store.specs.Says.{says}
use Rattle.store.proofs.Says.{says_fresh}
use Rattle.store.specs.Written.{axiom_count}
use Rattle.store.specs.Fresh.{Fresh}
use Rattle.store.specs.Checks.{every, list_fits, ask_list, ask_numbers}
use Rattle.store.proofs.Rising.{rising_lists}
use Rattle.read_checks.specs.Checks.{ask_occurs, content_checks, list_checks}
use Rattle.lookups.specs.Listings.{atomic_under, kinds_under, listed, Lists}
use Rattle.meaning.specs.Meaning.{Among, KindUnder, ListingMeans}
use Rattle.store.proofs.Checks.{every_one}
use Rattle.meaning.proofs.DemandLookup.{open_passes, content_asks, meant}

-- ---- two answers are not one

count_not_refused : {r : Result ℕ Refusal} {k number at : ℕ} → r ≡ Ok k → r ≡ Err (refusal number at) → ⊥
count_not_refused e f = let z : ◌≡◌ {A = ℕ} 0 1 = cc in omega arith

same_number : {r : Result ℕ Refusal} {number number' at at' : ℕ} → r ≡ Err (refusal number at) → r ≡ Err (refusal number' at') → number ≡ number'
same_number {r} {number} {number'} {at} {at'} e f =
    let h : refusal number at ≡ refusal number' at' = cc in
    ap (λ (x : Refusal). x.number) h

same_count : {r : Result ℕ Refusal} {k k' : ℕ} → r ≡ Ok k → r ≡ Ok k' → k ≡ k'
same_count e f = cc

module _ (b : List ℕ) (F : Axioms) (store : List ℕ) (catalogue : checked b ≡ accepted) (range : InRange b F) (few : axiom_count b F ≤ 4096) (fresh : Fresh b F store) where
  wf : WellFormed b
  wf = accepted_well_formed catalogue

  -- An atomic concept that the store says is under D is a kind under D, and a kind under D is one.
  under_means : (d : ℕ) → Occurs b F d → (c : ℕ) → (atomic_under b store d c ≡ true) ↔ KindUnder b F d c
  unfolding atomic_under partition
  under_means d p c = (only, all)
    where
      has : Bool
      has = says b store c d

      only : (eqb (kind b c) 0 && has) ≡ true → KindUnder b F d c
      only e =
          let (k, h) = (both (eqb (kind b c) 0) has).0 e in
          let o : Occurs b F c = (occurs_exact b F wf range c).0 (derived_marked b F (occurs b F) ((says_closure b F c d).0 ((says_fresh b F store fresh c d).0 h))) in
          (eqb-true (kind b c) 0 k, o, (meant b F store catalogue range few fresh c d o p).0.0 h)

      all : KindUnder b F d c → (eqb (kind b c) 0 && has) ≡ true
      all (k, o, n) = (both (eqb (kind b c) 0) has).1 (eq-eqb (kind b c) 0 k, (meant b F store catalogue range few fresh c d o p).0.1 n)

  -- What is listed is exactly that.
  pub listed_exact : (d : ℕ) → Occurs b F d → (c : ℕ) → Among (kinds_under b d store) c ↔ KindUnder b F d c
  unfolding kinds_under
  listed_exact d p c =
      let names = rising_lists (atomic_under b store d) (concepts b) in (
        λ (i, l, e). (under_means d p c).0 (subst (λ (x : ℕ). atomic_under b store d x ≡ true) e (names.passes i l)),
        λ u. names.all c (occurs_below b F wf range c u.1) ((under_means d p c).1 u),
      )

  -- ---- the four cases

  list_asks : (d long : ℕ) → list_checks b (d ∷ []) store long ≡ ask_list b long (ask_numbers b (d ∷ []) (ask_occurs (occurs b F) (d ∷ []) accepted))
  unfolding list_checks
  list_asks d long =
      open_passes b F store catalogue range few fresh (ask_list b long (content_checks b (d ∷ []) store))
      ∙ ap (ask_list b long) (content_asks b F store catalogue range few fresh (d ∷ []))

  fits_means : (long : ℕ) → (list_fits b long ≡ true) ↔ (2 * concepts b ≤ long)
  unfolding list_fits
  fits_means long = (leb-true (2 * concepts b) long, le-leb (2 * concepts b) long)

  below_means : (d : ℕ) → (every (λ x. ltb x (concepts b)) (d ∷ []) ≡ true) ↔ (d < concepts b)
  below_means d = (λ e. ltb-true d (concepts b) (sym (every_one (λ x. ltb x (concepts b)) d) ∙ e), λ l. every_one (λ x. ltb x (concepts b)) d ∙ lt-ltb d (concepts b) l)

  occur_means : (d : ℕ) → (every (occurs b F) (d ∷ []) ≡ true) ↔ Occurs b F d
  occur_means d =
      let exact = occurs_exact b F wf range d in
      (λ e. exact.0 (sym (every_one (occurs b F) d) ∙ e), λ o. every_one (occurs b F) d ∙ exact.1 o)

  refused_short : (d long : ℕ) (r : Result ℕ Refusal) → r ≡ Err (refusal 12 0) → ¬ (2 * concepts b ≤ long) → ListingMeans b F d long r (kinds_under b d store)
  refused_short d long r e n =
      record {
        counts = λ l o. absurd (n l);
        exact = listed_exact d;
        empty = (λ q. absurd (count_not_refused q e), λ (l, _, _). absurd (n l));
        short = (λ _. n, λ _. e);
        outside = (λ q. absurd (let z : ◌≡◌ {A = ℕ} 12 15 = same_number e q in let y : ⊥ = omega arith in y), λ (l, _). absurd (n l));
        absent = (λ q. absurd (let z : ◌≡◌ {A = ℕ} 12 19 = same_number e q in let y : ⊥ = omega arith in y), λ (l, _, _). absurd (n l));
      }

  refused_outside : (d long : ℕ) (r : Result ℕ Refusal) → r ≡ Err (refusal 15 0) → 2 * concepts b ≤ long → ¬ (d < concepts b) → ListingMeans b F d long r (kinds_under b d store)
  refused_outside d long r e l n =
      record {
        counts = λ _ o. absurd (n (occurs_below b F wf range d o));
        exact = listed_exact d;
        empty = (λ q. absurd (count_not_refused q e), λ (_, o, _). absurd (n (occurs_below b F wf range d o)));
        short = (λ q. absurd (let z : ◌≡◌ {A = ℕ} 15 12 = same_number e q in let y : ⊥ = omega arith in y), λ m. absurd (m l));
        outside = (λ _. (l, n), λ _. e);
        absent = (λ q. absurd (let z : ◌≡◌ {A = ℕ} 15 19 = same_number e q in let y : ⊥ = omega arith in y), λ (_, p, _). absurd (n p));
      }

  refused_absent : (d long : ℕ) (r : Result ℕ Refusal) → r ≡ Err (refusal 19 0) → 2 * concepts b ≤ long → d < concepts b → ¬ (Occurs b F d) → ListingMeans b F d long r (kinds_under b d store)
  refused_absent d long r e l p n =
      record {
        counts = λ _ o. absurd (n o);
        exact = listed_exact d;
        empty = (λ q. absurd (count_not_refused q e), λ (_, o, _). absurd (n o));
        short = (λ q. absurd (let z : ◌≡◌ {A = ℕ} 19 12 = same_number e q in let y : ⊥ = omega arith in y), λ m. absurd (m l));
        outside = (λ q. absurd (let z : ◌≡◌ {A = ℕ} 19 15 = same_number e q in let y : ⊥ = omega arith in y), λ (_, m). absurd (m p));
        absent = (λ _. (l, p, n), λ _. e);
      }

  -- Nothing is listed exactly where there is no kind under D.
  none_listed : (d : ℕ) → Occurs b F d → (length (kinds_under b d store) ≡ 0) ↔ ((c : ℕ) → ¬ (KindUnder b F d c))
  none_listed d o = (
    λ e c u. let (i, l, _) = (listed_exact d o c).1 u in not-suc-le-zero (subst (λ (k : ℕ). i < k) e l),
    λ n. none (kinds_under b d store) (λ c a. n c ((listed_exact d o c).0 a)),
  )
    where
      none : (names : List ℕ) → ((c : ℕ) → ¬ (Among names c)) → length names ≡ 0
      none [] n = refl
      none (c ∷ names) n = absurd (n c (0, omega arith, refl))

  counted : (d long : ℕ) (r : Result ℕ Refusal) → r ≡ Ok (length (kinds_under b d store)) → 2 * concepts b ≤ long → Occurs b F d → ListingMeans b F d long r (kinds_under b d store)
  counted d long r e l o =
      record {
        counts = λ _ _. e;
        exact = listed_exact d;
        empty = (λ q. (l, o, (none_listed d o).0 (same_count e q)), λ (_, _, n). e ∙ ap Ok ((none_listed d o).1 n));
        short = (λ q. absurd (count_not_refused e q), λ m. absurd (m l));
        outside = (λ q. absurd (count_not_refused e q), λ (_, m). absurd (m (occurs_below b F wf range d o)));
        absent = (λ q. absurd (count_not_refused e q), λ (_, _, n). absurd (n o));
      }

  answer_is : (d : ℕ) (list : List ℕ) (r : Result ℕ Refusal) (after : List ℕ) (o : Outcome) → Lists b d store list r after → list_checks b (d ∷ []) store (length list) ≡ o → r ≡ listed o (kinds_under b d store)
  answer_is d list r after o f e = f.answer ∙ ap (λ (x : Outcome). listed x (kinds_under b d store)) e

  -- Demand 1 and 2 of a listing from a fresh store.
  pub listing_means : (d : ℕ) (list : List ℕ) (r : Result ℕ Refusal) (after : List ℕ) → Lists b d store list r after → ListingMeans b F d (length list) r (kinds_under b d store)
  unfolding ask_list ask_numbers ask_occurs
  listing_means d list r after f =
      let long = length list in
      let asks = list_asks d long in
      by_bool (list_fits b long)
      (λ fits.
      let l = (fits_means long).0 fits in
      by_bool (every (λ x. ltb x (concepts b)) (d ∷ []))
      (λ below.
      by_bool (every (occurs b F) (d ∷ []))
      (λ occur. counted d long r (answer_is d list r after accepted f (asks ∙ ask_yes 12 0 _ fits ∙ ask_yes 15 0 _ below ∙ ask_yes 19 0 _ occur)) l ((occur_means d).0 occur))
      (λ missing. refused_absent d long r (answer_is d list r after (refused 19 0) f (asks ∙ ask_yes 12 0 _ fits ∙ ask_yes 15 0 _ below ∙ ask_no 19 0 _ missing)) l ((below_means d).0 below) (λ o. not-both ((occur_means d).1 o) missing)))
      (λ out. refused_outside d long r (answer_is d list r after (refused 15 0) f (asks ∙ ask_yes 12 0 _ fits ∙ ask_no 15 0 _ out)) l (λ p. not-both ((below_means d).1 p) out)))
      (λ short. refused_short d long r (answer_is d list r after (refused 12 0) f (asks ∙ ask_no 12 0 _ short)) (λ l. not-both ((fits_means long).1 l) short))
