-- The entries of a listing: from a store classified afresh its names rise and stand in front of the list, two bytes each.
use Prim.Native.Nat.{ℕ, ◌*◌, ◌≤◌, ◌<◌}
use native.Mathlib.Omega.{arith}
use mathlib.Core.Path.{◌≡◌, refl, sym, ap, subst, ◌∙◌}
use mathlib.Core.List.{List, [], ◌∷◌}
use lib.ListN.{length, get_or}
use Rattle.std.proofs.Common.{Result, Ok, Err}
use Rattle.catalogue.specs.declared.checks.Refusal.{Refusal}
use Rattle.catalogue.specs.Verdicts.{refusal}
use Rattle.catalogue.specs.Header.{concepts}
use Rattle.catalogue.specs.Words.{word}
use Rattle.catalogue.specs.Outcome.{Outcome, accepted, refused}
use Rattle.catalogue.specs.Checks.{checked}
use Rattle.catalogue.proofs.Accepted.{accepted_well_formed}
use Rattle.rules.specs.Axioms.{Axioms, InRange}
use Rattle.rules.specs.Occurrence.{Occurs, occurs}
use Rattle.rules.proofs.Occurrence.{occurs_exact}
use Rattle.layout.specs.Parts.{in_force}
use Rattle.store.specs.Fresh.{Fresh}
use Rattle.store.specs.Written.{axiom_count}
use Rattle.store.proofs.Rising.{rising_lists}
use Rattle.store.proofs.Checks.{marked-axioms, every_one}
use Rattle.number_lists.specs.Lists.{with_front}
use Rattle.number_lists.proofs.Filling.{front_entry}
use Rattle.read_checks.specs.Checks.{list_checks}
use Rattle.lookups.specs.Listings.{atomic_under, kinds_under, listed, list_after, Lists}
use Rattle.meaning.specs.Meaning.{ListingFinds}
use Rattle.read_checks.proofs.Acceptance.{list_named}
use Rattle.meaning.proofs.DemandListing.{listing_means, listed_exact}
use Rattle.lookups.proofs.Unique.{refused_keeps}

-- ---- a listing from a fresh store

module _ (b : List ℕ) (F : Axioms) (store : List ℕ) (catalogue : checked b ≡ accepted) (range : InRange b F) (few : axiom_count b F ≤ 4096) (fresh : Fresh b F store)
    (d : ℕ) (list : List ℕ) (r : Result ℕ Refusal) (after : List ℕ)
    (f : Lists b d store list r after)
  where
    names : List ℕ
    names = kinds_under b d store

    -- Counted, it was accepted.
    counted_accepted : (k : ℕ) → r ≡ Ok k → (list_checks b (d ∷ []) store (length list) ≡ accepted) × (k ≡ length names)
    unfolding names
    counted_accepted k e = go (list_checks b (d ∷ []) store (length list)) refl (sym e ∙ f.answer)
      where
        go : (o : Outcome) → list_checks b (d ∷ []) store (length list) ≡ o → Ok k ≡ listed (list_checks b (d ∷ []) store (length list)) (kinds_under b d store)
            → (list_checks b (d ∷ []) store (length list) ≡ accepted) × (k ≡ length (kinds_under b d store))
        go accepted q a = (q, let z : ◌≡◌ {A = Result ℕ Refusal} (Ok k) (Ok (length (kinds_under b d store))) = a ∙ ap (λ (o : Outcome). listed o (kinds_under b d store)) q in cc)
        go (refused number at) q a =
            let z : ◌≡◌ {A = Result ℕ Refusal} (Ok k) (Err (refusal number at)) = a ∙ ap (λ (o : Outcome). listed o (kinds_under b d store)) q in
            let y : ◌≡◌ {A = ℕ} 0 1 = cc in
            absurd (let n : ⊥ = omega arith in n)

    after_is : (k : ℕ) → r ≡ Ok k → after ≡ with_front names list
    unfolding names
    after_is k e = f.entries ∙ ap (λ (o : Outcome). list_after o (kinds_under b d store) list) (counted_accepted k e).0

    named-occurs : (k : ℕ) → r ≡ Ok k → Occurs b F d
    named-occurs k e =
        let m = (list_named b (d ∷ []) store (length list) (counted_accepted k e).0).0 in
        let own : occurs b F d ≡ occurs b (in_force b store) d = ap (λ (G : Axioms). occurs b G d) (sym (marked-axioms b F store fresh)) in
        (occurs_exact b F (accepted_well_formed catalogue) range d).0 (own ∙ sym (every_one (occurs b (in_force b store)) d) ∙ m.occur)

    entry_is : (k : ℕ) → r ≡ Ok k → (i : ℕ) → i < length names → word after (2 * i) ≡ get_or names i 0
    entry_is k e i l = ap (λ (xs : List ℕ). word xs (2 * i)) (after_is k e) ∙ front_entry names list i l

    -- What a listing from a fresh store finds, and how it stands in the list.
    pub listing_finds : ListingFinds b F d (kinds_under b d store) list r after
    unfolding names kinds_under
    listing_finds =
        record {
          means = listing_means b F store catalogue range few fresh d list r after f;
          rises = (rising_lists (atomic_under b store d) (concepts b)).rises;
          front = λ k e. ((counted_accepted k e).1, after_is k e);
          entries = λ k e c.
              let exact = listed_exact b F store catalogue range few fresh d (named-occurs k e) c in
              let long = (counted_accepted k e).1 in (
                λ (i, l, h). exact.0 (i, subst (λ (n : ℕ). i < n) long l, sym (entry_is k e i (subst (λ (n : ℕ). i < n) long l)) ∙ h),
                λ n. let (i, l, h) = exact.1 n in (i, subst (λ (n : ℕ). i < n) (sym long) l, entry_is k e i l ∙ h),
              );
          keeps = λ number at e. refused_keeps b d store list r after number at f e;
        }
