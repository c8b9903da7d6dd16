-- The catalogue's own axioms by their numbers, in the order of its records; how many axioms there are: of its own as many as its records, and one more
-- or one less after an edit.
use Prim.Native.Nat.{ℕ, zero, suc, ◌+◌, ◌*◌, ◌/◌, ◌%◌, ◌<◌}
use native.Mathlib.Nat.{not-suc-le-zero, div-add-mod'}
use native.Mathlib.Decide.{ℕ_discrete}
use native.Mathlib.Omega.{arith}
use mathlib.Core.Path.{◌≡◌, refl, sym, ap, ap₂, ◌∙◌}
use mathlib.Core.Logic.{inl, inr, ⊎_elim}
use mathlib.Core.Bool.{Bool, true, false}
use mathlib.Core.List.{List}
use Rattle.catalogue.specs.Header.{concepts, axioms}
use Rattle.catalogue.specs.Records.{left, right}
use Rattle.catalogue.specs.WellFormed.{WellFormed}
use Rattle.rows.specs.Bits.{count_below}
use Rattle.rows.proofs.Counting.{count_ext, count_pass, count_fail}
use Rattle.booleans.proofs.Booleans.{by_bool, not_true_false, agree}
use Rattle.rules.specs.Axioms.{Axioms, catalogue_axioms, added, withdrawn}
use Rattle.rules.proofs.Axioms.{catalogue_axioms_exact, added_exact, withdrawn_exact}
use Rattle.rows.proofs.Places.{row_within}
use Rattle.store.specs.Written.{numbered, axiom_count}
use Rattle.store.proofs.Rising.{Indexed, count_indexed}
use Rattle.store.proofs.Written.{number-left, number-right, number_below}

-- ---- the catalogue's own axioms

-- Record k has the k-th number in force.
pub catalogue_indexed : (b : List ℕ) → WellFormed b
    → Indexed (numbered (concepts b) (catalogue_axioms b)) (concepts b * concepts b) (axioms b) (λ k. left b k * concepts b + right b k)
unfolding numbered
catalogue_indexed b wf =
    let n = concepts b in
    let F = catalogue_axioms b in
    let p : ℕ → ℕ = λ i. left b i * n + right b i in
    record {
      below = λ i l. let s = wf.sides i l in number_below n (left b i) (right b i) s.0 s.1;
      passes = λ i l.
          let s = wf.sides i l in
          ap₂ F (number-left n (left b i) (right b i) s.1) (number-right n (left b i) (right b i) s.1)
          ∙ (catalogue_axioms_exact b (left b i) (right b i)).1 (i, l, refl, refl);
      rises = λ i l.
          let s = wf.sides i (omega arith) in
          ⊎_elim
          (λ h. let z : p i < p (suc i) = omega (arith, row_within n (left b i) (left b (suc i)) h) in z)
          (λ (e, h). let z : p i < p (suc i) = omega (arith, ap (λ x. x * n) e) in z)
          (wf.rising i l);
      all = λ q l t.
          let f = (catalogue_axioms_exact b (q / n) (q % n)).0 t in
          (f.0, f.1, ap₂ (λ (x y : ℕ). x * n + y) f.2 f.3 ∙ div-add-mod' q n);
    }

pub catalogue_count : (b : List ℕ) → WellFormed b → axiom_count b (catalogue_axioms b) ≡ axioms b
unfolding axiom_count
catalogue_count b wf = count_indexed (numbered (concepts b) (catalogue_axioms b)) _ (concepts b * concepts b) (axioms b) (catalogue_indexed b wf)

-- ---- one more, one less

-- Two tests that differ at q alone.
count_more : (f g : ℕ → Bool) (k q : ℕ) → q < k → f q ≡ false → g q ≡ true → ((j : ℕ) → (j ≡ q → ⊥) → f j ≡ g j) → count_below g k ≡ suc (count_below f k)
count_more f g zero q l fq gq same = absurd (not-suc-le-zero l)
count_more f g (suc k) q l fq gq same =
    elim (ℕ_discrete k q) [
      | yes e ↦
          count_pass g k (ap g e ∙ gq)
          ∙ ap suc (sym (count_ext f g k (λ j h. same j (λ s. omega arith))) ∙ sym (count_fail f k (ap f e ∙ fq)))
      | no d ↦
          let ih = count_more f g k q (omega arith) fq gq same in
          by_bool (f k)
          (λ e. count_pass g k (sym (same k d) ∙ e) ∙ ap suc ih ∙ ap suc (sym (count_pass f k e)))
          (λ e. count_fail g k (sym (same k d) ∙ e) ∙ ih ∙ ap suc (sym (count_fail f k e)))
    ]

-- Two sets of axioms that differ at (l, r) alone.
module _ (b : List ℕ) (F G : Axioms) (l r : ℕ) (hl : l < concepts b) (hr : r < concepts b) (out : F l r ≡ false) (within : G l r ≡ true) (same : (c d : ℕ) → ((c ≡ l) × (d ≡ r) → ⊥) → F c d ≡ G c d) where
  one_more : axiom_count b G ≡ suc (axiom_count b F)
  unfolding axiom_count numbered
  one_more =
      let n = concepts b in
      let q = l * n + r in
      let el = number-left n l r hr in
      let er = number-right n l r hr in
      count_more (numbered n F) (numbered n G) (n * n) q (number_below n l r hl hr) (ap₂ F el er ∙ out) (ap₂ G el er ∙ within)
      (λ j d. same (j / n) (j % n) (λ (a, c). d (sym (div-add-mod' j n) ∙ ap₂ (λ (x y : ℕ). x * n + y) a c)))

pub added_count : (b : List ℕ) (F : Axioms) (l r : ℕ) → l < concepts b → r < concepts b → F l r ≡ false → axiom_count b (added F l r) ≡ suc (axiom_count b F)
added_count b F l r hl hr out =
    one_more b F (added F l r) l r hl hr out ((added_exact F l r l r).1 (inr (refl, refl)))
    (λ c d other.
    agree (F c d) (added F l r c d) (λ e. (added_exact F l r c d).1 (inl e))
    (λ e. ⊎_elim (λ f. f) (λ (p, q). absurd (other (sym p, sym q))) ((added_exact F l r c d).0 e)))

pub withdrawn_count : (b : List ℕ) (F : Axioms) (l r : ℕ) → l < concepts b → r < concepts b → F l r ≡ true → axiom_count b F ≡ suc (axiom_count b (withdrawn F l r))
withdrawn_count b F l r hl hr there =
    one_more b (withdrawn F l r) F l r hl hr (not_true_false _ (λ e. ((withdrawn_exact F l r l r).0 e).1 (refl, refl))) there
    (λ c d other.
    agree (withdrawn F l r c d) (F c d) (λ e. ((withdrawn_exact F l r c d).0 e).0)
    (λ e. (withdrawn_exact F l r c d).1 (e, λ (p, q). other (sym p, sym q))))
