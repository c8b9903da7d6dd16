-- A store with the first k axioms in force, by their numbers c · n + d, and nothing else marked.
use Prim.Native.Nat.{ℕ, zero, suc, ◌+◌, ◌*◌, ◌/◌, ◌%◌, ◌≤◌, ◌<◌}
use native.Mathlib.Nat.{div-add-mod', div-lt_iff_lt-mul, mod-lt}
use native.Mathlib.Omega.{arith}
use mathlib.Core.Path.{◌≡◌, refl, sym, ap, ap₂, ◌∙◌}
use mathlib.Core.Bool.{Bool, true, ◌||◌}
use mathlib.Core.List.{List}
use lib.Dec.{eqb}
use lib.ListN.{length, replicate, length-replicate}
use borrow.Author.Tests.{eq-eqb, ne_eqb}
use Rattle.catalogue.specs.Header.{concepts}
use Rattle.catalogue.specs.WellFormed.{WellFormed}
use Rattle.rows.specs.Bits.{bit, set_bit, place, some_below, Bytes}
use Rattle.rows.proofs.Bits.{bit-set, bit_zeros, length-set_bit, bytes_zero, bytes_set_bit}
use Rattle.rows.proofs.Counting.{count_all, count_skip, some_at, some_none}
use Rattle.rows.proofs.Places.{place_split, place-within}
use Rattle.layout.specs.Parts.{width, used, row_count, in_force, spare_clear}
use Rattle.layout.proofs.StoreSizes.{used_rows, rows_split, width_fits}
use Rattle.layout.proofs.StoreRows.{in_force_bit, clear_spare}
use Rattle.store.specs.Written.{numbered, axiom_count}

-- The bit of the axiom with number p.
abbrev axiom_place : List ℕ → ℕ → ℕ
axiom_place b p = place (width b) (p / concepts b) (p % concepts b)

unfoldable pub first_axioms : List ℕ → ℕ → List ℕ
first_axioms b zero = replicate (used b) 0
first_axioms b (suc k) = set_bit (first_axioms b k) (axiom_place b k)

pub first_long : (b : List ℕ) (k : ℕ) → length (first_axioms b k) ≡ used b
unfolding first_axioms
first_long b zero = length-replicate (used b) 0
first_long b (suc k) = length-set_bit (first_axioms b k) (axiom_place b k) ∙ first_long b k

pub first_bytes : (b : List ℕ) (k : ℕ) → Bytes (first_axioms b k)
unfolding first_axioms
first_bytes b zero = bytes_zero (used b)
first_bytes b (suc k) = bytes_set_bit (first_axioms b k) (axiom_place b k) (first_bytes b k)

module _ (b : List ℕ) (wf : WellFormed b) where
  -- The sides of an axiom's number.
  side_left : (p : ℕ) → p < concepts b * concepts b → p / concepts b < concepts b
  side_left p l = (div-lt_iff_lt-mul wf.some_concept).1 l

  side_right : (p : ℕ) → p % concepts b < concepts b
  side_right p = mod-lt p (omega (arith, wf.some_concept))

  wide_right : (p : ℕ) → p % concepts b < 8 * width b
  wide_right p = omega (arith, side_right p, width_fits b)

  within : (p : ℕ) → p < concepts b * concepts b → axiom_place b p < 8 * used b
  within p l =
      let h = place-within (width b) (p / concepts b) (row_count b) (p % concepts b) (omega (arith, side_left p l, rows_split b)) (wide_right p) in
      omega (arith, used_rows b)

  first_bit : (k : ℕ) → k ≤ concepts b * concepts b → (j : ℕ) → bit (first_axioms b k) j ≡ some_below (λ p. eqb (axiom_place b p) j) k
  unfolding first_axioms some_below
  first_bit zero l j = bit_zeros (used b) j
  first_bit (suc k) l j =
      bit-set (first_axioms b k) (axiom_place b k) j (omega (arith, within k (omega arith), first_long b k))
      ∙ ap (λ (t : Bool). eqb (axiom_place b k) j || t) (first_bit k (omega arith) j)

  -- Two numbers with one place are one.
  same_number : (p q : ℕ) → axiom_place b p ≡ axiom_place b q → p ≡ q
  same_number p q e =
      let s = place_split (width b) (p / concepts b) (q / concepts b) (p % concepts b) (q % concepts b) (wide_right p) (wide_right q) e in
      sym (div-add-mod' p (concepts b)) ∙ ap₂ (λ (x y : ℕ). x * concepts b + y) s.0 s.1 ∙ div-add-mod' q (concepts b)

  module _ (k : ℕ) (few : k ≤ concepts b * concepts b) where
    in_force_lem : (q : ℕ) → q < concepts b * concepts b → numbered (concepts b) (in_force b (first_axioms b k)) q ≡ some_below (λ p. eqb (axiom_place b p) (axiom_place b q)) k
    unfolding numbered
    in_force_lem q l = in_force_bit b (first_axioms b k) (q / concepts b) (q % concepts b) (side_left q l) (wide_right q) ∙ first_bit k few (axiom_place b q)

    pub first_count : axiom_count b (in_force b (first_axioms b k)) ≡ k
    unfolding axiom_count
    first_count =
        let test = numbered (concepts b) (in_force b (first_axioms b k)) in
        count_skip test k (concepts b * concepts b) few
        (λ q low high. in_force_lem q high ∙ some_none (λ p. eqb (axiom_place b p) (axiom_place b q)) k (λ p l. ne_eqb _ _ (λ e. let s = same_number p q e in omega arith)))
        ∙ count_all test k
        (λ q l. in_force_lem q (omega arith) ∙ some_at (λ p. eqb (axiom_place b p) (axiom_place b q)) k q l (eq-eqb (axiom_place b q) (axiom_place b q) refl))

    pub first_clear : spare_clear b (first_axioms b k) ≡ true
    first_clear =
        clear_spare b (first_axioms b k)
        (λ r d lr low ld.
        first_bit k few (place (width b) r d)
        ∙ some_none (λ p. eqb (axiom_place b p) (place (width b) r d)) k
        (λ p l.
        ne_eqb _ _
        (λ e.
        let s = place_split (width b) (p / concepts b) r (p % concepts b) d (wide_right p) ld e in
        omega (arith, side_right p))))
