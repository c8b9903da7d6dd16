-- The number of axioms by rows: the set bits of the axiom rows, where no spare bit is set.
use Prim.Native.Nat.{ℕ, zero, suc, ◌+◌, ◌*◌, ◌/◌, ◌%◌, ◌≤◌, ◌<◌}
use native.Mathlib.Nat.{suc-mul, zero-mul, le_refl}
use native.Mathlib.Omega.{arith}
use mathlib.Core.Path.{◌≡◌, sym, ap, ap₂, ◌∙◌}
use mathlib.Core.Bool.{true, false}
use mathlib.Core.List.{List}
use lib.ListN.{length}
use Rattle.catalogue.specs.Header.{concepts}
use Rattle.rows.specs.Bits.{bit, count_below, count_bits, place}
use Rattle.rows.proofs.Counting.{count_ext, count_add, count_skip}
use Rattle.rules.specs.Axioms.{Axioms}
use Rattle.rows.proofs.Places.{place-within}
use Rattle.layout.specs.Parts.{width, used, axiom_rows, in_force, spare_clear}
use Rattle.store.specs.Written.{numbered, axiom_count}
use Rattle.layout.proofs.StoreSizes.{rows_split, width_fits}
use Rattle.layout.proofs.StoreRows.{rows_long, bit_axiom_rows, in_force_bit, spare_clear_lem}
use Rattle.store.proofs.Written.{number-left, number-right}

-- Rows of w bytes that mark F below n and nothing from n upward.
module _ (n w : ℕ) (F : Axioms) (rows : List ℕ) (fits : n ≤ 8 * w) (marked : (c d : ℕ) → c < n → d < n → bit rows (place w c d) ≡ F c d) (spare : (c d : ℕ) → c < n → n ≤ d → d < 8 * w → bit rows (place w c d) ≡ false) where
  row_count : (c : ℕ) → c < n → count_below (λ d. bit rows (8 * (c * w) + d)) (8 * w) ≡ count_below (λ d. numbered n F (c * n + d)) n
  unfolding numbered place
  row_count c l =
      count_skip (λ d. bit rows (8 * (c * w) + d)) n (8 * w) fits (λ d p h. spare c d l p h)
      ∙ count_ext (λ d. bit rows (8 * (c * w) + d)) (λ d. F ((c * n + d) / n) ((c * n + d) % n)) n
      (λ d h. marked c d l h ∙ sym (ap₂ F (number-left n c d h) (number-right n c d h)))

  rows_count : (c : ℕ) → c ≤ n → count_below (bit rows) (8 * (c * w)) ≡ count_below (numbered n F) (c * n)
  unfolding count_below
  rows_count zero l =
      ap (λ k. count_below (bit rows) (8 * k)) (zero-mul w)
      ∙ sym (ap (count_below (numbered n F)) (zero-mul n))
  rows_count (suc c) l =
      ap (count_below (bit rows)) (let z : 8 * (suc c * w) ≡ 8 * (c * w) + 8 * w = omega (arith, suc-mul c w) in z)
      ∙ count_add (bit rows) (8 * (c * w)) (8 * w)
      ∙ ap₂ ◌+◌ (rows_count c (omega arith)) (row_count c l)
      ∙ sym (count_add (numbered n F) (c * n) n)
      ∙ ap (count_below (numbered n F)) (sym (suc-mul c n))

-- The set bits of a store's axiom rows are the axioms in force.
pub axiom_count_lem : (b store : List ℕ) → used b ≤ length store → spare_clear b store ≡ true → count_bits (axiom_rows b store) ≡ axiom_count b (in_force b store)
unfolding count_bits axiom_count
axiom_count_lem b store long clear =
    let n = concepts b in
    let w = width b in
    let fits = (width_fits b).0 in
    let place_in : (c d : ℕ) → c < n → d < 8 * w → bit (axiom_rows b store) (place w c d) ≡ bit store (place w c d) =
    λ c d l h. bit_axiom_rows b store (place w c d) (place-within w c n d l h)
    in
    ap (λ k. count_below (bit (axiom_rows b store)) (8 * k)) (rows_long b store long)
    ∙ rows_count n w (in_force b store) (axiom_rows b store) fits
    (λ c d l h. let g : d < 8 * w = omega arith in place_in c d l g ∙ sym (in_force_bit b store c d l g))
    (λ c d l low h. place_in c d l h ∙ spare_clear_lem b store clear c d (omega (arith, rows_split b)) low h)
    n (le_refl n)
