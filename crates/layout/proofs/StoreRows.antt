-- The rows of a store: a bit below n says what is in force or held, and one from n upward is spare.
use Prim.Native.Nat.{ℕ, suc, ◌+◌, ◌-◌, ◌*◌, ◌/◌, ◌%◌, ◌≤◌, ◌<◌}
use native.Mathlib.Nat.{add_assoc, add-mul, div-lt_iff_lt-mul, mod-lt, div-add-mod'}
use native.Mathlib.Decide.{dec_lt}
use native.Mathlib.Omega.{arith}
use mathlib.Core.Path.{◌≡◌, sym, ap, ◌∙◌}
use mathlib.Core.Logic.{◌⊎◌, inl, inr}
use mathlib.Core.Bool.{true, false, not, ◌&&◌}
use mathlib.Core.List.{List}
use lib.Dec.{ltb}
use lib.ListN.{length, take, drop}
use lib.Seq.{length-take-le}
use borrow.Author.Tests.{lt-ltb, not-true}
use Rattle.catalogue.specs.Header.{concepts, roles}
use Rattle.rows.specs.Bits.{bit, place}
use Rattle.rows.proofs.Counting.{some_none, none_below}
use Rattle.booleans.proofs.Booleans.{not-both}
use Rattle.rules.specs.Axioms.{InRange}
use Rattle.rules.specs.Rules.{Expression, fact, pair, link, Bounded}
use Rattle.layout.specs.declared.Shape.{Shape}
use Rattle.layout.specs.Layout.{shape_of, row_of, table, table_length, block_length}
use Rattle.rows.proofs.Places.{place-within, some_factor}
use Rattle.layout.proofs.Places.{row_of_below}
use Rattle.rows.proofs.RowParts.{bit_mid}
use Rattle.layout.proofs.BlockRows.{marks-bit, marks_elim, table_elim}
use Rattle.layout.specs.Parts.{width, used, axiom_row_at, pair_row_at, link_row_at, row_at, axiom_rows, set_rows, in_force, held, row_count, set_from, spare_clear}
use Rattle.layout.proofs.StoreSizes.{table_long, block_long, used_split, rows_split, width_fits}
use Rattle.layout.proofs.Sizes.{shape_table}

-- ---- bits of the two parts

bit_part : (xs : List ℕ) (a k i : ℕ) → i < 8 * k → bit (take k (drop a xs)) i ≡ bit xs (8 * a + i)
bit_part xs a k i h =
    ap (λ e. bit (take e (drop a xs)) i) (let z : k ≡ (a + k) - a = omega arith in z)
    ∙ bit_mid xs a (a + k) i (omega arith)

pub bit_front : (xs : List ℕ) (k i : ℕ) → i < 8 * k → bit (take k xs) i ≡ bit xs i
bit_front xs k i h = bit_part xs 0 k i h ∙ ap (bit xs) (let z : 8 * 0 + i ≡ i = omega arith in z)

pub bit_axiom_rows : (b store : List ℕ) (i : ℕ) → i < 8 * (concepts b * width b) → bit (axiom_rows b store) i ≡ bit store i
unfolding axiom_rows
bit_axiom_rows b store i h = bit_front store (table_length (shape_of b)) i (omega (arith, table_long b))

bit_set_rows : (b store : List ℕ) (i : ℕ) → i < 8 * ((concepts b + concepts b * roles b) * width b) → bit (set_rows b store) i ≡ bit store (8 * (concepts b * width b) + i)
unfolding set_rows
bit_set_rows b store i h =
    bit_part store (table_length (shape_of b)) (block_length (shape_of b)) i (omega (arith, block_long b))
    ∙ ap (bit store) (let z : 8 * table_length (shape_of b) + i ≡ 8 * (concepts b * width b) + i = omega (arith, table_long b) in z)

-- The axiom rows as a call lends them: the first n rows.
pub rows_taken : (b store : List ℕ) {s : Shape} → s ≡ shape_of b → take (s.concepts * s.width) store ≡ axiom_rows b store
unfolding axiom_rows
rows_taken b store e = ap (λ (k : ℕ). take k store) (shape_table b e ∙ sym (table_long b))

pub rows_long : (b store : List ℕ) → used b ≤ length store → length (axiom_rows b store) ≡ concepts b * width b
unfolding axiom_rows
rows_long b store long = length-take-le (table_length (shape_of b)) store (omega (arith, used_split b)) ∙ table_long b

pub taken_long : (b store : List ℕ) {s : Shape} → s ≡ shape_of b → used b ≤ length store → s.concepts * s.width ≡ length (take (s.concepts * s.width) store)
taken_long b store e long = shape_table b e ∙ sym (rows_long b store long) ∙ ap (λ (xs : List ℕ). length xs) (sym (rows_taken b store e))

-- ---- what a bit of a row says

pub in_force_bit : (b store : List ℕ) (c d : ℕ) → c < concepts b → d < 8 * width b → in_force b store c d ≡ bit store (place (width b) c d)
unfolding in_force table shape_of width
in_force_bit b store c d lc ld =
    ap (λ t. t && (ltb d (8 * width b) && bit (axiom_rows b store) (place (width b) c d))) (lt-ltb c (concepts b) lc)
    ∙ ap (λ t. t && bit (axiom_rows b store) (place (width b) c d)) (lt-ltb d (8 * width b) ld)
    ∙ bit_axiom_rows b store (place (width b) c d) (place-within (width b) c (concepts b) d lc ld)

-- Row r of the block is row n + r of the store.
block_place : (n w r d : ℕ) → 8 * (n * w) + place w r d ≡ place w (n + r) d
unfolding place
block_place n w r d = omega (arith, add-mul n r w)

pub held-bit : (b store : List ℕ) (c g d : ℕ) → c < concepts b → g ≤ roles b → d < 8 * width b → held b store (fact c g d) ≡ bit store (place (width b) (concepts b + row_of (shape_of b) c g) d)
unfolding held shape_of width
held-bit b store c g d lc lg ld =
    let r = row_of (shape_of b) c g in
    marks-bit (shape_of b) (set_rows b store) c g d lc lg ld
    ∙ bit_set_rows b store (place (width b) r d) (place-within (width b) r (concepts b + concepts b * roles b) d (row_of_below (shape_of b) c g lc lg) ld)
    ∙ ap (bit store) (block_place (concepts b) (width b) r d)

-- The rows by their offsets.
row_bit_lem : (b store : List ℕ) (r d : ℕ) → d < 8 * width b → bit (row_at b store (r * width b)) d ≡ bit store (place (width b) r d)
unfolding row_at place
row_bit_lem b store r d l = bit_part store (r * width b) (width b) d l

pub axiom_row_bit : (b store : List ℕ) (c d : ℕ) → c < concepts b → d < 8 * width b → bit (row_at b store (axiom_row_at b c)) d ≡ in_force b store c d
unfolding axiom_row_at
axiom_row_bit b store c d lc ld = row_bit_lem b store c d ld ∙ sym (in_force_bit b store c d lc ld)

pub pair_row_bit : (b store : List ℕ) (c d : ℕ) → c < concepts b → d < 8 * width b → bit (row_at b store (pair_row_at b c)) d ≡ held b store (pair c d)
unfolding pair_row_at row_of
pair_row_bit b store c d lc ld = row_bit_lem b store (concepts b + c) d ld ∙ sym (held-bit b store c 0 d lc (omega arith) ld)

pub link_row_bit : (b store : List ℕ) (c r d : ℕ) → c < concepts b → r < roles b → d < 8 * width b → bit (row_at b store (link_row_at b c r)) d ≡ held b store (link c r d)
unfolding link_row_at row_of shape_of
link_row_bit b store c r d lc lr ld =
    row_bit_lem b store (concepts b + concepts b + (c * roles b + r)) d ld
    ∙ ap (λ x. bit store (place (width b) x d)) (add_assoc (concepts b) (concepts b) (c * roles b + r))
    ∙ sym (held-bit b store c (suc r) d lc lr ld)

-- ---- spare bits

pub spare_clear_lem : (b store : List ℕ) → spare_clear b store ≡ true → (r d : ℕ) → r < row_count b → concepts b ≤ d → d < 8 * width b → bit store (place (width b) r d) ≡ false
unfolding spare_clear set_from
spare_clear_lem b store clear r d lr low high =
    let row = none_below (set_from (width b) (concepts b) store) (row_count b) r (not-true _ clear) lr in
    let k = d - concepts b in
    ap (λ j. bit store (place (width b) r j)) (let z : d ≡ concepts b + k = omega arith in z)
    ∙ none_below (λ k. bit store (place (width b) r (concepts b + k))) (8 * width b - concepts b) k row (omega arith)

pub clear_spare : (b store : List ℕ) → ((r d : ℕ) → r < row_count b → concepts b ≤ d → d < 8 * width b → bit store (place (width b) r d) ≡ false) → spare_clear b store ≡ true
unfolding spare_clear set_from
clear_spare b store clear =
    ap not
    (some_none (set_from (width b) (concepts b) store) (row_count b)
    (λ r lr. some_none (λ k. bit store (place (width b) r (concepts b + k))) (8 * width b - concepts b) (λ k lk. clear r (concepts b + k) lr (omega arith) (omega arith))))

-- Where n is a multiple of 8 there are none.
pub no_spare : (b store : List ℕ) → concepts b % 8 ≡ 0 → spare_clear b store ≡ true
no_spare b store whole = clear_spare b store (λ r d lr low high. absurd (let z : ⊥ = omega (arith, width_fits b) in z))

-- ---- the rows of the used part

-- Row r is the axiom row of a concept, or a row of the block.
pub row_cases : (b : List ℕ) (r : ℕ) → r < row_count b → (r < concepts b) ⊎ ((c : ℕ) × (g : ℕ) × (c < concepts b) × (g ≤ roles b) × (r ≡ concepts b + row_of (shape_of b) c g))
unfolding row_of shape_of
row_cases b r l =
    let n = concepts b in
    let m = roles b in
    elim (dec_lt r n) [
      | yes h ↦ inl h
      | no h ↦ elim (dec_lt (r - n) n) [
        | yes h' ↦ inr (r - n, 0, h', omega arith, omega arith)
        | no h' ↦
            let q = (r - n) - n in
            let below : q < n * m = omega (arith, rows_split b) in
            let some : 0 < m = some_factor n m q below in
            inr (
              q / m,
              suc (q % m),
              (div-lt_iff_lt-mul some).1 below,
              mod-lt q some,
              let split = div-add-mod' q m in omega arith,
            )
      ]
    ]

-- The axioms in force are between concepts of the catalogue.
pub in_force_range : (b store : List ℕ) → spare_clear b store ≡ true → InRange b (in_force b store)
unfolding in_force shape_of width
in_force_range b store clear c d e =
    let m = table_elim (shape_of b) (axiom_rows b store) c d e in
    elim (dec_lt d (concepts b)) [
      | yes l ↦ (m.concept, l)
      | no g ↦
          absurd
          (not-both e
          (in_force_bit b store c d m.concept m.bit_below
          ∙ spare_clear_lem b store clear c d (omega (arith, m.concept, rows_split b)) (omega arith) m.bit_below))
    ]

-- And so are the pairs and links held.
pub held_bounded : (b store : List ℕ) → spare_clear b store ≡ true → (e : Expression) → held b store e ≡ true → Bounded b e
unfolding held shape_of width
held_bounded b store clear (fact c g d) e =
    let m = marks_elim (shape_of b) (set_rows b store) c g d e in
    let row = row_of_below (shape_of b) c g m.concept m.group in
    elim (dec_lt d (concepts b)) [
      | yes l ↦ (m.concept, m.group, l)
      | no n ↦
          absurd
          (not-both e
          (held-bit b store c g d m.concept m.group m.bit_below
          ∙ spare_clear_lem b store clear (concepts b + row_of (shape_of b) c g) d (omega (arith, row, rows_split b)) (omega arith) m.bit_below))
    ]
