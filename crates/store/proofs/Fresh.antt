-- What a store marks decides its used part: two stores classified afresh from the same axioms have the same used part, byte for byte.
use Prim.Native.Nat.{ℕ, ◌+◌, ◌*◌, ◌/◌, ◌%◌, ◌≤◌, ◌<◌}
use native.Mathlib.Nat.{div-lt_iff_lt-mul, mod-lt, div-add-mod', mul_left_comm}
use native.Mathlib.Decide.{dec_lt}
use native.Mathlib.Omega.{arith}
use mathlib.Core.Path.{◌≡◌, sym, subst, fun_ext, ◌∙◌}
use mathlib.Core.Logic.{⊎_elim}
use mathlib.Core.List.{List}
use lib.ListN.{take, length-take, get_or-eq_default}
use lib.Seq.{length-take-le, get_or-take}
use lib.Dec.{lit<}
use Rattle.catalogue.specs.Header.{concepts, roles}
use Rattle.catalogue.specs.WellFormed.{WellFormed}
use Rattle.rows.specs.Bits.{bit, Bytes, place}
use Rattle.rows.proofs.Bits.{same_bits}
use Rattle.derivation.proofs.Counts.{decides_agree}
use Rattle.rules.specs.Axioms.{Axioms}
use Rattle.rules.specs.Rules.{Expression, fact, Closure}
use Rattle.layout.specs.Layout.{shape_of, row_of}
use Rattle.layout.specs.Parts.{width, used, held, row_count}
use Rattle.store.specs.Fresh.{Marked, Fresh}
use Rattle.layout.proofs.StoreSizes.{used_rows, some-width}
use Rattle.layout.proofs.StoreRows.{bit_front, in_force_bit, held-bit, row_cases}

-- Every bit of the used part is a bit of one of its rows.
pub bit_in_row : (b : List ℕ) → WellFormed b → (i : ℕ) → i < 8 * used b → (r : ℕ) × (d : ℕ) × (r < row_count b) × (d < 8 * width b) × (i ≡ place (width b) r d)
unfolding place
bit_in_row b wf i h =
    let w = width b in
    let k = 8 * w in
    let some : 0 < k = omega (arith, some-width wf) in
    let split : i / k * k + i % k ≡ i = div-add-mod' i k in
    let all : row_count b * k ≡ 8 * (row_count b * w) = mul_left_comm (row_count b) 8 w in
    let whole : i / k * k ≡ 8 * (i / k * w) = mul_left_comm (i / k) 8 w in
    (i / k, i % k, (div-lt_iff_lt-mul some).1 (omega (arith, used_rows b)), mod-lt i some, omega arith)

-- Two stores that mark the same axioms and the same set have the same bits in each row.
module _ (b : List ℕ) (F : Axioms) (S : Expression → Type 0) (xs ys : List ℕ) (p : Marked b F S xs) (q : Marked b F S ys) where
  same_axiom : (c d : ℕ) → c < concepts b → d < 8 * width b → bit xs (place (width b) c d) ≡ bit ys (place (width b) c d)
  same_axiom c d lc ld =
      sym (in_force_bit b xs c d lc ld) ∙ p.axioms c d ∙ sym (q.axioms c d) ∙ in_force_bit b ys c d lc ld

  same_held : (c g d : ℕ) → c < concepts b → g ≤ roles b → d < 8 * width b → bit xs (place (width b) (concepts b + row_of (shape_of b) c g) d) ≡ bit ys (place (width b) (concepts b + row_of (shape_of b) c g) d)
  same_held c g d lc lg ld =
      sym (held-bit b xs c g d lc lg ld)
      ∙ decides_agree (held b xs) (held b ys) S p.set q.set (fact c g d)
      ∙ held-bit b ys c g d lc lg ld

  same_row : (r d : ℕ) → r < row_count b → d < 8 * width b → bit xs (place (width b) r d) ≡ bit ys (place (width b) r d)
  same_row r d lr ld =
      ⊎_elim
      (λ l. same_axiom r d l ld)
      (λ (c, g, lc, lg, e). subst (λ r. bit xs (place (width b) r d) ≡ bit ys (place (width b) r d)) (sym e) (same_held c g d lc lg ld))
      (row_cases b r lr)

used_bytes : (b : List ℕ) (F : Axioms) (S : Expression → Type 0) (store : List ℕ) → Marked b F S store → Bytes (take (used b) store)
used_bytes b F S store p i =
    elim (dec_lt i (used b)) [
      | yes l ↦ subst (λ x. x < 256) (sym (get_or-take (used b) store i 0 l)) (p.bytes i l)
      | no g ↦ subst (λ x. x < 256) (sym (get_or-eq_default (take (used b) store) 0 (omega (arith, length-take (used b) store)))) (lit< tt)
    ]

pub marked_unique : (b : List ℕ) (F : Axioms) (S : Expression → Type 0) (xs ys : List ℕ) → WellFormed b → Marked b F S xs → Marked b F S ys → take (used b) xs ≡ take (used b) ys
marked_unique b F S xs ys wf p q =
    let lx = length-take-le (used b) xs p.long in
    let ly = length-take-le (used b) ys q.long in
    same_bits (take (used b) xs) (take (used b) ys) (used_bytes b F S xs p) (used_bytes b F S ys q) (lx ∙ sym ly)
    (λ i h.
    let l : i < 8 * used b = omega (arith, lx) in
    let (r, d, lr, ld, e) = bit_in_row b wf i l in
    bit_front xs (used b) i l
    ∙ subst (λ i. bit xs i ≡ bit ys i) (sym e) (same_row b F S xs ys p q r d lr ld)
    ∙ sym (bit_front ys (used b) i l))

-- Two stores fresh for the same axioms have equal used parts.
pub fresh_unique : (b : List ℕ) (F G : Axioms) (xs ys : List ℕ) → WellFormed b → ((c d : ℕ) → F c d ≡ G c d) → Fresh b F xs → Fresh b G ys → take (used b) xs ≡ take (used b) ys
fresh_unique b F G xs ys wf same p q =
    let e : F ≡ G = fun_ext (λ c. fun_ext (λ d. same c d)) in
    marked_unique b G (Closure b G) xs ys wf (subst (λ F. Fresh b F xs) e p) q
