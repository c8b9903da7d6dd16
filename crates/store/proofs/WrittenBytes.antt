-- The catalogue with other axioms is made of bytes: every number that is written fits two of them.
use Prim.Native.Nat.{ℕ, zero, suc, ◌+◌, ◌-◌, ◌*◌, ◌/◌, ◌%◌, ◌≤◌, ◌<◌}
use native.Mathlib.Nat.{div-lt_iff_lt-mul, mod-lt, not-suc-le-zero, le_of_suc-le-suc}
use native.Mathlib.Decide.{dec_lt}
use native.Mathlib.Omega.{arith}
use mathlib.Core.Path.{◌≡◌, sym, ap, subst, ◌∙◌}
use mathlib.Core.List.{List, [], ◌∷◌, ◌++◌}
use lib.Dec.{lit<}
use lib.ListN.{length, get_or, take, set, length-take, get_or-append, get_or-eq_default}
use lib.Seq.{get_or-take, get_or-append-add}
use Rattle.catalogue.specs.Words.{bytes_of}
use Rattle.catalogue.specs.Header.{concepts, axioms_at}
use Rattle.catalogue.specs.WellFormed.{WellFormed}
use Rattle.rows.specs.Bits.{Bytes}
use Rattle.rows.proofs.Bits.{set_bytes}
use Rattle.rules.specs.Axioms.{Axioms}
use Rattle.store.specs.Written.{rising, numbered, axiom_count, sides_of, axiom_records, set_word, written}
use Rattle.store.proofs.Rising.{rising_lists}

-- Every element of a list is below n.
abbrev Below : ℕ → List ℕ → Type 0
Below n xs = (i : ℕ) → i < length xs → get_or xs i 0 < n

bytes_below : (xs : List ℕ) → Below 256 xs → Bytes xs
bytes_below xs h i = elim (dec_lt i (length xs)) [ yes l ↦ h i l | no g ↦ subst (λ x. x < 256) (sym (get_or-eq_default xs 0 (omega arith))) (lit< tt) ]

pub bytes_append : (xs ys : List ℕ) → Bytes xs → Bytes ys → Bytes (xs ++ ys)
bytes_append xs ys bx by i =
    elim (dec_lt i (length xs)) [
      | yes l ↦ subst (λ x. x < 256) (sym (get_or-append xs ys 0 i l)) (bx i)
      | no g ↦
          subst (λ x. x < 256)
          (sym (ap (λ j. get_or (xs ++ ys) j 0) (let z : i ≡ length xs + (i - length xs) = omega arith in z) ∙ get_or-append-add xs ys (i - length xs) 0))
          (by (i - length xs))
    ]

bytes_take : (k : ℕ) (xs : List ℕ) → Bytes xs → Bytes (take k xs)
bytes_take k xs bx i =
    elim (dec_lt i k) [
      | yes l ↦ subst (λ x. x < 256) (sym (get_or-take k xs i 0 l)) (bx i)
      | no g ↦ subst (λ x. x < 256) (sym (get_or-eq_default (take k xs) 0 (omega (arith, length-take k xs)))) (lit< tt)
    ]

bytes_set_word : (xs : List ℕ) (i x : ℕ) → Bytes xs → x < 65536 → Bytes (set_word xs i x)
unfolding set_word
bytes_set_word xs i x bx h = set_bytes (set xs i (x % 256)) (i + 1) (x / 256) (set_bytes xs i (x % 256) bx (omega arith)) (omega arith)

-- The bytes of numbers, and the sides of axioms.
bytes_numbers : (ns : List ℕ) → Below 65536 ns → Below 256 (bytes_of ns)
unfolding bytes_of
bytes_numbers [] h i l = absurd (not-suc-le-zero l)
bytes_numbers (n ∷ ns) h zero l = omega arith
bytes_numbers (n ∷ ns) h (suc zero) l = let s = h 0 (omega arith) in omega arith
bytes_numbers (n ∷ ns) h (suc (suc i)) l = bytes_numbers ns (λ j g. h (suc j) (omega arith)) i (le_of_suc-le-suc (le_of_suc-le-suc l))

sides_below_lem : (n : ℕ) (ps : List ℕ) → 0 < n → Below (n * n) ps → Below n (sides_of n ps)
unfolding sides_of
sides_below_lem n [] pos h i l = absurd (not-suc-le-zero l)
sides_below_lem n (p ∷ ps) pos h zero l = (div-lt_iff_lt-mul pos).1 (h 0 (omega arith))
sides_below_lem n (p ∷ ps) pos h (suc zero) l = mod-lt p pos
sides_below_lem n (p ∷ ps) pos h (suc (suc i)) l = sides_below_lem n ps pos (λ j g. h (suc j) (omega arith)) i (le_of_suc-le-suc (le_of_suc-le-suc l))

pub written_bytes : (b : List ℕ) (F : Axioms) → WellFormed b → axiom_count b F ≤ 4096 → Bytes b → Bytes (written b F)
unfolding written axiom_records
written_bytes b F wf few bb =
    let n = concepts b in
    let ps = rising (numbered n F) (n * n) in
    let sides = sides_below_lem n ps wf.some_concept (rising_lists (numbered n F) (n * n)).below in
    bytes_append (set_word (set_word (take (axioms_at b) b) 0 (axioms_at b + 4 * axiom_count b F)) 10 (axiom_count b F)) (axiom_records b F)
    (bytes_set_word (set_word (take (axioms_at b) b) 0 (axioms_at b + 4 * axiom_count b F)) 10 (axiom_count b F)
    (bytes_set_word (take (axioms_at b) b) 0 (axioms_at b + 4 * axiom_count b F) (bytes_take (axioms_at b) b bb) (omega arith))
    (omega arith))
    (bytes_below (bytes_of (sides_of n ps)) (bytes_numbers (sides_of n ps) (λ i l. let s = sides i l in omega (arith, wf.concepts_limit))))
