-- The header's tests as facts, and the tests of one record case by case.
use Prim.Native.Nat.{ℕ, zero, suc, ◌+◌, ◌*◌, ◌≤◌}
use native.Mathlib.Omega.{arith}
use mathlib.Core.Path.{◌≡◌, refl}
use mathlib.Core.Bool.{true, ◌&&◌, and-eq-true_iff, false}
use mathlib.Core.List.{List}
use lib.Dec.{ltb, eqb}
use lib.ListN.{length}
use borrow.Author.Tests.{eqb-true, leb-true}
use Rattle.catalogue.specs.Header.{total, concepts, roles, inclusions, compositions, axioms, concepts_at, inclusions_at, compositions_at, axioms_at}
use Rattle.catalogue.specs.Records.{first, second, left, right}
use Rattle.catalogue.specs.Checks.{total_right, counts_in_limits, offsets_right, fields_as_kind, above, rising_right}
use Rattle.catalogue.specs.Sections.{Sections}

-- The fields of an atomic or top concept, of a conjunction, of an existential, and of any other kind.
pub fields_simple : (b : List ℕ) (i k : ℕ) → k ≤ 1 → fields_as_kind b i k ≡ (eqb (first b i) 0 && eqb (second b i) 0)
unfolding fields_as_kind
fields_simple b i zero l = refl
fields_simple b i (suc zero) l = refl
fields_simple b i (suc (suc k)) l = absurd (omega arith)

pub fields_conjunction : (b : List ℕ) (i k : ℕ) → k ≡ 2 → fields_as_kind b i k ≡ (ltb (first b i) i && ltb (second b i) i)
unfolding fields_as_kind
fields_conjunction b i k e = rw e

pub fields_existential : (b : List ℕ) (i k : ℕ) → k ≡ 3 → fields_as_kind b i k ≡ (ltb (first b i) (roles b) && ltb (second b i) i)
unfolding fields_as_kind
fields_existential b i k e = rw e

pub fields_other : (b : List ℕ) (i k : ℕ) → 4 ≤ k → fields_as_kind b i k ≡ false
unfolding fields_as_kind
fields_other b i zero l = absurd (omega arith)
fields_other b i (suc zero) l = absurd (omega arith)
fields_other b i (suc (suc zero)) l = absurd (omega arith)
fields_other b i (suc (suc (suc zero))) l = absurd (omega arith)
fields_other b i (suc (suc (suc (suc k)))) l = refl

-- The first axiom, and one with another before it.
pub rising-first : (b : List ℕ) (k : ℕ) → k ≡ 0 → rising_right b k ≡ true
unfolding rising_right
rising-first b k e = rw e

pub rising_after : (b : List ℕ) (j k : ℕ) → k ≡ suc j → rising_right b k ≡ above (left b j) (right b j) (left b k) (right b k)
unfolding rising_right
rising_after b j k e = rw e

-- Question 3 answered yes: the counts are in their limits.
pub limits : (b : List ℕ) → counts_in_limits b ≡ true
    → (1 ≤ concepts b) × (concepts b ≤ 512) × (roles b ≤ 16) × (inclusions b ≤ 64) × (compositions b ≤ 64) × (axioms b ≤ 4096)
unfolding counts_in_limits
limits b e =
    let n = (and-eq-true_iff _ _).0 e in
    let m = (and-eq-true_iff _ _).0 n.1 in
    let r = (and-eq-true_iff _ _).0 m.1 in
    let h = (and-eq-true_iff _ _).0 r.1 in
    let k = (and-eq-true_iff _ _).0 h.1 in
    (leb-true _ _ n.0, leb-true _ _ m.0, leb-true _ _ r.0, leb-true _ _ h.0, leb-true _ _ k.0, leb-true _ _ k.1)

-- Questions 2 and 4 answered yes: the sections stand one after the other, and fill the catalogue.
pub sections : (b : List ℕ) → total_right b ≡ true → offsets_right b ≡ true → Sections b
unfolding total_right offsets_right
sections b total-yes offsets-yes =
    let whole : total b ≡ length b = eqb-true _ _ total-yes in
    let p = (and-eq-true_iff _ _).0 offsets-yes in
    let q = (and-eq-true_iff _ _).0 p.1 in
    let r = (and-eq-true_iff _ _).0 q.1 in
    let s = (and-eq-true_iff _ _).0 r.1 in
    let concepts_start : concepts_at b ≡ 20 = eqb-true _ _ p.0 in
    let inclusions_start : inclusions_at b ≡ concepts_at b + 6 * concepts b = eqb-true _ _ q.0 in
    let compositions_start : compositions_at b ≡ inclusions_at b + 4 * inclusions b = eqb-true _ _ r.0 in
    let axioms_start : axioms_at b ≡ compositions_at b + 6 * compositions b = eqb-true _ _ s.0 in
    let end : total b ≡ axioms_at b + 4 * axioms b = eqb-true _ _ s.1 in
    omega arith
