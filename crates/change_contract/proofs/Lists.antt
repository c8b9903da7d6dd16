-- Laws of lists of axioms: who is on one, two of them together, and the axioms in force after a change: their range, and how many there are.
use Prim.Native.Nat.{ℕ, zero, suc, ◌+◌, ◌*◌, ◌/◌, ◌%◌, ◌≤◌, ◌<◌}
use native.Mathlib.Omega.{arith}
use mathlib.Core.Path.{◌≡◌, refl, sym, ap, ap₂, subst, fun_ext, ◌∙◌}
use mathlib.Core.Logic.{◌↔◌, ◌⊎◌, inl, inr, ⊎_elim}
use mathlib.Core.Bool.{Bool, true, false, not, ◌&&◌, ◌||◌, and_assoc, and-true, or-false}
use mathlib.Core.List.{List, [], ◌∷◌, ◌++◌}
use lib.Dec.{eqb, ltb, leb}
use lib.ListN.{length, length-append}
use borrow.Author.Tests.{eq-eqb, eqb-true, leb-true, ltb-true, not-true, not-false}
use Rattle.booleans.proofs.Booleans.{either, negated, not-both, not_true_false, and_left, and_right, and_both}
use Rattle.rows.specs.Bits.{some_below}
use Rattle.rows.proofs.Counting.{some_at, some_which, none_below}
use Rattle.catalogue.specs.Words.{word}
use Rattle.catalogue.specs.Header.{concepts}
use Rattle.derivation.specs.Finite.{each}
use Rattle.rules.specs.Axioms.{Axioms, InRange, added, withdrawn}
use Rattle.store.specs.Written.{axiom_count}
use Rattle.store.specs.Checks.{numbers_below}
use Rattle.store.proofs.Checks.{every_two}
use Rattle.store.proofs.Records.{word_first, word-second}
use Rattle.store.proofs.AxiomCounts.{added_count, withdrawn_count}
use Rattle.change_contract.specs.Lists.{axioms_in, left_in, right_in, among, listed, sides_below, sides_in, edited}
use Rattle.change_contract.specs.Questions.{is_whole, repeats, none_twice, all_in_force, none_in_force}

-- ---- who is on a list

pub among_exact : (list : List ℕ) (k c d : ℕ) → (among list k c d ≡ true) ↔ ((j : ℕ) × (j < k) × (left_in list j ≡ c) × (right_in list j ≡ d))
unfolding among
among_exact list k c d = (
  λ e.
      let (j, l, t) = some_which (λ j. eqb (left_in list j) c && eqb (right_in list j) d) k e in
      (j, l, eqb-true (left_in list j) c (and_left (eqb (left_in list j) c) (eqb (right_in list j) d) t), eqb-true (right_in list j) d (and_right (eqb (left_in list j) c) (eqb (right_in list j) d) t)),
  λ (j, l, x, y). some_at (λ j. eqb (left_in list j) c && eqb (right_in list j) d) k j l (and_both (eqb (left_in list j) c) (eqb (right_in list j) d) (eq-eqb (left_in list j) c x) (eq-eqb (right_in list j) d y)),
)

pub listed_exact : (list : List ℕ) (c d : ℕ) → (listed list c d ≡ true) ↔ ((j : ℕ) × (j < axioms_in list) × (left_in list j ≡ c) × (right_in list j ≡ d))
unfolding listed
listed_exact list c d = among_exact list (axioms_in list) c d

-- In force after a change: in force before and not withdrawn, or added.
pub edited_exact : (F : Axioms) (withdrawn added : List ℕ) (c d : ℕ) → (edited F withdrawn added c d ≡ true) ↔ (((F c d ≡ true) × ¬ (listed withdrawn c d ≡ true)) ⊎ (listed added c d ≡ true))
unfolding edited
edited_exact F withdrawn added c d = (
  λ e.
      ⊎_elim (λ h. inl (and_left (F c d) (not (listed withdrawn c d)) h, (negated (listed withdrawn c d)).0 (and_right (F c d) (not (listed withdrawn c d)) h))) inr
      ((either (F c d && not (listed withdrawn c d)) (listed added c d)).0 e),
  λ h.
      (either (F c d && not (listed withdrawn c d)) (listed added c d)).1
      (⊎_elim (λ (f, n). inl (and_both (F c d) (not (listed withdrawn c d)) f ((negated (listed withdrawn c d)).1 n))) inr h),
)

-- ---- whole lists

pub whole_long : (long : ℕ) → is_whole long ≡ true → (long ≤ 256) × (long % 4 ≡ 0)
unfolding is_whole
whole_long long e = (leb-true long 256 (and_left (leb long 256) (eqb (long % 4) 0) e), eqb-true (long % 4) 0 (and_right (leb long 256) (eqb (long % 4) 0) e))

-- Two lists together have the axioms of the one, and then those of the other.
module _ (withdrawn added : List ℕ) (whole : length withdrawn % 4 ≡ 0) where
  pub axioms_together : axioms_in (withdrawn ++ added) ≡ axioms_in withdrawn + axioms_in added
  unfolding axioms_in
  axioms_together = omega (arith, length-append withdrawn added)

  pub left-first : (k : ℕ) → k < axioms_in withdrawn → left_in (withdrawn ++ added) k ≡ left_in withdrawn k
  unfolding axioms_in left_in
  left-first k l = word_first withdrawn added (4 * k) (omega arith)

  pub right-first : (k : ℕ) → k < axioms_in withdrawn → right_in (withdrawn ++ added) k ≡ right_in withdrawn k
  unfolding axioms_in right_in
  right-first k l = word_first withdrawn added (4 * k + 2) (omega arith)

  pub left-second : (k : ℕ) → left_in (withdrawn ++ added) (axioms_in withdrawn + k) ≡ left_in added k
  unfolding axioms_in left_in
  left-second k = ap (word (withdrawn ++ added)) (let z : 4 * (length withdrawn / 4 + k) ≡ length withdrawn + 4 * k = omega arith in z) ∙ word-second withdrawn added (length withdrawn) (4 * k) refl

  pub right-second : (k : ℕ) → right_in (withdrawn ++ added) (axioms_in withdrawn + k) ≡ right_in added k
  unfolding axioms_in right_in
  right-second k = ap (word (withdrawn ++ added)) (let z : 4 * (length withdrawn / 4 + k) + 2 ≡ length withdrawn + (4 * k + 2) = omega arith in z) ∙ word-second withdrawn added (length withdrawn) (4 * k + 2) refl

-- A list stands in another from place p on.
record Part (list all : List ℕ) (p : ℕ) : Type 0 where
  within : p + axioms_in list ≤ axioms_in all
  left_there : (k : ℕ) → k < axioms_in list → left_in all (p + k) ≡ left_in list k
  right_there : (k : ℕ) → k < axioms_in list → right_in all (p + k) ≡ right_in list k

first_part : (withdrawn added : List ℕ) → length withdrawn % 4 ≡ 0 → Part withdrawn (withdrawn ++ added) 0
first_part withdrawn added whole =
    let at : (k : ℕ) → 0 + k ≡ k = λ k. omega arith in
    record {
      within = omega (arith, axioms_together withdrawn added whole);
      left_there = λ k l. ap (left_in (withdrawn ++ added)) (at k) ∙ left-first withdrawn added whole k l;
      right_there = λ k l. ap (right_in (withdrawn ++ added)) (at k) ∙ right-first withdrawn added whole k l;
    }

second_part : (withdrawn added : List ℕ) → length withdrawn % 4 ≡ 0 → Part added (withdrawn ++ added) (axioms_in withdrawn)
second_part withdrawn added whole =
    record {
      within = omega (arith, axioms_together withdrawn added whole);
      left_there = λ k l. left-second withdrawn added whole k;
      right_there = λ k l. right-second withdrawn added whole k;
    }

-- No axiom twice in the whole, and so in no part of it.
part_once : (list all : List ℕ) (p : ℕ) → Part list all p → none_twice all ≡ true → (k : ℕ) → k < axioms_in list → among list k (left_in list k) (right_in list k) ≡ false
unfolding none_twice repeats
part_once list all p part e k l =
    not_true_false _
    (λ t.
    let (j, lj, x, y) = (among_exact list k (left_in list k) (right_in list k)).0 t in
    let lj' : j < axioms_in list = omega arith in
    not-both
    ((among_exact all (p + k) (left_in all (p + k)) (right_in all (p + k))).1
    (p + j, omega arith, part.left_there j lj' ∙ x ∙ sym (part.left_there k l), part.right_there j lj' ∙ y ∙ sym (part.right_there k l)))
    (none_below (repeats all) (axioms_in all) (p + k) (not-true _ e) (omega (arith, part.within))))

-- ---- numbers below n

each_append : (test : ℕ → Bool) (xs ys : List ℕ) → each test (xs ++ ys) ≡ (each test xs && each test ys)
unfolding each
each_append test [] ys = refl
each_append test (x ∷ xs) ys = ap (λ (t : Bool). test x && t) (each_append test xs ys) ∙ sym (and_assoc (test x) (each test xs) (each test ys))

pushed : (s t : Bool) → (not s && t) ≡ not (not t || s)
pushed true true = refl
pushed true false = refl
pushed false true = refl
pushed false false = refl

-- All sides of the first k axioms pass a test, or one of these axioms has a side that does not.
pub sides_some : (test : ℕ → Bool) (list : List ℕ) (k : ℕ) → each test (sides_below list k) ≡ not (some_below (λ j. not (test (left_in list j) && test (right_in list j))) k)
unfolding sides_below some_below each
sides_some test list zero = refl
sides_some test list (suc k) =
    each_append test (sides_below list k) (left_in list k ∷ right_in list k ∷ [])
    ∙ ap₂ ◌&&◌ (sides_some test list k) (every_two test (left_in list k) (right_in list k))
    ∙ pushed _ (test (left_in list k) && test (right_in list k))

sides_below_lem : (b list : List ℕ) → numbers_below b (sides_in list) ≡ true → (k : ℕ) → k < axioms_in list → (left_in list k < concepts b) × (right_in list k < concepts b)
unfolding sides_in
sides_below_lem b list e k l =
    let test : ℕ → Bool = λ c. ltb c (concepts b) in
    let some = not-true _ (sym (sides_some test list (axioms_in list)) ∙ e) in
    let both = not-false _ (none_below (λ j. not (test (left_in list j) && test (right_in list j))) (axioms_in list) k some l) in
    (ltb-true _ _ (and_left (test (left_in list k)) (test (right_in list k)) both), ltb-true _ _ (and_right (test (left_in list k)) (test (right_in list k)) both))

part_below : (b list all : List ℕ) (p : ℕ) → Part list all p → numbers_below b (sides_in all) ≡ true
    → (k : ℕ) → k < axioms_in list → (left_in list k < concepts b) × (right_in list k < concepts b)
part_below b list all p part numbers k l =
    let (x, y) = sides_below_lem b all numbers (p + k) (omega (arith, part.within)) in
    (subst (λ (c : ℕ). c < concepts b) (part.left_there k l) x, subst (λ (c : ℕ). c < concepts b) (part.right_there k l) y)

module _ (b withdrawn added : List ℕ) (whole : length withdrawn % 4 ≡ 0) (numbers : numbers_below b (sides_in (withdrawn ++ added)) ≡ true) where
  pub withdrawn_below : (k : ℕ) → k < axioms_in withdrawn → (left_in withdrawn k < concepts b) × (right_in withdrawn k < concepts b)
  withdrawn_below = part_below b withdrawn (withdrawn ++ added) 0 (first_part withdrawn added whole) numbers

  pub added_below : (k : ℕ) → k < axioms_in added → (left_in added k < concepts b) × (right_in added k < concepts b)
  added_below = part_below b added (withdrawn ++ added) (axioms_in withdrawn) (second_part withdrawn added whole) numbers

  pub edited_in_range : (F : Axioms) → InRange b F → InRange b (edited F withdrawn added)
  edited_in_range F range c d e =
      ⊎_elim (λ (f, n). range c d f)
      (λ h.
      let (j, l, x, y) = (listed_exact added c d).0 h in
      let (p, q) = added_below j l in
      (subst (λ (k : ℕ). k < concepts b) x p, subst (λ (k : ℕ). k < concepts b) y q))
      ((edited_exact F withdrawn added c d).0 e)

-- ---- how many

-- All in force, none in force.
pub in_force_at : (F : Axioms) (list : List ℕ) → all_in_force F list ≡ true → (k : ℕ) → k < axioms_in list → F (left_in list k) (right_in list k) ≡ true
unfolding all_in_force
in_force_at F list e k l = not-false _ (none_below (λ k. not (F (left_in list k) (right_in list k))) (axioms_in list) k (not-true _ e) l)

pub new_at_lem : (F : Axioms) (list : List ℕ) → none_in_force F list ≡ true → (k : ℕ) → k < axioms_in list → F (left_in list k) (right_in list k) ≡ false
unfolding none_in_force
new_at_lem F list e k l = none_below (λ k. F (left_in list k) (right_in list k)) (axioms_in list) k (not-true _ e) l

-- F without the first k axioms of a list, and with them: one less and one more at each step.
unfoldable pub lacking : Axioms → List ℕ → ℕ → Axioms
lacking F list k c d = F c d && not (among list k c d)

unfoldable pub having : Axioms → List ℕ → ℕ → Axioms
having F list k c d = F c d || among list k c d

one_less : (f t a : Bool) → (f && not (t || a)) ≡ ((f && not a) && not t)
one_less true true true = refl
one_less true true false = refl
one_less true false true = refl
one_less true false false = refl
one_less false t a = refl

one_more : (f t a : Bool) → (f || (t || a)) ≡ ((f || a) || t)
one_more true t a = refl
one_more false true true = refl
one_more false true false = refl
one_more false false true = refl
one_more false false false = refl

pub lacking_step : (F : Axioms) (list : List ℕ) (k : ℕ) → lacking F list (suc k) ≡ withdrawn (lacking F list k) (left_in list k) (right_in list k)
unfolding lacking among some_below withdrawn
lacking_step F list k = fun_ext (λ c. fun_ext (λ d. one_less (F c d) (eqb (left_in list k) c && eqb (right_in list k) d) (among list k c d)))

pub having_step : (F : Axioms) (list : List ℕ) (k : ℕ) → having F list (suc k) ≡ added (having F list k) (left_in list k) (right_in list k)
unfolding having among some_below added
having_step F list k = fun_ext (λ c. fun_ext (λ d. one_more (F c d) (eqb (left_in list k) c && eqb (right_in list k) d) (among list k c d)))

pub lacking_none : (F : Axioms) (list : List ℕ) → lacking F list 0 ≡ F
unfolding lacking among some_below
lacking_none F list = fun_ext (λ c. fun_ext (λ d. and-true (F c d)))

pub having_none : (F : Axioms) (list : List ℕ) → having F list 0 ≡ F
unfolding having among some_below
having_none F list = fun_ext (λ c. fun_ext (λ d. or-false (F c d)))

pub edited_steps : (F : Axioms) (withdrawn added : List ℕ) → edited F withdrawn added ≡ having (lacking F withdrawn (axioms_in withdrawn)) added (axioms_in added)
unfolding edited having lacking listed
edited_steps F withdrawn added = refl

module _ (b : List ℕ) (F : Axioms) (list : List ℕ) (below : (k : ℕ) → k < axioms_in list → (left_in list k < concepts b) × (right_in list k < concepts b))
    (once : (k : ℕ) → k < axioms_in list → among list k (left_in list k) (right_in list k) ≡ false) where
  still_there : ((k : ℕ) → k < axioms_in list → F (left_in list k) (right_in list k) ≡ true) → (k : ℕ) → k < axioms_in list → lacking F list k (left_in list k) (right_in list k) ≡ true
  unfolding lacking
  still_there there k l = and_both (F (left_in list k) (right_in list k)) (not (among list k (left_in list k) (right_in list k))) (there k l) (ap not (once k l))

  lacking_count : ((k : ℕ) → k < axioms_in list → F (left_in list k) (right_in list k) ≡ true) → (k : ℕ) → k ≤ axioms_in list → axiom_count b (lacking F list k) + k ≡ axiom_count b F
  lacking_count there zero l = ap (λ (G : Axioms). axiom_count b G + 0) (lacking_none F list) ∙ (let z : axiom_count b F + 0 ≡ axiom_count b F = omega arith in z)
  lacking_count there (suc k) l =
      let (x, y) = below k (omega arith) in
      let before = lacking_count there k (omega arith) in
      let one = withdrawn_count b (lacking F list k) (left_in list k) (right_in list k) x y (still_there there k (omega arith)) in
      omega (arith, ap (axiom_count b) (lacking_step F list k), one, before)

  not_yet_there : ((k : ℕ) → k < axioms_in list → F (left_in list k) (right_in list k) ≡ false) → (k : ℕ) → k < axioms_in list → having F list k (left_in list k) (right_in list k) ≡ false
  unfolding having
  not_yet_there out k l = ap₂ ◌||◌ (out k l) (once k l)

  having_count : ((k : ℕ) → k < axioms_in list → F (left_in list k) (right_in list k) ≡ false) → (k : ℕ) → k ≤ axioms_in list → axiom_count b (having F list k) ≡ axiom_count b F + k
  having_count out zero l = ap (axiom_count b) (having_none F list) ∙ (let z : axiom_count b F ≡ axiom_count b F + 0 = omega arith in z)
  having_count out (suc k) l =
      let (x, y) = below k (omega arith) in
      let before = having_count out k (omega arith) in
      let one = added_count b (having F list k) (left_in list k) (right_in list k) x y (not_yet_there out k (omega arith)) in
      omega (arith, ap (axiom_count b) (having_step F list k), one, before)

left_out : (F : Axioms) (withdrawn added : List ℕ) (k : ℕ) → F (left_in added k) (right_in added k) ≡ false → lacking F withdrawn (axioms_in withdrawn) (left_in added k) (right_in added k) ≡ false
unfolding lacking
left_out F withdrawn added k e = ap (λ (x : Bool). x && not (among withdrawn (axioms_in withdrawn) (left_in added k) (right_in added k))) e

-- So many are in force after a change that passes 22, 23, 15, 18 and 16.
pub edited_count : (b : List ℕ) (F : Axioms) (withdrawn added : List ℕ) → length withdrawn % 4 ≡ 0 → none_twice (withdrawn ++ added) ≡ true → numbers_below b (sides_in (withdrawn ++ added)) ≡ true
    → all_in_force F withdrawn ≡ true → none_in_force F added ≡ true → axiom_count b (edited F withdrawn added) + axioms_in withdrawn ≡ axiom_count b F + axioms_in added
edited_count b F withdrawn added whole once numbers there out =
    let less = lacking_count b F withdrawn (withdrawn_below b withdrawn added whole numbers) (part_once withdrawn (withdrawn ++ added) 0 (first_part withdrawn added whole) once) (in_force_at F withdrawn there) (axioms_in withdrawn) (omega arith) in
    let W = lacking F withdrawn (axioms_in withdrawn) in
    let more =
    having_count b W added (added_below b withdrawn added whole numbers) (part_once added (withdrawn ++ added) (axioms_in withdrawn) (second_part withdrawn added whole) once) (λ k l. left_out F withdrawn added k (new_at_lem F added out k l)) (axioms_in added) (omega arith)
    in
    omega (arith, ap (axiom_count b) (edited_steps F withdrawn added), less, more)
