-- Laws of rising lists: what is listed passes the test, what passes is listed, each is above the one before, there are as many as are counted, and
-- there is one such list.
use Prim.Native.Nat.{ℕ, zero, suc, ◌+◌, ◌-◌, ◌≤◌, ◌<◌}
use native.Mathlib.Nat.{not-suc-le-zero, add-zero, add-suc, eq-or-lt_of_le}
use native.Mathlib.Numerals.{add-one}
use native.Mathlib.Omega.{arith}
use mathlib.Core.Path.{◌≡◌, refl, sym, ap, subst, ◌∙◌}
use mathlib.Core.Logic.{⊎_elim}
use mathlib.Core.Bool.{Bool, true, false}
use mathlib.Core.List.{List, [], ◌∷◌, ◌++◌}
use lib.ListN.{length, get_or, length-append, get_or-append}
use lib.Seq.{get_or-append_seam}
use Rattle.rows.specs.Bits.{count_below}
use Rattle.rows.proofs.ByteBits.{split_last}
use Rattle.rows.proofs.Counting.{count_pass, count_fail}
use Rattle.booleans.proofs.Booleans.{by_bool, not-both}
use Rattle.store.specs.Written.{rising}

-- The numbers below k that pass the test are p 0, p 1, .., p (a - 1), rising.
pub record Indexed (test : ℕ → Bool) (k a : ℕ) (p : ℕ → ℕ) : Type 0 where
  pub below : (i : ℕ) → i < a → p i < k
  pub passes : (i : ℕ) → i < a → test (p i) ≡ true
  pub rises : (i : ℕ) → suc i < a → p i < p (suc i)
  pub all : (q : ℕ) → q < k → test q ≡ true → (i : ℕ) × (i < a) × (p i ≡ q)

-- The list ps has the numbers below k that pass the test, rising.
abbrev pub Lists : (ℕ → Bool) → ℕ → List ℕ → Type 0
Lists test k ps = Indexed test k (length ps) (λ i. get_or ps i 0)

none : (test : ℕ → Bool) → Lists test 0 []
none test =
    record {
      below = λ i l. absurd (not-suc-le-zero l);
      passes = λ i l. absurd (not-suc-le-zero l);
      rises = λ i l. absurd (not-suc-le-zero l);
      all = λ p l. absurd (not-suc-le-zero l);
    }

-- One number more, which fails, or which passes.
module _ (test : ℕ → Bool) (k : ℕ) (ps : List ℕ) (f : Lists test k ps) where
  skipped : test k ≡ false → Lists test (suc k) ps
  skipped e =
      record {
        below = λ i l. let h = f.below i l in omega arith;
        passes = f.passes;
        rises = f.rises;
        all = λ p l t. ⊎_elim (λ s. absurd (not-both (subst (λ x. test x ≡ true) s t) e)) (λ h. f.all p h t) (split_last p k l);
      }

  longer : length (ps ++ (k ∷ [])) ≡ suc (length ps)
  longer = length-append ps (k ∷ []) ∙ add-one (length ps)

  -- A place of the longer list is one of the list, or the last.
  at : (P : ℕ → ℕ → Type 0) (i : ℕ) → ((j : ℕ) → j < length ps → P j (get_or ps j 0)) → P (length ps) k → i < length (ps ++ (k ∷ [])) → P i (get_or (ps ++ (k ∷ [])) i 0)
  at P i before last l =
      ⊎_elim
      (λ e. subst (λ j. P j (get_or (ps ++ (k ∷ [])) j 0)) (sym e) (subst (P (length ps)) (sym (get_or-append_seam ps k [] 0)) last))
      (λ h. subst (P i) (sym (get_or-append ps (k ∷ []) 0 i h)) (before i h))
      (split_last i (length ps) (omega (arith, longer)))

  listed : test k ≡ true → Lists test (suc k) (ps ++ (k ∷ []))
  listed e =
      record {
        below = λ i l. at (λ j p. p < suc k) i (λ j h. let g = f.below j h in omega arith) (omega arith) l;
        passes = λ i l. at (λ j p. test p ≡ true) i f.passes e l;
        rises = λ i l.
            let h : i < length ps = omega (arith, longer) in
            subst (λ p. p < get_or (ps ++ (k ∷ [])) (suc i) 0) (sym (get_or-append ps (k ∷ []) 0 i h))
            (at (λ j p. j ≡ suc i → get_or ps i 0 < p) (suc i) (λ j g s. subst (λ q. get_or ps i 0 < get_or ps q 0) (sym s) (f.rises i (subst (λ q. q < length ps) s g))) (λ s. f.below i h) l refl);
        all = λ p l t.
            ⊎_elim
            (λ s. (length ps, omega (arith, longer), get_or-append_seam ps k [] 0 ∙ sym s))
            (λ h. let w = f.all p h t in (w.0, omega (arith, longer, w.1), get_or-append ps (k ∷ []) 0 w.0 w.1 ∙ w.2))
            (split_last p k l);
      }

pub rising_pass : (test : ℕ → Bool) (k : ℕ) → test k ≡ true → rising test (suc k) ≡ rising test k ++ (k ∷ [])
unfolding rising
rising_pass test k e = rw (e, rising)

pub rising_fail : (test : ℕ → Bool) (k : ℕ) → test k ≡ false → rising test (suc k) ≡ rising test k
unfolding rising
rising_fail test k e = rw (e, rising)

pub rising_lists : (test : ℕ → Bool) (k : ℕ) → Lists test k (rising test k)
unfolding rising
rising_lists test zero = none test
rising_lists test (suc k) =
    let f = rising_lists test k in
    by_bool (test k)
    (λ e. subst (Lists test (suc k)) (sym (rising_pass test k e)) (listed test k (rising test k) f e))
    (λ e. subst (Lists test (suc k)) (sym (rising_fail test k e)) (skipped test k (rising test k) f e))

-- Numbers that fail are passed over.
skip_by : (test : ℕ → Bool) (a k : ℕ) → ((i : ℕ) → a ≤ i → i < a + k → test i ≡ false) → rising test (a + k) ≡ rising test a
skip_by test a zero none = ap (rising test) (add-zero a)
skip_by test a (suc k) none = ap (rising test) (add-suc a k) ∙ rising_fail test (a + k) (none (a + k) (omega arith) (omega arith)) ∙ skip_by test a k (λ i p q. none i p (omega arith))

pub rising_skip : (test : ℕ → Bool) (a b : ℕ) → a ≤ b → ((i : ℕ) → a ≤ i → i < b → test i ≡ false) → rising test b ≡ rising test a
rising_skip test a b l none = ap (rising test) (let whole : b ≡ a + (b - a) = omega arith in whole) ∙ skip_by test a (b - a) (λ i p q. none i p (omega arith))

pub length-rising : (test : ℕ → Bool) (k : ℕ) → length (rising test k) ≡ count_below test k
unfolding rising count_below
length-rising test zero = refl
length-rising test (suc k) =
    by_bool (test k)
    (λ e. ap length (rising_pass test k e) ∙ length-append (rising test k) (k ∷ []) ∙ add-one (length (rising test k)) ∙ ap suc (length-rising test k) ∙ sym (count_pass test k e))
    (λ e. ap length (rising_fail test k e) ∙ length-rising test k ∙ sym (count_fail test k e))

-- ---- one rising row

module _ (test : ℕ → Bool) (p : ℕ → ℕ) where
  without : (k a : ℕ) → test k ≡ false → Indexed test (suc k) a p → Indexed test k a p
  without k a e f =
      record {
        below = λ i l. ⊎_elim (λ s. absurd (not-both (f.passes i l) (ap test s ∙ e))) (λ h. h) (split_last (p i) k (f.below i l));
        passes = f.passes;
        rises = f.rises;
        all = λ q l t. f.all q (omega arith) t;
      }

  -- The one whose number is the largest is the last.
  last : (k a i : ℕ) → i < a → p i ≡ k → Indexed test (suc k) a p → a ≡ suc i
  last k a i l e f =
      ⊎_elim (λ s. sym s) (λ h. absurd (let z : ⊥ = omega (arith, f.rises i h, f.below (suc i) h) in z))
      (eq-or-lt_of_le l)

  rising_below : (k i : ℕ) → p i ≡ k → Indexed test (suc k) (suc i) p → (j : ℕ) (d : ℕ) → i ≡ suc (j + d) → p j < k
  rising_below k i e f j zero s = let r = f.rises j (omega arith) in subst (λ x. p j < x) (ap p (let z : suc j ≡ i = omega arith in z) ∙ e) r
  rising_below k i e f j (suc d) s = let r = f.rises j (omega arith) in let h = rising_below k i e f (suc j) d (omega arith) in omega arith

  before : (k i : ℕ) → p i ≡ k → Indexed test (suc k) (suc i) p → Indexed test k i p
  before k i e f =
      record {
        below = λ j l. rising_below k i e f j (i - suc j) (omega arith);
        passes = λ j l. f.passes j (omega arith);
        rises = λ j l. f.rises j (omega arith);
        all = λ q l t.
            let w = f.all q (omega arith) t in
            ⊎_elim (λ s. absurd (let z : ⊥ = omega (arith, ap p s, w.2) in z)) (λ h. (w.0, h, w.2)) (split_last w.0 i w.1);
      }

  -- Where k passes, it is the last of them.
  ends : (k a : ℕ) → test k ≡ true → Indexed test (suc k) a p → (i : ℕ) × (a ≡ suc i) × (p i ≡ k) × Indexed test k i p
  ends k a e f =
      let w = f.all k (omega arith) e in
      let s = last k a w.0 w.1 w.2 f in
      (w.0, s, w.2, before k w.0 w.2 (subst (λ a. Indexed test (suc k) a p) s f))

-- Two rows are as long, and the same at each place: strictly rising rows with the same numbers are equal.
pub indexed_unique : (test : ℕ → Bool) (p p' : ℕ → ℕ) (k a a' : ℕ) → Indexed test k a p → Indexed test k a' p' → (a ≡ a') × ((i : ℕ) → i < a → p i ≡ p' i)
indexed_unique test p p' zero zero zero f f' = (refl, λ i l. absurd (not-suc-le-zero l))
indexed_unique test p p' zero (suc a) a' f f' = absurd (not-suc-le-zero (f.below 0 (omega arith)))
indexed_unique test p p' zero zero (suc a') f f' = absurd (not-suc-le-zero (f'.below 0 (omega arith)))
indexed_unique test p p' (suc k) a a' f f' =
    by_bool (test k)
    (λ e.
    let (i, s, pi, g) = ends test p k a e f in
    let (i', s', pi', g') = ends test p' k a' e f' in
    let (same, each) = indexed_unique test p p' k i i' g g' in (
      s ∙ ap suc same ∙ sym s',
      λ j l. ⊎_elim (λ q. ap p q ∙ pi ∙ sym pi' ∙ ap p' (sym same ∙ sym q)) (each j) (split_last j i (subst (λ a. j < a) s l)),
    ))
    (λ e. indexed_unique test p p' k a a' (without test p k a e f) (without test p' k a' e f'))

-- As many as are counted.
pub count_indexed : (test : ℕ → Bool) (p : ℕ → ℕ) (k a : ℕ) → Indexed test k a p → count_below test k ≡ a
count_indexed test p k a f = sym (length-rising test k) ∙ (indexed_unique test (λ i. get_or (rising test k) i 0) p k (length (rising test k)) a (rising_lists test k) f).0
