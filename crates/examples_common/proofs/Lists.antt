-- Laws of computed lists: values in a row, and the numbers that pass a test.
use Prim.Native.Nat.{ℕ, zero, suc, ◌+◌, ◌≤◌, ◌<◌}
use native.Mathlib.Nat.{not-suc-le-zero, le_of_suc-le-suc, add-zero, add-suc, suc-add, eq-or-lt_of_le}
use native.Mathlib.Omega.{arith}
use mathlib.Core.Path.{◌≡◌, refl, sym, ap, ◌∙◌, subst}
use mathlib.Core.Logic.{◌↔◌, ◌⊎◌, inl, inr}
use mathlib.Core.Bool.{Bool, true, false}
use mathlib.Core.List.Memᴰ
use mathlib.Core.List.{◌∷◌, Memᴰ}
use lib.ListN.{get_or}
use Rattle.booleans.proofs.Booleans.{by_bool, not-both}
use Rattle.examples_common.specs.Computed.{values, passing}

-- Value j of a row, and the default past its end.
pub value_in : {A : Type 0} (f : ℕ → A) (i k j : ℕ) (d : A) → j < k → get_or (values f i k) j d ≡ f (i + j)
unfolding values
value_in f i zero j d h = absurd (not-suc-le-zero h)
value_in f i (suc k) zero d h = ap f (sym (add-zero i))
value_in f i (suc k) (suc j) d h = value_in f (suc i) k j d (le_of_suc-le-suc h) ∙ ap f (suc-add i j ∙ sym (add-suc i j))

pub value_past : {A : Type 0} (f : ℕ → A) (i k j : ℕ) (d : A) → k ≤ j → get_or (values f i k) j d ≡ d
unfolding values
value_past f i zero j d h = refl
value_past f i (suc k) zero d h = absurd (not-suc-le-zero h)
value_past f i (suc k) (suc j) d h = value_past f (suc i) k j d (le_of_suc-le-suc h)

-- A number is listed exactly where it is in the range and passes.
pub passing_exact : (test : ℕ → Bool) (i k c : ℕ) → Memᴰ c (passing test i k) ↔ ((i ≤ c) × (c < i + k) × (test c ≡ true))
unfolding passing
passing_exact test i zero c = (λ m. absurd (Memᴰ.not-nil m), λ h. absurd (nothing h.0 h.1))
  where
    nothing : i ≤ c → c < i + zero → ⊥
    nothing p q = omega arith
passing_exact test i (suc k) c = (found (passing_exact test (suc i) k c).0, all (passing_exact test (suc i) k c).1)
  where
    found : (Memᴰ c (passing test (suc i) k) → (suc i ≤ c) × (c < suc i + k) × (test c ≡ true))
        → Memᴰ c (passing test i (suc k)) → (i ≤ c) × (c < i + suc k) × (test c ≡ true)
    found ih m = by_bool (test i)
        (λ e. go e (Memᴰ.cases_cons (rw (e, passing) at m)))
        (λ e. later (ih (rw (e, passing) at m)))
      where
        later : (suc i ≤ c) × (c < suc i + k) × (test c ≡ true) → (i ≤ c) × (c < i + suc k) × (test c ≡ true)
        later h = (omega (arith, h.0), omega (arith, h.1), h.2)

        go : test i ≡ true → (c ≡ i) ⊎ Memᴰ c (passing test (suc i) k) → (i ≤ c) × (c < i + suc k) × (test c ≡ true)
        go e (inl q) = (omega (arith, q), omega (arith, q), subst (λ x. test x ≡ true) (sym q) e)
        go e (inr n) = later (ih n)

    all : ((suc i ≤ c) × (c < suc i + k) × (test c ≡ true) → Memᴰ c (passing test (suc i) k))
        → (i ≤ c) × (c < i + suc k) × (test c ≡ true) → Memᴰ c (passing test i (suc k))
    all ih h = by_bool (test i)
        (λ e. rw (e, passing) (first (eq-or-lt_of_le h.0)))
        (λ e. rw (e, passing) (ih (after (eq-or-lt_of_le h.0) e, omega (arith, h.1), h.2)))
      where
        after : (i ≡ c) ⊎ (i < c) → test i ≡ false → i < c
        after (inl q) e = absurd (not-both h.2 (subst (λ x. test x ≡ false) q e))
        after (inr l) e = l

        first : (i ≡ c) ⊎ (i < c) → Memᴰ c (i ∷ passing test (suc i) k)
        first (inl q) = Memᴰ.head (sym q)
        first (inr l) = Memᴰ.tail (ih (l, omega (arith, h.1), h.2))
