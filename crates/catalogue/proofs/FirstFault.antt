-- What `first_fault` finds is the first record that fails, and nothing else is: the laws by which every search is closed.
use Prim.Native.Nat.{ℕ, zero, suc, ◌+◌, ◌≤◌, ◌<◌}
use native.Mathlib.Omega.{arith}
use mathlib.Core.Path.{◌≡◌, refl, sym, subst, ◌∙◌}
use native.Mathlib.Nat.{eq-or-lt_of_le}
use mathlib.Core.Logic.{⊎_elim}
use mathlib.Core.Bool.{Bool, true, false}
use Rattle.catalogue.specs.Outcome.{First, first_fault_from, first_fault}

-- The same counted from i: the records from i on, and before n.
record FirstFrom (ok : ℕ → Bool) (i n j : ℕ) : Type 0 where
  above : i ≤ j
  within : j ≤ n
  passed : (k : ℕ) → i ≤ k → k < j → ok k ≡ true
  fails : j < n → ok j ≡ false

here : (ok : ℕ → Bool) (i n : ℕ) → i ≤ n → (i < n → ok i ≡ false) → FirstFrom ok i n i
here ok i n l f = record { above = omega arith; within = l; passed = λ k p q. absurd (omega arith); fails = f }

further : (ok : ℕ → Bool) (i n j : ℕ) → ok i ≡ true → FirstFrom ok (suc i) n j → FirstFrom ok i n j
further ok i n j e f =
    record {
      above = omega arith;
      within = f.within;
      passed = λ k p q. ⊎_elim (λ s. subst (λ (m : ℕ). ok m ≡ true) s e) (λ l. f.passed k l q) (eq-or-lt_of_le p);
      fails = f.fails;
    }

-- A record that fails is found before any later one, and one that passes is not.
fault_here : (ok : ℕ → Bool) (i k : ℕ) → ok i ≡ false → first_fault_from ok i (suc k) ≡ i
unfolding first_fault_from
fault_here ok i k e = rw (e, first_fault_from)

fault_later : (ok : ℕ → Bool) (i k : ℕ) → ok i ≡ true → first_fault_from ok i (suc k) ≡ first_fault_from ok (suc i) k
unfolding first_fault_from
fault_later ok i k e = rw (e, first_fault_from)

from : (ok : ℕ → Bool) (k i n : ℕ) → n ≡ i + k → FirstFrom ok i n (first_fault_from ok i k)
unfolding first_fault_from
from ok zero i n e = here ok i n (omega arith) (λ l. absurd (omega arith))
from ok (suc k) i n e = go (ok i) refl (from ok k (suc i) n (omega arith))
  where
    go : (t : Bool) → ok i ≡ t → FirstFrom ok (suc i) n (first_fault_from ok (suc i) k) → FirstFrom ok i n (first_fault_from ok i (suc k))
    go true h r = subst (FirstFrom ok i n) (sym (fault_later ok i k h)) (further ok i n _ h r)
    go false h r = subst (FirstFrom ok i n) (sym (fault_here ok i k h)) (here ok i n (omega arith) (λ l. h))

pub first_fault_lem : (ok : ℕ → Bool) (n : ℕ) → First ok n (first_fault ok n)
unfolding first_fault
first_fault_lem ok n =
    let f : FirstFrom ok 0 n (first_fault_from ok 0 n) = from ok n 0 n (omega arith) in
    record { within = f.within; passed = λ k l. f.passed k (omega arith) l; fails = f.fails }

-- Two first records are one.
not_before : {ok : ℕ → Bool} {n i j : ℕ} → First ok n i → First ok n j → i < j → ⊥
not_before {ok} {n} {i} {j} f g l =
    let true_is_false : true ≡ false = sym (g.passed i l) ∙ f.fails (omega (arith, g.within)) in
    let z : ◌≡◌ {A = ℕ} 0 1 = cc in
    omega arith

pub first_unique : {ok : ℕ → Bool} {n i j : ℕ} → First ok n i → First ok n j → i ≡ j
first_unique {ok} {n} {i} {j} f g =
    let p : ¬ (i < j) = not_before f g in
    let q : ¬ (j < i) = not_before g f in
    omega arith

-- A first record is the one that `first_fault` finds.
pub first_is : {ok : ℕ → Bool} {n i : ℕ} → First ok n i → i ≡ first_fault ok n
first_is {ok} {n} f = first_unique f (first_fault_lem ok n)
