-- Laws of counts and of tests over the numbers below a bound, and what they say of a row, byte by byte.
use mathlib.Core.Path.{◌≡◌, refl, sym, ap, ap₂, ◌∙◌, subst}
use mathlib.Core.Bool.{Bool, true, false, cond, ◌||◌, false≢true, or-true}
use mathlib.Core.Logic.{⊎_elim}
use mathlib.Core.List.{List}
use Prim.Native.Nat.{ℕ, zero, suc, ◌+◌, ◌-◌, ◌*◌, ◌/◌, ◌%◌, ◌^◌, ◌≤◌, ◌<◌, suc-le-suc}
use native.Mathlib.Nat.{add-zero, add-suc, suc-add, not-suc-le-zero, le_refl, zero-add}
use native.Mathlib.Omega.{arith}
use native.Mathlib.Decide.{dec_lt, ℕ_discrete}
use lib.ListN.{length, get_or}
use lib.Dec.{eqb}
use lib.Count.{ones, ones_step}
use Rattle.rows.specs.Bits.{byte_bit, bit, count_below, some_below, any_bit}
use Rattle.rows.proofs.ByteBits.{byte_bit_half, byte_bit_low, half_lt, below_two, split_last}
use Rattle.rows.proofs.Bits.{bit_at, bit_past, set_below}

-- ---- counts

-- One number more, which passes or fails.
pub count_pass : (test : ℕ → Bool) (k : ℕ) → test k ≡ true → count_below test (suc k) ≡ suc (count_below test k)
unfolding count_below
count_pass test k e = rw (e, count_below)

pub count_fail : (test : ℕ → Bool) (k : ℕ) → test k ≡ false → count_below test (suc k) ≡ count_below test k
unfolding count_below
count_fail test k e = rw (e, count_below)

pub count_ext : (f g : ℕ → Bool) (k : ℕ) → ((j : ℕ) → j < k → f j ≡ g j) → count_below f k ≡ count_below g k
unfolding count_below
count_ext f g zero e = refl
count_ext f g (suc k) e = rw (e k (le_refl (suc k)), count_ext f g k (λ j l. e j (omega arith)))

pub count_le : (test : ℕ → Bool) (k : ℕ) → count_below test k ≤ k
unfolding count_below
count_le test zero = le_refl 0
count_le test (suc k) = go (test k) (count_le test k)
  where
    go : (b : Bool) → count_below test k ≤ k → cond b (suc (count_below test k)) (count_below test k) ≤ suc k
    go true h = suc-le-suc h
    go false h = omega arith

-- One more where b holds.
one_if : Bool → ℕ → ℕ
one_if b n = cond b (suc n) n

one_if_add : (b : Bool) (m n : ℕ) → one_if b (m + n) ≡ m + one_if b n
unfolding one_if
one_if_add true m n = sym (add-suc m n)
one_if_add false m n = refl

-- The count below a + k is the count below a and that of the k numbers from a on.
pub count_add : (test : ℕ → Bool) (a k : ℕ) → count_below test (a + k) ≡ count_below test a + count_below (λ (j : ℕ). test (a + j)) k
unfolding count_below one_if
count_add test a zero = ap (count_below test) (add-zero a) ∙ sym (add-zero (count_below test a))
count_add test a (suc k) =
    ap (count_below test) (add-suc a k)
    ∙ ap (one_if (test (a + k))) (count_add test a k)
    ∙ one_if_add (test (a + k)) (count_below test a) (count_below (λ (j : ℕ). test (a + j)) k)

-- A higher bound has no smaller count.
pub count_up : (test : ℕ → Bool) (a b : ℕ) → a ≤ b → count_below test a ≤ count_below test b
count_up test a b l =
    let whole : a + (b - a) ≡ b = omega arith in
    subst (λ (n : ℕ). count_below test a ≤ count_below test n) whole
    (subst (λ (n : ℕ). count_below test a ≤ n) (sym (count_add test a (b - a))) (omega arith))

-- Where each passes, all are counted.
pub count_all : (test : ℕ → Bool) (k : ℕ) → ((j : ℕ) → j < k → test j ≡ true) → count_below test k ≡ k
unfolding count_below
count_all test zero e = refl
count_all test (suc k) e = count_pass test k (e k (le_refl (suc k))) ∙ ap suc (count_all test k (λ j l. e j (omega arith)))

-- Numbers that fail add nothing.
pub count_none : (test : ℕ → Bool) (k : ℕ) → ((j : ℕ) → j < k → test j ≡ false) → count_below test k ≡ 0
unfolding count_below
count_none test zero e = refl
count_none test (suc k) e = count_fail test k (e k (le_refl (suc k))) ∙ count_none test k (λ j l. e j (omega arith))

pub count_skip : (test : ℕ → Bool) (a k : ℕ) → a ≤ k → ((j : ℕ) → a ≤ j → j < k → test j ≡ false) → count_below test k ≡ count_below test a
count_skip test a k l e =
    ap (count_below test) (let z : k ≡ a + (k - a) = omega arith in z)
    ∙ count_add test a (k - a)
    ∙ ap (λ (n : ℕ). count_below test a + n) (count_none (λ (j : ℕ). test (a + j)) (k - a) (λ j h. e (a + j) (omega arith) (omega arith)))
    ∙ add-zero (count_below test a)

-- The lowest number first, and then the others.
count_first : (test : ℕ → Bool) (k : ℕ) → count_below test (suc k) ≡ one_if (test 0) (count_below (λ (j : ℕ). test (suc j)) k)
unfolding count_below one_if
count_first test zero = refl
count_first test (suc k) = ap (one_if (test (suc k))) (count_first test k) ∙ swap (test (suc k)) (test 0) (count_below (λ (j : ℕ). test (suc j)) k)
  where
    swap : (a b : Bool) (n : ℕ) → one_if a (one_if b n) ≡ one_if b (one_if a n)
    swap true true n = refl
    swap true false n = refl
    swap false true n = refl
    swap false false n = refl

digit_if : (d n : ℕ) → d < 2 → d + n ≡ one_if (eqb d 1) n
unfolding one_if
digit_if zero n h = zero-add n
digit_if (suc zero) n h = suc-add 0 n ∙ ap suc (zero-add n)
digit_if (suc (suc d)) n h = omega arith

-- The set digits of a number of w bits.
pub ones_count : (w x : ℕ) → x < 2 ^ w → ones x ≡ count_below (byte_bit x) w
unfolding count_below ones
ones_count zero x h = ap ones (let z : x ≡ 0 = omega arith in z)
ones_count (suc w) x h =
    ones_step x
    ∙ ap (λ (n : ℕ). x % 2 + n) (ones_count w (x / 2) (half_lt w h))
    ∙ digit_if (x % 2) (count_below (byte_bit (x / 2)) w) (below_two x)
    ∙ ap₂ one_if (sym (byte_bit_low x)) (count_ext (byte_bit (x / 2)) (λ (j : ℕ). byte_bit x (suc j)) w (λ j l. sym (byte_bit_half x j)))
    ∙ sym (count_first (byte_bit x) w)

-- One byte more.
pub count_byte : (row : List ℕ) (i : ℕ) → get_or row i 0 < 256 → count_below (bit row) (8 * (i + 1)) ≡ count_below (bit row) (8 * i) + ones (get_or row i 0)
count_byte row i h =
    ap (count_below (bit row)) (let e : 8 * (i + 1) ≡ 8 * i + 8 = omega arith in e)
    ∙ count_add (bit row) (8 * i) 8
    ∙ ap (λ (n : ℕ). count_below (bit row) (8 * i) + n)
    (count_ext (λ (j : ℕ). bit row (8 * i + j)) (byte_bit (get_or row i 0)) 8 (λ j l. bit_at row i j l)
    ∙ sym (ones_count 8 (get_or row i 0) h))

-- ---- some

pub some_at : (test : ℕ → Bool) (k j : ℕ) → j < k → test j ≡ true → some_below test k ≡ true
unfolding some_below
some_at test zero j l h = absurd (not-suc-le-zero l)
some_at test (suc k) j l h =
    ⊎_elim
    (λ e. ap (λ (b : Bool). b || some_below test k) (ap test (sym e) ∙ h))
    (λ l'. ap (λ (b : Bool). test k || b) (some_at test k j l' h) ∙ or-true (test k))
    (split_last j k l)

-- Tests that agree below k.
pub some_ext : (f g : ℕ → Bool) (k : ℕ) → ((j : ℕ) → j < k → f j ≡ g j) → some_below f k ≡ some_below g k
unfolding some_below
some_ext f g zero e = refl
some_ext f g (suc k) e = ap₂ ◌||◌ (e k (le_refl (suc k))) (some_ext f g k (λ j l. e j (omega arith)))

pub some_none : (test : ℕ → Bool) (k : ℕ) → ((j : ℕ) → j < k → test j ≡ false) → some_below test k ≡ false
unfolding some_below
some_none test zero e = refl
some_none test (suc k) e = ap₂ ◌||◌ (e k (le_refl (suc k))) (some_none test k (λ j l. e j (omega arith)))

-- Where the test passes for some number below k, there is one.
pub some_which : (test : ℕ → Bool) (k : ℕ) → some_below test k ≡ true → (j : ℕ) × (j < k) × (test j ≡ true)
unfolding some_below
some_which test zero h = absurd (false≢true h)
some_which test (suc k) h = go (test k) refl h (λ g. some_which test k g)
  where
    go : (b : Bool) → test k ≡ b → (b || some_below test k) ≡ true → (some_below test k ≡ true → (j : ℕ) × (j < k) × (test j ≡ true)) → (j : ℕ) × (j < suc k) × (test j ≡ true)
    go true e g ih = (k, le_refl (suc k), e)
    go false e g ih = let w = ih g in (w.0, omega (arith, w.1), w.2)

-- Numbers whose tests fail add nothing.
pub some_skip : (test : ℕ → Bool) (k j : ℕ) → k ≤ j → ((a : ℕ) → k ≤ a → a < j → test a ≡ false) → some_below test j ≡ some_below test k
unfolding some_below
some_skip test k zero l e = ap (some_below test) (let z : 0 ≡ k = omega arith in z)
some_skip test k (suc j) l e =
    elim (ℕ_discrete k (suc j)) [
      | yes s ↦ ap (some_below test) (sym s)
      | no n ↦ ap (λ (b : Bool). b || some_below test j) (e j (omega arith) (le_refl (suc j))) ∙ some_skip test k j (omega arith) (λ a p q. e a p (omega arith))
    ]

pub none_below : (test : ℕ → Bool) (k j : ℕ) → some_below test k ≡ false → j < k → test j ≡ false
none_below test k j h l = go (test j) refl
  where
    go : (b : Bool) → test j ≡ b → b ≡ false
    go true e = absurd (false≢true (sym h ∙ some_at test k j l e))
    go false e = refl

-- ---- a row's bits

pub any_set : (row : List ℕ) (i : ℕ) → bit row i ≡ true → any_bit row ≡ true
unfolding any_bit
any_set row i h = some_at (bit row) (8 * length row) i (set_below row i h) h

pub any_clear : (row : List ℕ) → ((i : ℕ) → bit row i ≡ false) → any_bit row ≡ false
unfolding any_bit
any_clear row e = some_none (bit row) (8 * length row) (λ j l. e j)

pub any_which : (row : List ℕ) → any_bit row ≡ true → (i : ℕ) × (i < 8 * length row) × (bit row i ≡ true)
unfolding any_bit
any_which row h = some_which (bit row) (8 * length row) h

pub none_set : (row : List ℕ) → any_bit row ≡ false → (i : ℕ) → bit row i ≡ false
unfolding any_bit
none_set row h i =
    elim (dec_lt i (8 * length row)) [
      | yes l ↦ none_below (bit row) (8 * length row) i h l
      | no g ↦ bit_past row i (omega arith)
    ]
