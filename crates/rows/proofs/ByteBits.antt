-- Laws of the bits of one byte, and of those of a byte list's index.
use mathlib.Core.Path.{◌≡◌, refl, sym, ap, ◌∙◌, subst}
use mathlib.Core.Bool.{Bool, true, false, not, ◌&&◌, ◌||◌, false≢true, and-eq-true_iff}
use mathlib.Core.Logic.{◌⊎◌, inl, inr, ⊎_elim}
use Prim.Native.Nat.{ℕ, zero, suc, ◌+◌, ◌-◌, ◌*◌, ◌/◌, ◌%◌, ◌^◌, ◌≤◌, ◌<◌, zero-le, suc-le-suc}
use native.Mathlib.Nat.{mod-lt, not-suc-le-zero, le_of_suc-le-suc, lt_of_lt_of_le, zero-div, div-one, div-eq_of_lt, pow-suc}
use native.Mathlib.Numerals.{one-add, add-one}
use native.Mathlib.Decide.{dec_lt}
use native.Mathlib.Omega.{arith}
use lib.Dec.{eqb, lit<}
use lib.Bits.{bit_and, bit_or, or_shr, and_shr, or_mod, and_mod, block_half, block_odd}
use lib.Pow.{shr_lt, shr-shr, pow_mono, high}
use lib.Count.{count_trailing_zeros, under}
use Rattle.rows.specs.Bits.{byte_bit, byte_minus}

-- ---- or, and

pub split_last : (k n : ℕ) → k < suc n → (k ≡ n) ⊎ (k < n)
split_last k n h = elim (dec_lt k n) [ yes l ↦ inr l | no g ↦ inl (omega arith) ]

pub half_lt : {x : ℕ} (w : ℕ) → x < 2 ^ suc w → x / 2 < 2 ^ w
half_lt {x} w h = shr_lt w 1 (subst (λ (m : ℕ). x < 2 ^ m) (sym (add-one w)) h)

or_digit : (u v : ℕ) → u < 2 → v < 2 → eqb (bit_or u v) 1 ≡ (eqb u 1 || eqb v 1)
or_digit zero zero hu hv = refl
or_digit zero (suc zero) hu hv = refl
or_digit zero (suc (suc v)) hu hv = absurd (not-suc-le-zero (le_of_suc-le-suc (le_of_suc-le-suc hv)))
or_digit (suc zero) zero hu hv = refl
or_digit (suc zero) (suc zero) hu hv = refl
or_digit (suc zero) (suc (suc v)) hu hv = absurd (not-suc-le-zero (le_of_suc-le-suc (le_of_suc-le-suc hv)))
or_digit (suc (suc u)) v hu hv = absurd (not-suc-le-zero (le_of_suc-le-suc (le_of_suc-le-suc hu)))

and_digit : (u v : ℕ) → u < 2 → v < 2 → eqb (bit_and u v) 1 ≡ (eqb u 1 && eqb v 1)
and_digit zero zero hu hv = refl
and_digit zero (suc zero) hu hv = refl
and_digit zero (suc (suc v)) hu hv = absurd (not-suc-le-zero (le_of_suc-le-suc (le_of_suc-le-suc hv)))
and_digit (suc zero) zero hu hv = refl
and_digit (suc zero) (suc zero) hu hv = refl
and_digit (suc zero) (suc (suc v)) hu hv = absurd (not-suc-le-zero (le_of_suc-le-suc (le_of_suc-le-suc hv)))
and_digit (suc (suc u)) v hu hv = absurd (not-suc-le-zero (le_of_suc-le-suc (le_of_suc-le-suc hu)))

pub below_two : (n : ℕ) → n % 2 < 2
below_two n = mod-lt n (lit< tt)

pub byte_bit_or : (x y k : ℕ) → byte_bit (bit_or x y) k ≡ (byte_bit x k || byte_bit y k)
unfolding byte_bit
byte_bit_or x y k =
    ap (λ (n : ℕ). eqb (n % 2) 1) (or_shr x y k)
    ∙ ap (λ (n : ℕ). eqb n 1) (or_mod (x / 2 ^ k) (y / 2 ^ k) 1)
    ∙ or_digit (x / 2 ^ k % 2) (y / 2 ^ k % 2) (below_two (x / 2 ^ k)) (below_two (y / 2 ^ k))

pub byte_bit_and : (x y k : ℕ) → byte_bit (bit_and x y) k ≡ (byte_bit x k && byte_bit y k)
unfolding byte_bit
byte_bit_and x y k =
    ap (λ (n : ℕ). eqb (n % 2) 1) (and_shr x y k)
    ∙ ap (λ (n : ℕ). eqb n 1) (and_mod (x / 2 ^ k) (y / 2 ^ k) 1)
    ∙ and_digit (x / 2 ^ k % 2) (y / 2 ^ k % 2) (below_two (x / 2 ^ k)) (below_two (y / 2 ^ k))

-- ---- one bit set, one bit clear: tables of eight by eight, computed

all_below : (ℕ → Bool) → ℕ → Bool
all_below f zero = true
all_below f (suc k) = f k && all_below f k

same : Bool → Bool → Bool
same true b = b
same false b = not b

same_eq : (a b : Bool) → same a b ≡ true → a ≡ b
unfolding same
same_eq true true h = refl
same_eq true false h = sym h
same_eq false true h = h
same_eq false false h = refl

at_below : (f : ℕ → Bool) (n k : ℕ) → all_below f n ≡ true → k < n → f k ≡ true
unfolding all_below
at_below f zero k h l = absurd (not-suc-le-zero l)
at_below f (suc n) k h l =
    ⊎_elim
    (λ e. subst (λ (m : ℕ). f m ≡ true) (sym e) ((and-eq-true_iff (f n) (all_below f n)).0 h).0)
    (λ l'. at_below f n k ((and-eq-true_iff (f n) (all_below f n)).0 h).1 l')
    (split_last k n l)

powers : (k j : ℕ) → Bool
powers k j = same (byte_bit (2 ^ k) j) (eqb k j)

masks : (k j : ℕ) → Bool
masks k j = same (byte_bit (255 - 2 ^ k) j) (not (eqb k j))

pub byte_bit_power : (k j : ℕ) → k < 8 → j < 8 → byte_bit (2 ^ k) j ≡ eqb k j
unfolding byte_bit same all_below powers
byte_bit_power k j hk hj =
    same_eq (byte_bit (2 ^ k) j) (eqb k j)
    (at_below (powers k) 8 j (at_below (λ (m : ℕ). all_below (powers m) 8) 8 k refl hk) hj)

pub byte_bit_mask : (k j : ℕ) → k < 8 → j < 8 → byte_bit (255 - 2 ^ k) j ≡ not (eqb k j)
unfolding byte_bit same all_below masks
byte_bit_mask k j hk hj =
    same_eq (byte_bit (255 - 2 ^ k) j) (not (eqb k j))
    (at_below (masks k) 8 j (at_below (λ (m : ℕ). all_below (masks m) 8) 8 k refl hk) hj)

-- ---- a byte by its bits

pub byte_bit-zero : (k : ℕ) → byte_bit 0 k ≡ false
unfolding byte_bit
byte_bit-zero k = simp zero-div

pub byte_bit_half : (x k : ℕ) → byte_bit x (suc k) ≡ byte_bit (x / 2) k
unfolding byte_bit
byte_bit_half x k = ap (λ (n : ℕ). eqb (n % 2) 1) (ap (λ (m : ℕ). x / 2 ^ m) (sym (one-add k)) ∙ sym (shr-shr x 1 k))

digit_ext : (u v : ℕ) → u < 2 → v < 2 → eqb u 1 ≡ eqb v 1 → u ≡ v
digit_ext zero zero hu hv e = refl
digit_ext zero (suc zero) hu hv e = absurd (false≢true e)
digit_ext zero (suc (suc v)) hu hv e = omega arith
digit_ext (suc zero) zero hu hv e = absurd (false≢true (sym e))
digit_ext (suc zero) (suc zero) hu hv e = refl
digit_ext (suc zero) (suc (suc v)) hu hv e = omega arith
digit_ext (suc (suc u)) v hu hv e = omega arith

pub byte_bit_low : (x : ℕ) → byte_bit x 0 ≡ eqb (x % 2) 1
unfolding byte_bit
byte_bit_low x = ap (λ (n : ℕ). eqb (n % 2) 1) (div-one x)

-- Two numbers of w bits with the same bits are equal.
pub byte_bit_ext : (w x y : ℕ) → x < 2 ^ w → y < 2 ^ w → ((k : ℕ) → k < w → byte_bit x k ≡ byte_bit y k) → x ≡ y
byte_bit_ext zero x y hx hy e = omega arith
byte_bit_ext (suc w) x y hx hy e =
    let halves : x / 2 ≡ y / 2 =
    byte_bit_ext w (x / 2) (y / 2) (half_lt w hx) (half_lt w hy)
    (λ k l. sym (byte_bit_half x k) ∙ e (suc k) (suc-le-suc l) ∙ byte_bit_half y k)
    in
    let lows : x % 2 ≡ y % 2 =
    digit_ext (x % 2) (y % 2) (below_two x) (below_two y)
    (sym (byte_bit_low x) ∙ e 0 (suc-le-suc zero-le) ∙ byte_bit_low y)
    in
    omega arith

-- ---- the lowest set bit of a byte

low_step : (x w : ℕ) (ih : (j : ℕ) → j < count_trailing_zeros w (x / 2) → byte_bit (x / 2) j ≡ false) (d : ℕ) → x % 2 ≡ d → (j : ℕ) → j < under d (count_trailing_zeros w (x / 2)) → byte_bit x j ≡ false
low_step x w ih zero e zero l = byte_bit_low x ∙ ap (λ (n : ℕ). eqb n 1) e
low_step x w ih zero e (suc j) l = byte_bit_half x j ∙ ih j (le_of_suc-le-suc l)
low_step x w ih (suc d) e j l = absurd (not-suc-le-zero l)

pub trailing_low : (w x j : ℕ) → j < count_trailing_zeros w x → byte_bit x j ≡ false
unfolding count_trailing_zeros
trailing_low zero x j h = absurd (not-suc-le-zero h)
trailing_low (suc w) x j h = low_step x w (λ k l. trailing_low w (x / 2) k l) (x % 2) refl j h

at_step : (x w : ℕ) (ih : count_trailing_zeros w (x / 2) < w → byte_bit (x / 2) (count_trailing_zeros w (x / 2)) ≡ true) (d : ℕ) → x % 2 ≡ d → under d (count_trailing_zeros w (x / 2)) < suc w → byte_bit x (under d (count_trailing_zeros w (x / 2))) ≡ true
at_step x w ih zero e l = byte_bit_half x (count_trailing_zeros w (x / 2)) ∙ ih (le_of_suc-le-suc l)
at_step x w ih (suc zero) e l = byte_bit_low x ∙ ap (λ (n : ℕ). eqb n 1) e
at_step x w ih (suc (suc d)) e l = let h : x % 2 < 2 = below_two x in let z : ⊥ = omega arith in absurd z

pub trailing_at : (w x : ℕ) → count_trailing_zeros w x < w → byte_bit x (count_trailing_zeros w x) ≡ true
unfolding count_trailing_zeros
trailing_at zero x h = absurd (not-suc-le-zero h)
trailing_at (suc w) x h = at_step x w (λ l. trailing_at w (x / 2) l) (x % 2) refl h

lt_step : (x w : ℕ) → 0 < x → (ih : 0 < x / 2 → count_trailing_zeros w (x / 2) < w) (d : ℕ) → x % 2 ≡ d → under d (count_trailing_zeros w (x / 2)) < suc w
lt_step x w p ih zero e = suc-le-suc (ih (omega arith))
lt_step x w p ih (suc d) e = suc-le-suc zero-le

pub trailing_lt : (w x : ℕ) → 0 < x → x < 2 ^ w → count_trailing_zeros w x < w
unfolding count_trailing_zeros
trailing_lt zero x p h = omega arith
trailing_lt (suc w) x p h = lt_step x w p (λ q. trailing_lt w (x / 2) q (half_lt w h)) (x % 2) refl

-- ---- a byte shifted, and bits past its width

pub byte_bit_shift : (x s k : ℕ) → byte_bit (x / 2 ^ s) k ≡ byte_bit x (s + k)
unfolding byte_bit
byte_bit_shift x s k = ap (λ (n : ℕ). eqb (n % 2) 1) (shr-shr x s k)

pub byte_bit_past : (w x k : ℕ) → x < 2 ^ w → w ≤ k → byte_bit x k ≡ false
unfolding byte_bit
byte_bit_past w x k h l = ap (λ (n : ℕ). eqb (n % 2) 1) (div-eq_of_lt (lt_of_lt_of_le h (pow_mono l)))

-- ---- a number above another of m digits

pub byte_bit_below : (m a r i : ℕ) → i < m → byte_bit (a * 2 ^ m + r) i ≡ byte_bit r i
byte_bit_below zero a r i h = absurd (not-suc-le-zero h)
byte_bit_below (suc m) a r zero h =
    byte_bit_low (a * 2 ^ suc m + r) ∙ ap (λ (n : ℕ). eqb n 1) (block_odd a m r) ∙ sym (byte_bit_low r)
byte_bit_below (suc m) a r (suc i) h =
    byte_bit_half (a * 2 ^ suc m + r) i
    ∙ ap (λ (n : ℕ). byte_bit n i) (block_half a m r)
    ∙ byte_bit_below m a (r / 2) i (le_of_suc-le-suc h)
    ∙ sym (byte_bit_half r i)

pub byte_bit-above : (m a r j : ℕ) → r < 2 ^ m → byte_bit (a * 2 ^ m + r) (m + j) ≡ byte_bit a j
byte_bit-above m a r j h = sym (byte_bit_shift (a * 2 ^ m + r) m j) ∙ ap (λ (n : ℕ). byte_bit n j) (high a m h)

-- ---- one byte without another's bits

flip_half : (P y : ℕ) → y < P * 2 → ((P * 2 - 1) - y) / 2 ≡ (P - 1) - y / 2
flip_half P y h = omega arith

flip_low : (P y : ℕ) → y < P * 2 → ((P * 2 - 1) - y) % 2 ≡ 1 - y % 2
flip_low P y h = omega arith

flip_digit : (d : ℕ) → d < 2 → eqb (1 - d) 1 ≡ not (eqb d 1)
flip_digit zero h = refl
flip_digit (suc zero) h = refl
flip_digit (suc (suc d)) h = let z : ⊥ = omega arith in absurd z

-- The bits of the complement of a number of w bits.
pub byte_bit_flip : (w y k : ℕ) → y < 2 ^ w → k < w → byte_bit ((2 ^ w - 1) - y) k ≡ not (byte_bit y k)
byte_bit_flip zero y k h l = absurd (not-suc-le-zero l)
byte_bit_flip (suc w) y zero h l =
    let h' : y < 2 ^ w * 2 = subst (λ (n : ℕ). y < n) (pow-suc 2 w) h in
    ap (λ (n : ℕ). byte_bit ((n - 1) - y) 0) (pow-suc 2 w)
    ∙ byte_bit_low ((2 ^ w * 2 - 1) - y)
    ∙ ap (λ (n : ℕ). eqb n 1) (flip_low (2 ^ w) y h')
    ∙ flip_digit (y % 2) (below_two y)
    ∙ ap not (sym (byte_bit_low y))
byte_bit_flip (suc w) y (suc k) h l =
    let h' : y < 2 ^ w * 2 = subst (λ (n : ℕ). y < n) (pow-suc 2 w) h in
    ap (λ (n : ℕ). byte_bit ((n - 1) - y) (suc k)) (pow-suc 2 w)
    ∙ byte_bit_half ((2 ^ w * 2 - 1) - y) k
    ∙ ap (λ (n : ℕ). byte_bit n k) (flip_half (2 ^ w) y h')
    ∙ byte_bit_flip w (y / 2) k (half_lt w h) (le_of_suc-le-suc l)
    ∙ ap not (sym (byte_bit_half y k))

pub byte_bit_minus : (x y k : ℕ) → y < 256 → k < 8 → byte_bit (byte_minus x y) k ≡ (byte_bit x k && not (byte_bit y k))
unfolding byte_minus
byte_bit_minus x y k h l = byte_bit_and x (255 - y) k ∙ ap (λ (b : Bool). byte_bit x k && b) (byte_bit_flip 8 y k h l)
