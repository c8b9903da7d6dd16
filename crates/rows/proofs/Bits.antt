-- Laws of rows: the bits after a bit is set or cleared, after two rows are joined, and of a whole whose part was written; a row by its bits.
use mathlib.Core.Path.{◌≡◌, refl, sym, ap, ap₂, ◌∙◌, subst}
use mathlib.Core.Bool.{Bool, true, false, not, ◌&&◌, ◌||◌, or_comm, and_comm, false≢true}
use mathlib.Core.List.{List, [], ◌∷◌}
use Prim.Native.Nat.{ℕ, zero, suc, ◌+◌, ◌-◌, ◌*◌, ◌/◌, ◌%◌, ◌^◌, ◌≤◌, ◌<◌}
use native.Mathlib.Nat.{not-suc-le-zero, le_of_suc-le-suc, one-mul, mod-eq_of_lt}
use native.Mathlib.Numerals.{one-add}
use native.Mathlib.Omega.{arith}
use native.Mathlib.Decide.{dec_lt, ℕ_discrete}
use borrow.Author.Tests.{eq-eqb, ne_eqb}
use borrow.Rule.Slice.PartMut.{put_mid, mid_of, set_mid_at, mid_len}
use lib.ListN.{length, get_or, set, drop, replicate, length-set, length-replicate, get_or-replicate, get_or-eq_default}
use lib.Seq.{get_or-set_same, get_or-set_other, get_or-take, get_or-drop, ext_get_or, set_out}
use lib.Dec.{eqb, lit<}
use lib.Bits.{bit_and, bit_or, or_lt, and_lt}
use lib.Pow.{pow-lt}
use Rattle.rows.specs.Bits.{byte_bit, bit, set_bit, clear_bit, zip_row, byte_minus, or_row, and_row, minus_row, Bytes}
use Rattle.rows.proofs.ByteBits.{byte_bit_or, byte_bit_and, byte_bit_power, byte_bit_mask, byte_bit-zero, byte_bit_ext, byte_bit_minus}

-- ---- a bit by its byte

pub bit_at : (row : List ℕ) (i j : ℕ) → j < 8 → bit row (8 * i + j) ≡ byte_bit (get_or row i 0) j
unfolding bit
bit_at row i j h =
    let q : (8 * i + j) / 8 ≡ i = omega arith in
    let r : (8 * i + j) % 8 ≡ j = omega arith in
    ap₂ (λ (a b : ℕ). byte_bit (get_or row a 0) b) q r

pub bit_past : (row : List ℕ) (i : ℕ) → 8 * length row ≤ i → bit row i ≡ false
unfolding bit
bit_past row i h =
    let past : length row ≤ i / 8 = omega arith in
    ap (λ (x : ℕ). byte_bit x (i % 8)) (get_or-eq_default row 0 past) ∙ byte_bit-zero (i % 8)

-- A bit that is set lies within its row.
pub set_below : (row : List ℕ) (i : ℕ) → bit row i ≡ true → i < 8 * length row
set_below row i h = elim (dec_lt i (8 * length row)) [ yes l ↦ l | no g ↦ absurd (false≢true (sym (bit_past row i (omega arith)) ∙ h)) ]

-- ---- after one bit is set or cleared

-- numbers with the same byte are equal where their places in it are
place_eq : (i j : ℕ) → i / 8 ≡ j / 8 → eqb (i % 8) (j % 8) ≡ eqb i j
place_eq i j e =
    elim (ℕ_discrete i j) [
      | yes s ↦ eq-eqb (i % 8) (j % 8) (ap (λ (n : ℕ). n % 8) s) ∙ sym (eq-eqb i j s)
      | no d ↦ ne_eqb (i % 8) (j % 8) (λ s. d (omega arith)) ∙ sym (ne_eqb i j d)
    ]

-- A row whose byte i div 8 is written so that the bit at i changes by f, and no other.
module _ (row : List ℕ) (i x : ℕ) (f : Bool → Bool → Bool) (h : i < 8 * length row)
    (at : (k : ℕ) → k < 8 → byte_bit x k ≡ f (eqb (i % 8) k) (byte_bit (get_or row (i / 8) 0) k))
    (others : (b : Bool) → f false b ≡ b)
  where
    written : (j : ℕ) → Dec (j / 8 ≡ i / 8) → bit (set row (i / 8) x) j ≡ f (eqb i j) (bit row j)
    unfolding bit
    written j (yes e) =
        ap (λ (k : ℕ). byte_bit (get_or (set row (i / 8) x) k 0) (j % 8)) e
        ∙ ap (λ (y : ℕ). byte_bit y (j % 8)) (get_or-set_same row (i / 8) x 0 (omega arith))
        ∙ at (j % 8) (omega arith)
        ∙ ap₂ (λ (a : Bool) (k : ℕ). f a (byte_bit (get_or row k 0) (j % 8))) (place_eq i j (sym e)) (sym e)
    written j (no d) =
        ap (λ (y : ℕ). byte_bit y (j % 8)) (get_or-set_other row (i / 8) (j / 8) x 0 d)
        ∙ sym (others (bit row j))
        ∙ ap (λ (a : Bool). f a (bit row j)) (sym (ne_eqb i j (λ s. d (ap (λ (n : ℕ). n / 8) (sym s)))))

    bit-written : (j : ℕ) → bit (set row (i / 8) x) j ≡ f (eqb i j) (bit row j)
    bit-written j = written j (ℕ_discrete (j / 8) (i / 8))

either : Bool → Bool → Bool
either a b = a || b

without : Bool → Bool → Bool
without a b = not a && b

both : Bool → Bool → Bool
both a b = a && b

less : Bool → Bool → Bool
less a b = a && not b

pub bit-set : (row : List ℕ) (i j : ℕ) → i < 8 * length row → bit (set_bit row i) j ≡ (eqb i j || bit row j)
unfolding set_bit either
bit-set row i j h =
    bit-written row i (bit_or (get_or row (i / 8) 0) (2 ^ (i % 8))) either h
    (λ k l.
    byte_bit_or (get_or row (i / 8) 0) (2 ^ (i % 8)) k
    ∙ ap (λ (b : Bool). byte_bit (get_or row (i / 8) 0) k || b) (byte_bit_power (i % 8) k (omega arith) l)
    ∙ or_comm (byte_bit (get_or row (i / 8) 0) k) (eqb (i % 8) k))
    (λ b. refl) j

pub bit_clear : (row : List ℕ) (i j : ℕ) → i < 8 * length row → bit (clear_bit row i) j ≡ (not (eqb i j) && bit row j)
unfolding clear_bit without
bit_clear row i j h =
    bit-written row i (bit_and (get_or row (i / 8) 0) (255 - 2 ^ (i % 8))) without h
    (λ k l.
    byte_bit_and (get_or row (i / 8) 0) (255 - 2 ^ (i % 8)) k
    ∙ ap (λ (b : Bool). byte_bit (get_or row (i / 8) 0) k && b) (byte_bit_mask (i % 8) k (omega arith) l)
    ∙ and_comm (byte_bit (get_or row (i / 8) 0) k) (not (eqb (i % 8) k)))
    (λ b. refl) j

pub length-set_bit : (row : List ℕ) (i : ℕ) → length (set_bit row i) ≡ length row
unfolding set_bit
length-set_bit row i = length-set row (i / 8) (bit_or (get_or row (i / 8) 0) (2 ^ (i % 8)))

pub length-clear_bit : (row : List ℕ) (i : ℕ) → length (clear_bit row i) ≡ length row
unfolding clear_bit
length-clear_bit row i = length-set row (i / 8) (bit_and (get_or row (i / 8) 0) (255 - 2 ^ (i % 8)))

-- ---- two rows, byte by byte

pub length_zip : (f : ℕ → ℕ → ℕ) (xs ys : List ℕ) → length (zip_row f xs ys) ≡ length xs
unfolding zip_row
length_zip f [] ys = refl
length_zip f (x ∷ xs) ys = ap suc (length_zip f xs (drop 1 ys))

pub get_d_zip : (f : ℕ → ℕ → ℕ) (xs ys : List ℕ) (k : ℕ) → k < length xs → get_or (zip_row f xs ys) k 0 ≡ f (get_or xs k 0) (get_or ys k 0)
unfolding zip_row
get_d_zip f [] ys k h = absurd (not-suc-le-zero h)
get_d_zip f (x ∷ xs) ys zero h = refl
get_d_zip f (x ∷ xs) ys (suc k) h =
    get_d_zip f xs (drop 1 ys) k (le_of_suc-le-suc h)
    ∙ ap (λ (y : ℕ). f (get_or xs k 0) y) (get_or-drop 1 ys k 0 ∙ ap (λ (j : ℕ). get_or ys j 0) (one-add k))

-- The bits of a row made byte by byte, where each byte's bits are by g.
bit_zip : (f : ℕ → ℕ → ℕ) (g : Bool → Bool → Bool) (xs ys : List ℕ) (i : ℕ) → ((x y k : ℕ) → y < 256 → k < 8 → byte_bit (f x y) k ≡ g (byte_bit x k) (byte_bit y k)) → Bytes ys → i < 8 * length xs → bit (zip_row f xs ys) i ≡ g (bit xs i) (bit ys i)
unfolding bit
bit_zip f g xs ys i each bs h =
    ap (λ (x : ℕ). byte_bit x (i % 8)) (get_d_zip f xs ys (i / 8) (omega arith))
    ∙ each (get_or xs (i / 8) 0) (get_or ys (i / 8) 0) (i % 8) (bs (i / 8)) (omega arith)

pub bit-or_row : (xs ys : List ℕ) (i : ℕ) → Bytes ys → i < 8 * length xs → bit (or_row xs ys) i ≡ (bit xs i || bit ys i)
unfolding or_row either
bit-or_row xs ys i bs h = bit_zip bit_or either xs ys i (λ x y k l g. byte_bit_or x y k) bs h

pub bit-and_row : (xs ys : List ℕ) (i : ℕ) → Bytes ys → i < 8 * length xs → bit (and_row xs ys) i ≡ (bit xs i && bit ys i)
unfolding and_row both
bit-and_row xs ys i bs h = bit_zip bit_and both xs ys i (λ x y k l g. byte_bit_and x y k) bs h

pub bit-minus_row : (xs ys : List ℕ) (i : ℕ) → Bytes ys → i < 8 * length xs → bit (minus_row xs ys) i ≡ (bit xs i && not (bit ys i))
unfolding minus_row less
bit-minus_row xs ys i bs h = bit_zip byte_minus less xs ys i (λ x y k l g. byte_bit_minus x y k l g) bs h

-- ---- a row of zeros

pub bytes_zero : (k : ℕ) → Bytes (replicate k 0)
bytes_zero k i =
    elim (dec_lt i k) [
      | yes l ↦ subst (λ (x : ℕ). x < 256) (sym (get_or-replicate k i 0 0 l)) (lit< tt)
      | no g ↦ subst (λ (x : ℕ). x < 256) (sym (get_or-eq_default (replicate k 0) 0 (omega (arith, length-replicate {A = ℕ} k 0)))) (lit< tt)
    ]

pub bit_zeros : (n i : ℕ) → bit (replicate n 0) i ≡ false
unfolding bit
bit_zeros n i =
    elim (dec_lt (i / 8) n) [
      | yes l ↦ ap (λ (x : ℕ). byte_bit x (i % 8)) (get_or-replicate n (i / 8) 0 0 l) ∙ byte_bit-zero (i % 8)
      | no g ↦ bit_past (replicate n 0) i (omega (arith, length-replicate {A = ℕ} n 0))
    ]

-- ---- bytes stay bytes

pub set_bytes : (row : List ℕ) (q x : ℕ) → Bytes row → x < 256 → Bytes (set row q x)
set_bytes row q x bs hx k =
    elim (ℕ_discrete k q) [
      | no d ↦ subst (λ (y : ℕ). y < 256) (sym (get_or-set_other row q k x 0 d)) (bs k)
      | yes e ↦ elim (dec_lt q (length row)) [
        | yes l ↦ subst (λ (y : ℕ). y < 256) (sym (ap (λ (m : ℕ). get_or (set row q x) m 0) e ∙ get_or-set_same row q x 0 l)) hx
        | no g ↦ subst (λ (xs : List ℕ). get_or xs k 0 < 256) (sym (set_out row q x (omega arith))) (bs k)
      ]
    ]

pub power_byte : (k : ℕ) → k < 8 → 2 ^ k < 256
power_byte k h = pow-lt h

-- One shifted by a place, as a byte.
pub shifted_one : (k : ℕ) → k < 8 → 1 * 2 ^ k % 256 ≡ 2 ^ k
shifted_one k h = ap (λ (x : ℕ). x % 256) (one-mul (2 ^ k)) ∙ mod-eq_of_lt (power_byte k h)

pub bytes_set_bit : (row : List ℕ) (i : ℕ) → Bytes row → Bytes (set_bit row i)
unfolding set_bit
bytes_set_bit row i bs =
    set_bytes row (i / 8) (bit_or (get_or row (i / 8) 0) (2 ^ (i % 8))) bs
    (or_lt 8 (get_or row (i / 8) 0) (2 ^ (i % 8)) (bs (i / 8)) (power_byte (i % 8) (omega arith)))

bytes_zip : (f : ℕ → ℕ → ℕ) (xs ys : List ℕ) → ((x y : ℕ) → x < 256 → y < 256 → f x y < 256) → Bytes xs → Bytes ys → Bytes (zip_row f xs ys)
bytes_zip f xs ys each bx by k =
    elim (dec_lt k (length xs)) [
      | yes l ↦ subst (λ (y : ℕ). y < 256) (sym (get_d_zip f xs ys k l)) (each (get_or xs k 0) (get_or ys k 0) (bx k) (by k))
      | no g ↦ subst (λ (y : ℕ). y < 256) (sym (get_or-eq_default (zip_row f xs ys) 0 (subst (λ (m : ℕ). m ≤ k) (sym (length_zip f xs ys)) (omega arith)))) (lit< tt)
    ]

pub bytes_and_row : (xs ys : List ℕ) → Bytes xs → Bytes ys → Bytes (and_row xs ys)
unfolding and_row
bytes_and_row xs ys bx by = bytes_zip bit_and xs ys (λ x y hx hy. and_lt 8 x y hx hy) bx by

pub bytes_minus_row : (xs ys : List ℕ) → Bytes xs → Bytes ys → Bytes (minus_row xs ys)
unfolding minus_row byte_minus
bytes_minus_row xs ys bx by = bytes_zip byte_minus xs ys (λ x y hx hy. and_lt 8 x (255 - y) hx (omega arith)) bx by

-- ---- a row by its bits

-- Two byte lists of one length with the same bits are equal.
pub same_bits : (xs ys : List ℕ) → Bytes xs → Bytes ys → length xs ≡ length ys → ((i : ℕ) → i < 8 * length xs → bit xs i ≡ bit ys i) → xs ≡ ys
same_bits xs ys bx by l e =
    ext_get_or 0 xs ys l
    (λ k h.
    byte_bit_ext 8 (get_or xs k 0) (get_or ys k 0) (bx k) (by k)
    (λ j g. sym (bit_at xs k j g) ∙ e (8 * k + j) (omega arith) ∙ bit_at ys k j g))

-- ---- a part that was lent and written

-- A byte changed in a lent part is that byte of the whole; so is a bit that is set or cleared there.
part_byte : (f : ℕ → ℕ → ℕ) (xs : List ℕ) (a e i : ℕ) → a ≤ e → e ≤ length xs → i < 8 * (e - a)
    → put_mid a (e - a) xs (set (mid_of a (e - a) xs) (i / 8) (f (get_or (mid_of a (e - a) xs) (i / 8) 0) (i % 8))) ≡ set xs ((8 * a + i) / 8) (f (get_or xs ((8 * a + i) / 8) 0) ((8 * a + i) % 8))
part_byte f xs a e i h l p =
    let inside : i / 8 < e - a = omega arith in
    let long : length (mid_of a (e - a) xs) ≡ e - a = mid_len a e xs l in
    let byte : get_or (mid_of a (e - a) xs) (i / 8) 0 ≡ get_or xs (a + i / 8) 0 =
    get_or-take (e - a) (drop a xs) (i / 8) 0 inside ∙ get_or-drop a xs (i / 8) 0
    in
    let q : (8 * a + i) / 8 ≡ a + i / 8 = omega arith in
    let r : (8 * a + i) % 8 ≡ i % 8 = omega arith in
    set_mid_at a (e - a) (i / 8) xs (f (get_or (mid_of a (e - a) xs) (i / 8) 0) (i % 8)) (omega arith)
    ∙ ap (λ (y : ℕ). set xs (a + i / 8) (f y (i % 8))) byte
    ∙ ap₂ (λ (m k : ℕ). set xs m (f (get_or xs m 0) k)) (sym q) (sym r)

pub set_part : (xs : List ℕ) (a e i : ℕ) → a ≤ e → e ≤ length xs → i < 8 * (e - a) → put_mid a (e - a) xs (set_bit (mid_of a (e - a) xs) i) ≡ set_bit xs (8 * a + i)
unfolding set_bit
set_part = part_byte (λ y k. bit_or y (2 ^ k))

pub clear_part : (xs : List ℕ) (a e i : ℕ) → a ≤ e → e ≤ length xs → i < 8 * (e - a) → put_mid a (e - a) xs (clear_bit (mid_of a (e - a) xs) i) ≡ clear_bit xs (8 * a + i)
unfolding clear_bit
clear_part = part_byte (λ y k. bit_and y (255 - 2 ^ k))
