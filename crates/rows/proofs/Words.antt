-- Several bytes of a row as one number, over how many there are: its bits are the row's, and its set bits are those of its bytes.
use mathlib.Core.Path.{◌≡◌, refl, sym, ap, ◌∙◌, subst}
use mathlib.Core.List.{List}
use Prim.Native.Nat.{ℕ, zero, suc, ◌+◌, ◌-◌, ◌*◌, ◌%◌, ◌^◌, ◌≤◌, ◌<◌}
use native.Mathlib.Nat.{add-zero, add_comm, add_assoc, lt_of_lt_of_le}
use native.Mathlib.Omega.{arith}
use native.Mathlib.Decide.{dec_lt}
use lib.ListN.{get_or}
use lib.Dec.{lit<}
use lib.Bits.{bit_or, or_lt, or_shifted, or_shifted_r}
use lib.Count.{ones, ones_cat}
use lib.Pow.{pow_mono, shl_lt, shl_exact}
use Rattle.rows.specs.Bits.{byte_bit, bit, count_below}
use Rattle.rows.specs.Words.{number_at}
use Rattle.rows.proofs.ByteBits.{byte_bit_below, byte_bit-above}
use Rattle.rows.proofs.Bits.{bit_at}
use Rattle.rows.proofs.Counting.{count_byte}

-- ---- the number of k bytes

-- The k elements from a place on are bytes.
abbrev pub BytesFrom : List ℕ → ℕ → ℕ → Type 0
BytesFrom row at k = (j : ℕ) → j < k → get_or row (at + j) 0 < 256

fewer : (row : List ℕ) (at k : ℕ) → BytesFrom row at (suc k) → BytesFrom row at k
fewer row at k bs j l = bs j (omega arith)

eight_more : (k : ℕ) → 8 + 8 * k ≡ 8 * suc k
eight_more k = omega arith

pub number_lt : (row : List ℕ) (at k : ℕ) → BytesFrom row at k → number_at row at k < 2 ^ (8 * k)
unfolding number_at
number_lt row at zero bs = lit< tt
number_lt row at (suc k) bs =
    let byte = get_or row (at + k) 0 in
    let rest = number_at row at k in
    let below : rest < 2 ^ (8 * k) = number_lt row at k (fewer row at k bs) in
    let top : byte * 2 ^ (8 * k) < 2 ^ (8 + 8 * k) = shl_lt 8 (8 * k) (bs k (omega arith)) in
    let whole : bit_or (byte * 2 ^ (8 * k)) rest < 2 ^ (8 + 8 * k) =
    or_lt (8 + 8 * k) (byte * 2 ^ (8 * k)) rest top (lt_of_lt_of_le below (pow_mono (omega arith)))
    in
    subst (λ (m : ℕ). byte * 2 ^ (8 * k) + rest < 2 ^ m) (eight_more k)
    (subst (λ (n : ℕ). n < 2 ^ (8 + 8 * k)) (or_shifted byte (8 * k) rest below) whole)

-- One byte more is joined on by a shift and an or.
pub number_more : (row : List ℕ) (at k w : ℕ) → BytesFrom row at (suc k) → 8 + 8 * k ≤ w → bit_or (number_at row at k) (get_or row (at + k) 0 * 2 ^ (8 * k) % 2 ^ w) ≡ number_at row at (suc k)
unfolding number_at
number_more row at k w bs l =
    let byte = get_or row (at + k) 0 in
    ap (λ (n : ℕ). bit_or (number_at row at k) n) (shl_exact {a = byte} 8 (8 * k) w (bs k (omega arith)) l)
    ∙ or_shifted_r byte (8 * k) (number_at row at k) (number_lt row at k (fewer row at k bs))

-- Bit i of the number is bit 8 · at + i of the row.
pub number_bit : (row : List ℕ) (at k i : ℕ) → BytesFrom row at k → i < 8 * k → byte_bit (number_at row at k) i ≡ bit row (8 * at + i)
unfolding number_at
number_bit row at zero i bs h = let z : ⊥ = omega arith in absurd z
number_bit row at (suc k) i bs h =
    let byte = get_or row (at + k) 0 in
    let rest = number_at row at k in
    elim (dec_lt i (8 * k)) [
      | yes l ↦ byte_bit_below (8 * k) byte rest i l ∙ number_bit row at k i (fewer row at k bs) l
      | no g ↦
          let j = i - 8 * k in
          let there : 8 * k + j ≡ i = omega arith in
          let here : 8 * (at + k) + j ≡ 8 * at + i = omega arith in
          ap (byte_bit (byte * 2 ^ (8 * k) + rest)) (sym there)
          ∙ byte_bit-above (8 * k) byte rest j (number_lt row at k (fewer row at k bs))
          ∙ sym (bit_at row (at + k) j (omega arith))
          ∙ ap (bit row) here
    ]

-- ---- its set bits

-- The counts of the k bytes from a place on, added up.
unfoldable pub ones_from : List ℕ → ℕ → ℕ → ℕ
ones_from row at zero = 0
ones_from row at (suc k) = ones_from row at k + ones (get_or row (at + k) 0)

-- The count of the number's set bits is the sum of its bytes' counts.
pub number_ones : (row : List ℕ) (at k : ℕ) → BytesFrom row at k → ones (number_at row at k) ≡ ones_from row at k
unfolding number_at ones_from ones
number_ones row at zero bs = refl
number_ones row at (suc k) bs =
    let byte = get_or row (at + k) 0 in
    ones_cat (8 * k) byte (number_at row at k) (number_lt row at k (fewer row at k bs))
    ∙ add_comm (ones byte) (ones (number_at row at k))
    ∙ ap (λ (n : ℕ). n + ones byte) (number_ones row at k (fewer row at k bs))

-- The row's set bits below a place, k bytes further on.
count_bytes : (row : List ℕ) (at k : ℕ) → BytesFrom row at k → count_below (bit row) (8 * (at + k)) ≡ count_below (bit row) (8 * at) + ones_from row at k
unfolding ones_from
count_bytes row at zero bs =
    ap (λ (i : ℕ). count_below (bit row) (8 * i)) (add-zero at) ∙ sym (add-zero (count_below (bit row) (8 * at)))
count_bytes row at (suc k) bs =
    let one_on : 8 * (at + suc k) ≡ 8 * (at + k + 1) = omega arith in
    ap (count_below (bit row)) one_on
    ∙ count_byte row (at + k) (bs k (omega arith))
    ∙ ap (λ (n : ℕ). n + ones (get_or row (at + k) 0)) (count_bytes row at k (fewer row at k bs))
    ∙ add_assoc (count_below (bit row) (8 * at)) (ones_from row at k) (ones (get_or row (at + k) 0))

pub count_number : (row : List ℕ) (at k : ℕ) → BytesFrom row at k → count_below (bit row) (8 * (at + k)) ≡ count_below (bit row) (8 * at) + ones (number_at row at k)
count_number row at k bs = count_bytes row at k bs ∙ ap (λ (n : ℕ). count_below (bit row) (8 * at) + n) (sym (number_ones row at k bs))
