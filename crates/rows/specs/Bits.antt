-- Bit rows: lists of bytes, bit i being bit i mod 8 of byte i div 8, bit 0 the lowest (document 01, Store).
use Rattle.std.specs.Prelude.{ℕ, zero, suc, ◌+◌, ◌-◌, ◌*◌, ◌/◌, ◌%◌, ◌^◌, ◌<◌, Bool, true, false, cond, ◌||◌, List, [], ◌∷◌, length, get_or, set, drop, eqb}
use Rattle.std.specs.Int.Bits.{bit_and, bit_or}

-- Bit k of a byte.
unfoldable pub byte_bit : ℕ → ℕ → Bool
byte_bit x k = eqb (x / 2 ^ k % 2) 1

-- Bit i of a row; a bit past its end is clear.
unfoldable pub bit : List ℕ → ℕ → Bool
bit row i = byte_bit (get_or row (i / 8) 0) (i % 8)

-- The row with bit i set, and with bit i cleared.
unfoldable pub set_bit : List ℕ → ℕ → List ℕ
set_bit row i = set row (i / 8) (bit_or (get_or row (i / 8) 0) (2 ^ (i % 8)))

unfoldable pub clear_bit : List ℕ → ℕ → List ℕ
clear_bit row i = set row (i / 8) (bit_and (get_or row (i / 8) 0) (255 - 2 ^ (i % 8)))

-- The row with bit i set where a test holds.
unfoldable pub set_if : Bool → List ℕ → ℕ → List ℕ
set_if true row i = set_bit row i
set_if false row i = row

-- Bit i of row r, in rows of w bytes.
unfoldable pub place : ℕ → ℕ → ℕ → ℕ
place w r i = 8 * (r * w) + i

-- Two rows byte by byte, as long as the first.
unfoldable pub zip_row : (ℕ → ℕ → ℕ) → List ℕ → List ℕ → List ℕ
zip_row f [] ys = []
zip_row f (x ∷ xs) ys = f x (get_or ys 0 0) ∷ zip_row f xs (drop 1 ys)

-- A byte without the bits of another.
unfoldable pub byte_minus : ℕ → ℕ → ℕ
byte_minus x y = bit_and x (255 - y)

-- The bits of either row; of both; of the first and not the second.
unfoldable pub or_row : List ℕ → List ℕ → List ℕ
or_row = zip_row bit_or

unfoldable pub and_row : List ℕ → List ℕ → List ℕ
and_row = zip_row bit_and

unfoldable pub minus_row : List ℕ → List ℕ → List ℕ
minus_row = zip_row byte_minus

-- Every element is a byte.
abbrev pub Bytes : List ℕ → Type 0
Bytes row = (i : ℕ) → get_or row i 0 < 256

-- How many of the numbers below k pass a test, and whether one does.
unfoldable pub count_below : (ℕ → Bool) → ℕ → ℕ
count_below test zero = 0
count_below test (suc k) = cond (test k) (suc (count_below test k)) (count_below test k)

unfoldable pub some_below : (ℕ → Bool) → ℕ → Bool
some_below test zero = false
some_below test (suc k) = test k || some_below test k

-- The number of set bits of a row, and whether any is set.
unfoldable pub count_bits : List ℕ → ℕ
count_bits row = count_below (bit row) (8 * length row)

unfoldable pub any_bit : List ℕ → Bool
any_bit row = some_below (bit row) (8 * length row)
