-- Several bytes of a row as one number.
use Rattle.std.specs.Prelude.{ℕ, zero, suc, ◌+◌, ◌*◌, ◌^◌, List, get_or}

-- The k bytes from a place on as one number, low byte first; a byte past the end is 0.
unfoldable pub number_at : List ℕ → ℕ → ℕ → ℕ
number_at row at zero = 0
number_at row at (suc k) = get_or row (at + k) 0 * 2 ^ (8 * k) + number_at row at k
