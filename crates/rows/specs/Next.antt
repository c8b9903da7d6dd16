-- The lowest set bit of a row from a given one on.
use Rattle.std.specs.Prelude.{ℕ, zero, suc, ◌*◌, ◌-◌, ◌≤◌, ◌<◌, ◌≡◌, Bool, true, false, List, length}
use Rattle.rows.specs.Bits.{bit}
use Rattle.std.specs.Prelude.{Option, Some, None}

-- The lowest of the k numbers from i on that passes a test, if one does.
unfoldable pub lowest : (ℕ → Bool) → ℕ → ℕ → Option ℕ
lowest test i zero = None
lowest test i (suc k) = elim (test i) [ true ↦ Some i | false ↦ lowest test (suc i) k ]

-- The lowest set bit of a row from bit i on, i itself included.
unfoldable pub next_bit : List ℕ → ℕ → Option ℕ
next_bit row i = lowest (bit row) i (8 * length row - i)

-- r is the lowest set bit from a given one on that is below n, or n where there is none.
pub record NextBelow (row : List ℕ) (n from r : ℕ) : Type 0 where
  pub within : r ≤ n
  pub on : from ≤ n → from ≤ r
  pub is_set : r < n → bit row r ≡ true
  pub none_between : (a : ℕ) → from ≤ a → a < r → bit row a ≡ false
