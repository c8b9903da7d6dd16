-- A list of k bytes with no bit set.
use Rattle.std.specs.Prelude.{ℕ, ◌≡◌, false, List, length}
use Rattle.rows.specs.Bits.{bit}

pub record Zero (k : ℕ) (l : List ℕ) : Type 0 where
  pub long : length l ≡ k
  pub clear : (i : ℕ) → bit l i ≡ false
