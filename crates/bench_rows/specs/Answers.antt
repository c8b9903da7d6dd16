-- What the exported functions on rows answer.
use Rattle.std.specs.Prelude.{ℕ, ◌*◌, ◌≤◌, ◌<◌, ◌≡◌, Option, Some, None}

-- The place of the bit found; where none is, the end of a row of so many bytes.
abbrev pub place_of : Option ℕ → ℕ → ℕ
place_of (Some i) bytes = i
place_of None bytes = 8 * bytes

-- r is the answer for a row of so many bytes, or 2 ^ 64 - 1 where the row is longer than 1,048,576 bytes.
pub record Answers (bytes answer r : ℕ) : Type 0 where
  pub given : bytes ≤ 1048576 → r ≡ answer
  pub too_long : 1048576 < bytes → r ≡ 18446744073709551615
