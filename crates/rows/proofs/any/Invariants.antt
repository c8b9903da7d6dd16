-- `rows::any` meets its contract: where none is found every byte passed is 0, and where one is found a bit is set.
use mathlib.Core.Path.{◌≡◌}
use mathlib.Core.Bool.{true, false}
use Rattle.rows.specs.Bits.{any_bit}
use Prim.Native.Nat.{ℕ, ◌-◌, ◌≤◌, ◌<◌}
use lib.ListN.{length, get_or}
use Rattle.rows.proofs.any.Given as goal

abbrev pub invariant-loop-byte : goal.invariant-loop-byte
invariant-loop-byte l = (l.byte-index ≤ length l.row) × (l.found ≡ false → (k : ℕ) → k < l.byte-index → get_or l.row k 0 ≡ 0) × (l.found ≡ true → any_bit l.row ≡ true)
