-- `bytewise::count` meets its contract: the total is the count of the bytes passed.
use mathlib.Core.Path.{◌≡◌}
use Prim.Native.Nat.{◌*◌}
use Rattle.rows.specs.Bits.{bit, count_below}
use Rattle.bytewise.proofs.count.Given as goal

abbrev pub invariant-loop-byte : goal.invariant-loop-byte
invariant-loop-byte l = l.total ≡ count_below (bit l.row) (8 * l.byte-index)
