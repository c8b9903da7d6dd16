-- `rows::count_by_bytes` meets its contract: what is counted below the given byte and the total make the count of the bytes passed.
use mathlib.Core.Path.{◌≡◌}
use Prim.Native.Nat.{◌+◌, ◌-◌, ◌*◌, ◌≤◌}
use lib.ListN.{length}
use Rattle.rows.specs.Bits.{bit, count_below}
use Rattle.rows.proofs.count_by_bytes.Given as goal

abbrev pub invariant-loop-k : goal.invariant-loop-k
invariant-loop-k l = (l.k ≤ length l.row) × (count_below (bit l.row) (8 * l.from) + l.total ≡ count_below (bit l.row) (8 * l.k))
