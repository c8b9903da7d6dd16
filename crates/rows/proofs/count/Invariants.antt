-- `rows::count` meets its contract: the total is the count of the words passed, and what is left is counted byte by byte.
use mathlib.Core.Path.{◌≡◌}
use Prim.Native.Nat.{◌-◌, ◌*◌, ◌≤◌}
use lib.ListN.{length}
use Rattle.rows.specs.Bits.{bit, count_below}
use Rattle.rows.proofs.count.Given as goal

abbrev pub invariant-loop-k : goal.invariant-loop-k
invariant-loop-k l = l.total ≡ count_below (bit l.row) (8 * (8 * l.k))
