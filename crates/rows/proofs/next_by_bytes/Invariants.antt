-- `rows::next_by_bytes` meets its contract: a search from the given bit on goes on from the bit reached.
use mathlib.Core.Path.{◌≡◌}
use Prim.Native.Nat.{◌-◌, ◌/◌}
use lib.ListN.{length}
use Rattle.rows.specs.Next.{next_bit}
use Rattle.rows.proofs.next_by_bytes.Given as goal

abbrev pub invariant-loop-i : goal.invariant-loop-i
invariant-loop-i l = next_bit l.row l.from ≡ next_bit l.row l.i

abbrev pub decreases-loop-i : goal.decreases-loop-i
decreases-loop-i l = length l.row - l.i / 8
