-- `rows::next` meets its contract: a search from the given bit on goes on from the word reached.
use mathlib.Core.Path.{◌≡◌}
use Prim.Native.Nat.{◌-◌, ◌*◌, ◌/◌, ◌^◌, ◌<◌}
use lib.ListN.{length}
use Rattle.rows.specs.Next.{next_bit}
use Rattle.rows.proofs.next.Given as goal

abbrev pub invariant-loop-i : goal.invariant-loop-i
invariant-loop-i l = (l.i < 2 ^ 64) × (next_bit l.row l.from ≡ next_bit l.row l.i)

abbrev pub decreases-loop-i : goal.decreases-loop-i
decreases-loop-i l = length l.row - l.i / 64 * 8
