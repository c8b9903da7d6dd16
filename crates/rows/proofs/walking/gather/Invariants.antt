-- `walking::gather` meets its contract: at each turn the rows of the marked numbers passed are added.
use Prim.Native.Nat.{◌≤◌}
use lib.ListN.{length}
use Rattle.rows.specs.Walks.{row_bit}
use Rattle.rows.proofs.Walks.{Walked}
use Rattle.rows.proofs.walking.gather.Given as goal

abbrev pub invariant-loop-c : goal.invariant-loop-c
invariant-loop-c l = Walked l.walk l.n (row_bit l.rows l.first l.step l.w) l.c-iterator l.initial.out l.out
