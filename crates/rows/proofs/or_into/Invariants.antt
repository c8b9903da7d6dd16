-- `rows::or_into` meets its contract: each turn writes one byte of the joined row.
use Prim.Native.Nat.{◌-◌, ◌≤◌}
use lib.ListN.{length}
use Rattle.rows.specs.Bits.{or_row}
use Rattle.rows.proofs.Front.{Front}
use Rattle.rows.proofs.or_into.Given as goal

abbrev pub invariant-loop-i : goal.invariant-loop-i
invariant-loop-i l = (l.i ≤ length l.initial.row) × Front (or_row l.initial.row l.other) l.initial.row l.row l.i
