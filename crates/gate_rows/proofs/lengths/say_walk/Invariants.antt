-- `lengths::say_walk` meets its contract: no more bits are found than numbers passed.
use Rattle.std.proofs.Common.{◌*◌, ◌^◌, ◌≤◌, ◌<◌, ◌≡◌, length}
use Rattle.gate_rows.proofs.lengths.say_walk.Given as goal

abbrev pub invariant-loop-i : goal.invariant-loop-i
invariant-loop-i g l = record {
  row : l.i-iterator.row.now ≡ l.row;
  end : l.i-iterator.end ≡ 8 * length l.row;
  within : l.i-iterator.from ≤ 8 * length l.row;
  found : l.found ≤ l.i-iterator.from;
  sum : l.sum < 2 ^ 32;
}
