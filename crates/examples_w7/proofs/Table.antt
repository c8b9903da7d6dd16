-- W7, one theorem.
use Rattle.examples_w7.proofs.Calls.{w7_withdraw, move7_call}
use Rattle.examples_w7.proofs.W7.{w7_classified, w7_fresh, w7_rows, w7_classify, w7_change, w7-left}
use Rattle.examples_w7.proofs.Move.{move7_change, move7_left}
use Rattle.examples_w7.specs.Table.{Table}

pub table : Table
table = record {
  W7 = w7_classified;
  W7_change = w7_change;
  W7_withdraw = w7_withdraw;
  W7_left = w7-left;
  W7_classify = w7_classify;
  W7_rows = w7_rows;
  W7_fresh = w7_fresh;
  W7_move = move7_change;
  W7_move_call = move7_call;
  W7_move_left = move7_left;
}
