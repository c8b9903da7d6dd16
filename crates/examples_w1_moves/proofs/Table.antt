-- The moves of W1, one theorem.
use Rattle.catalogue.specs.Examples.{w1}
use Rattle.examples_w1_w6.specs.Table.{axioms1}
use Rattle.examples_common.proofs.Editing.{empty_keeps}
use Rattle.examples_w1_moves.proofs.Calls.{move1_call, move2_call, move3_call, move4_call, empty_axioms, empty_call, asked22, asked23, asked15, asked18, asked16}
use Rattle.examples_w1_moves.proofs.Moves.{move1_change, move1_left, move2_change, move2_left, move3_change, move3_left, move4_change, move4_left, empty_change}
use Rattle.examples_w1_moves.specs.Table.{Table}

pub table : Table
table = record {
  W1_move1 = move1_change;
  W1_move1_call = move1_call;
  W1_move1_left = move1_left;
  W1_move2 = move2_change;
  W1_move2_call = move2_call;
  W1_move2_left = move2_left;
  W1_move3 = move3_change;
  W1_move3_call = move3_call;
  W1_move3_left = move3_left;
  W1_move4 = move4_change;
  W1_move4_call = move4_call;
  W1_move4_left = move4_left;
  W1_asked22 = asked22;
  W1_asked23 = asked23;
  W1_asked15 = asked15;
  W1_asked18 = asked18;
  W1_asked16 = asked16;
  W1_empty = empty_change;
  W1_empty_axioms = empty_axioms;
  W1_empty_call = empty_call;
  W1_empty_store = empty_keeps w1 axioms1;
}
