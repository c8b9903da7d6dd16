-- The worked table, one theorem.
use Rattle.examples_w1_w6.proofs.Table as w1-w6
use Rattle.examples_w1_moves.proofs.Table as w1-moves
use Rattle.examples_w7.proofs.Table as w7
use Rattle.examples_w8_w10.proofs.Table as w8-w10
use Rattle.examples_001.proofs.Table as document_001
use Rattle.worked_examples.specs.Table.{Worked}

pub worked : Worked
worked = record { W1_to_W6 = w1-w6.table; W1_moves = w1-moves.table; W7 = w7.table; W8_to_W10 = w8-w10.table; document_001 = document_001.table }
