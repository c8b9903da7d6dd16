-- The worked table (document 01, Examples; document 02, Four; document 001, Examples 1, 3 and 4): catalogues, sets, counts, touched
-- concepts, and stores, about the definitions; and what classify, change, lookup, row, listing and write answer. Its parts stand in
-- specs/Table of the crates that they name.
use Rattle.examples_w1_w6.specs.Table as w1-w6
use Rattle.examples_w1_moves.specs.Table as w1-moves
use Rattle.examples_w7.specs.Table as w7
use Rattle.examples_w8_w10.specs.Table as w8-w10
use Rattle.examples_001.specs.Table as document_001

pub record Worked : Type 0 where
  -- W1: classify, row, listing, write. W2 and W4: lookups. W3, W5, W6: changes.
  pub W1_to_W6 : w1-w6.Table
  -- W1: changes with both lists, and with empty ones; what is asked of the lists.
  pub W1_moves : w1-moves.Table
  -- W7: two pairs that hold each other up, and a move.
  pub W7 : w7.Table
  -- W8: no axioms. W9: spare bits. W10: 4,096 axioms in force. 19 bytes, 512 and 513 concepts, a header at every limit.
  pub W8_to_W10 : w8-w10.Table
  -- Examples 1, 3 and 4.
  pub document_001 : document_001.Table
