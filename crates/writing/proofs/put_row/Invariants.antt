-- `writing::put_row` meets its contract: before each turn the records of the right sides passed are written.
use Rattle.writing.proofs.Recording.{RowState}
use Rattle.writing.proofs.put_row.Given as goal

abbrev pub invariant-loop-right : goal.invariant-loop-right
invariant-loop-right l = RowState l.row l.n l.left l.initial.out l.start l.out l.at l.right-iterator
