-- `writing::put_table` meets its contract: before each turn the records of the left sides passed are written.
use Rattle.writing.proofs.Tabling.{TableState}
use Rattle.writing.proofs.put_table.Given as goal

abbrev pub invariant-loop-left : goal.invariant-loop-left
invariant-loop-left l = TableState l.rows l.n l.w l.initial.out l.start l.out l.at l.left
