-- `put_rows` meets its contract. The invariant: the lines of the pairs of the concepts below c are written.
use Rattle.layout.specs.Parts.{held}
use Rattle.text.specs.Text.{Appended}
use Rattle.text.specs.Lines.{rows_below}
use Rattle.text.proofs.lines.put_rows.Given as goal

abbrev pub invariant-loop-c : goal.invariant-loop-c
invariant-loop-c l = Appended (rows_below l.b (held l.b l.store) l.c) l.initial.out l.at l.place l.out
