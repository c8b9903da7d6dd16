-- `put_row` meets its contract. The invariant: the lines of the concepts below d are written.
use Rattle.layout.specs.Parts.{held}
use Rattle.text.specs.Text.{Appended}
use Rattle.text.specs.Lines.{lines_below}
use Rattle.text.proofs.lines.put_row.Given as goal

abbrev pub invariant-loop-d : goal.invariant-loop-d
invariant-loop-d l = Appended (lines_below l.b (held l.b l.store) l.c l.d) l.initial.out l.at l.place l.out
