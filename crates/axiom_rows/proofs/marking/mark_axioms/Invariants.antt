-- `marking::mark_axioms` meets its contract: after k steps the first k axioms are marked.
use mathlib.Core.Path.{◌≡◌}
use Rattle.layout.specs.Layout.{table}
use Rattle.axiom_rows.proofs.Marks.{with_first}
use Rattle.axiom_rows.proofs.marking.mark_axioms.Given as goal

abbrev pub invariant-loop-k : goal.invariant-loop-k
invariant-loop-k l = table l.s l.rows ≡ with_first l.mode (table l.s l.initial.rows) l.list l.k
