-- `roles::close_roles` meets its contract. The loop's invariant: the square marks reach with only roles below k between.
use Rattle.structure.specs.Square.{MarksExactly}
use Rattle.structure.proofs.Reachability.{Via}
use Rattle.structure.proofs.roles.close_roles.Given as goal

abbrev pub invariant-loop-k : goal.invariant-loop-k
invariant-loop-k l = MarksExactly (Via l.b l.k) l.square
