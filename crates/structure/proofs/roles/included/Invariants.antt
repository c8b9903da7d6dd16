-- `roles::included` meets its contract. The loop's invariant: the square marks the first k inclusions.
use Rattle.structure.specs.Square.{Included, Sized, MarksExactly}
use Rattle.structure.proofs.roles.included.Given as goal

abbrev pub invariant-loop-k : goal.invariant-loop-k
invariant-loop-k l = Sized l.square × MarksExactly (Included l.b l.k) l.square
