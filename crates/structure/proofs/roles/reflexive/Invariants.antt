-- `roles::reflexive` meets its contract. The loop's invariant: the roles below `role` are marked with themselves.
use Prim.Native.Nat.{◌<◌}
use mathlib.Core.Path.{◌≡◌}
use Rattle.structure.specs.Square.{Sized, MarksExactly}
use Rattle.structure.proofs.roles.reflexive.Given as goal

abbrev pub invariant-loop-role : goal.invariant-loop-role
invariant-loop-role l = Sized l.square × MarksExactly (λ x y. (x ≡ y) × (x < l.role)) l.square
