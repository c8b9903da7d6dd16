-- `roles::reflexive` meets its contract. The loop's invariant: the roles below `role` are marked with themselves.
use Prim.Native.Nat.{◌<◌}
use native.Mathlib.Omega.{arith}
use mathlib.Core.Path.{◌≡◌}
use Rattle.structure.proofs.Squares.{blank_sized, blank_exact}
use Rattle.structure.proofs.roles.reflexive.Goals as goal

pub loop-role-init : goal.loop-role-init
loop-role-init c = (blank_sized, blank_exact (λ x y. (x ≡ y) × (x < 0)) (λ x y p. omega (arith, p.1)))
