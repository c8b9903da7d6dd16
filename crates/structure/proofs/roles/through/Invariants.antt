-- `roles::through` meets its contract. The loop's invariant: the rows below r have role k between.
use Prim.Native.Nat.{ℕ, ◌<◌}
use mathlib.Core.Path.{◌≡◌}
use lib.ListN.{length}
use Rattle.structure.specs.Square.{mark, mark_through}
use Rattle.structure.proofs.roles.through.Given as goal

abbrev pub invariant-loop-r : goal.invariant-loop-r
invariant-loop-r l = (length l.next ≡ 16) × ((x : ℕ) → x < l.r → (s : ℕ) → s < 16 → mark l.next x s ≡ mark_through l.k l.square x s)
