-- `roles::row_through` meets its contract. The loop's invariant: the marks below s are those of the row with role k between.
use Prim.Native.Nat.{ℕ, ◌<◌}
use mathlib.Core.Path.{◌≡◌}
use mathlib.Core.Bool.{false}
use lib.ListN.{length, get_or}
use Rattle.structure.specs.Square.{mark_through}
use Rattle.structure.proofs.roles.row_through.Given as goal

abbrev pub invariant-loop-s : goal.invariant-loop-s
invariant-loop-s l = (length l.row ≡ 16) × ((x : ℕ) → x < l.s → get_or l.row x false ≡ mark_through l.k l.square l.r x)
