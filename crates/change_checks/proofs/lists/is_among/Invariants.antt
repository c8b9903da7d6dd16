-- `lists::is_among`: none of those passed so far is the axiom.
use Prim.Native.Nat.{ℕ, ◌<◌}
use mathlib.Core.Path.{◌≡◌}
use mathlib.Core.Bool.{Bool, false, ◌&&◌}
use mathlib.Core.List.{List, ◌++◌}
use lib.Dec.{eqb}
use Rattle.change_contract.specs.Lists.{left_in, right_in}
use Rattle.change_checks.proofs.lists.is_among.Given as goal

abbrev pub is_at : List ℕ → (l r j : ℕ) → Bool
is_at list l r j = eqb (left_in list j) l && eqb (right_in list j) r

abbrev pub invariant-loop-j : goal.invariant-loop-j
invariant-loop-j l = (i : ℕ) → i < l.j → is_at (l.first ++ l.second) l.l l.r i ≡ false
