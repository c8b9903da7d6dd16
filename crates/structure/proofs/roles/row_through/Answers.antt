-- `roles::row_through` meets its contract. The loop's invariant: the marks below s are those of the row with role k between.
use Prim.Native.Nat.{◌<◌}
use mathlib.Core.Path.{◌≡◌, refl, ◌∙◌}
use mathlib.Core.Bool.{false}
use lib.ListN.{length, length-set}
use Rattle.structure.specs.Square.{mark_through}
use Rattle.structure.proofs.Squares.{stored_more}
use Rattle.structure.proofs.roles.row_through.Goals as goal

pub loop-s-preserved : goal.loop-s-preserved
loop-s-preserved c =
    let l = c.loop-s in
    let a = c.args in
    let h : l.s < length l.row = rw l.invariant.0 c.loop-s-test.true in
    (length-set l.row l.s _ ∙ l.invariant.0, stored_more (λ x v. v ≡ mark_through a.k a.square a.r x) l.row false l.s _ h l.invariant.1 refl)
