-- `roles::close_roles` meets its contract. The loop's invariant: the square marks reach with only roles below k between.
use Prim.Native.Nat.{ℕ}
use native.Mathlib.Omega.{arith}
use mathlib.Core.Path.{◌≡◌, subst}
use Rattle.catalogue.specs.Header.{inclusions}
use Rattle.structure.specs.Square.{Included, MarksExactly}
use Rattle.structure.proofs.Squares.{exactly_same}
use Rattle.structure.proofs.Reachability.{Via, via_none, through_exact, via_closed}
use Rattle.structure.proofs.roles.close_roles.Goals as goal

pub loop-k-init : goal.loop-k-init
loop-k-init c =
    let b = c.args.b.now in
    exactly_same (Included b (inclusions b)) (Via b 0) c.included-square.result (λ r s _ _. via_none) c.included-square.ensures

pub loop-k-preserved : goal.loop-k-preserved
loop-k-preserved c =
    let l = c.loop-k in
    through_exact c.args.b.now l.k l.square c.through-next.result (omega arith) l.invariant c.through-next.ensures

pub returns : goal.returns
returns c =
    let l = c.loop-k in
    let e : l.k ≡ 16 = omega arith in
    via_closed c.requires (subst (λ (n : ℕ). MarksExactly (Via c.args.b.now n) l.square) e l.invariant)
