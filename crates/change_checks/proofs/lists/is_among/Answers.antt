-- `lists::is_among`: none of those passed so far is the axiom.
use Prim.Native.Nat.{ℕ}
use native.Mathlib.Omega.{arith}
use mathlib.Core.Path.{sym, ap₂, ◌∙◌}
use mathlib.Core.Bool.{◌&&◌}
use mathlib.Core.List.{◌++◌}
use lib.Dec.{eqb}
use borrow.Author.Count.{below_more}
use Rattle.rows.proofs.Counting.{some_at, some_none}
use Rattle.change_contract.specs.Lists.{among}
use Rattle.change_checks.proofs.lists.is_among.Invariants.{is_at}
use Rattle.change_checks.proofs.lists.is_among.Goals as goal

pub returns-then-a-l : goal.returns-then-a-l
unfolding among
returns-then-a-l c =
    let a = c.axiom_of-a in
    let list = c.args.first.now ++ c.args.second.now in
    sym
    (some_at (is_at list c.args.l c.args.r) c.args.k c.loop-j.j (omega (arith, c.loop-j-test.true))
    (ap₂ (λ (x y : ℕ). eqb x c.args.l && eqb y c.args.r) (sym a.ensures.left_is) (sym a.ensures.right_is) ∙ c.if-a-l.true))

pub loop-j-preserved : goal.loop-j-preserved
loop-j-preserved c =
    let a = c.axiom_of-a in
    below_more _ _ c.loop-j.invariant
    (ap₂ (λ (x y : ℕ). eqb x c.args.l && eqb y c.args.r) (sym a.ensures.left_is) (sym a.ensures.right_is) ∙ c.if-a-l.false)

pub returns : goal.returns
unfolding among
returns c =
    sym
    (some_none (is_at (c.args.first.now ++ c.args.second.now) c.args.l c.args.r) c.args.k
    (λ i l. c.loop-j.invariant i (omega arith)))
