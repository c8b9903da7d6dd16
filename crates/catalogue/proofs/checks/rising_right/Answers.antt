-- `rising_right` is question 9 of one axiom.
use native.Mathlib.Omega.{arith}
use mathlib.Core.Path.{sym}
use Rattle.catalogue.proofs.Tests.{rising-first, rising_after}
use Rattle.catalogue.specs.Checks.{above}
use Rattle.catalogue.proofs.checks.rising_right.Goals as goal

pub returns-then-k-eq0 : goal.returns-then-k-eq0
returns-then-k-eq0 c = sym (rising-first _ _ c.if-k-eq0.true)

pub returns : goal.returns
unfolding above
returns c =
    let r = c.at-c.ensures in
    let s = c.at-d.ensures in
    simp (r.left_is, r.right_is, s.left_is, s.right_is) (sym (rising_after _ _ _ (omega arith)))
