-- `faults::any_axiom`: none of those passed so far is at fault.
use Prim.Native.Nat.{◌<◌}
use native.Mathlib.Omega.{arith}
use mathlib.Core.Path.{sym, ◌∙◌}
use mathlib.Core.List.{◌++◌}
use borrow.Author.Count.{below_more}
use Rattle.rows.proofs.Counting.{some_at, some_none}
use Rattle.change_contract.specs.Lists.{axioms_in}
use Rattle.change_checks.proofs.faults.any_axiom.Goals as goal

pub returns-then-at_fault : goal.returns-then-at_fault
returns-then-at_fault g c test p =
    let below : c.loop-k.k < axioms_in (c.args.first.now ++ c.args.second.now) = omega (arith, c.count-end.ensures, c.loop-k-test.true) in
    sym (some_at test (axioms_in (c.args.first.now ++ c.args.second.now)) c.loop-k.k below (sym (p _ _ _ below c.axiom_of.ensures c.at_fault.ensures) ∙ c.if-at_fault.true))

pub loop-k-preserved : goal.loop-k-preserved
loop-k-preserved g c test p =
    let below : c.loop-k.k < axioms_in (c.args.first.now ++ c.args.second.now) = omega (arith, c.count-end.ensures, c.loop-k-test.true) in
    below_more _ _ (c.loop-k.invariant test p) (sym (p _ _ _ below c.axiom_of.ensures c.at_fault.ensures) ∙ c.if-at_fault.false)

pub returns : goal.returns
returns g c test p =
    sym (some_none test (axioms_in (c.args.first.now ++ c.args.second.now)) (λ i l. c.loop-k.invariant test p i (omega (arith, c.count-end.ensures))))
