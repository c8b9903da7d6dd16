-- `first_fault`: every record passed so far is right, and the loop is left at the first that is not.
use Prim.Native.Nat.{◌≤◌, ◌<◌}
use native.Mathlib.Omega.{arith}
use mathlib.Core.Path.{refl, sym, ◌∙◌}
use borrow.Author.Count.{below_more}
use Rattle.catalogue.proofs.FirstFault.{first_is}
use Rattle.catalogue.proofs.checks.first_fault.Goals as goal
use Rattle.catalogue.proofs.checks.first_fault.Goals.{else-loop-k-test, then-loop-k-test+then-not-right}

pub loop-k-init : goal.loop-k-init
loop-k-init g c = record { none_yet = refl; passed = λ ok p j l. absurd (omega arith) }

pub loop-k-preserved : goal.loop-k-preserved
loop-k-preserved g c =
    record {
      none_yet = c.loop-k.invariant.none_yet;
      passed = λ ok p. below_more _ _ (c.loop-k.invariant.passed ok p) (sym (p _ _ c.loop-k-test.true c.right.ensures) ∙ c.if-not-right.false);
    }

pub returns : goal.returns
returns g c ok p =
    elim c.loop-k-test.branch [
      | else-loop-k-test w ↦ w.first-is ∙ c.loop-k.invariant.none_yet ∙ first_is
          (record {
            within = omega arith;
            passed = λ j l. c.loop-k.invariant.passed ok p j (let k : c.args.count ≤ c.loop-k.k = w.loop-k-test.false in omega arith);
            fails = λ l. absurd (omega arith);
          })
      | then-loop-k-test+then-not-right w ↦ w.first-is ∙ first_is
          (record {
            within = let k : c.loop-k.k < c.args.count = w.loop-k-test.true in omega arith;
            passed = c.loop-k.invariant.passed ok p;
            fails = λ l. sym (p _ _ w.loop-k-test.true w.right.ensures) ∙ w.if-not-right.true;
          })
    ]
