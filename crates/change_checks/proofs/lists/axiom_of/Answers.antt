-- `lists::axiom_of` reads axiom k of the first list, or of the second.
use Prim.Native.Nat.{◌+◌, ◌-◌}
use native.Mathlib.Omega.{arith}
use mathlib.Core.Path.{◌≡◌, sym, ap, ◌∙◌}
use mathlib.Core.List.{◌++◌}
use Rattle.change_contract.specs.Lists.{axioms_in, left_in, right_in}
use Rattle.change_contract.proofs.Lists.{axioms_together, left-first, right-first, left-second, right-second}
use Rattle.change_checks.proofs.lists.axiom_of.Goals as goal

pub returns-then-k-count : goal.returns-then-k-count
unfolding axioms_in
returns-then-k-count c =
    let first = c.args.first.now in
    let second = c.args.second.now in
    record {
      left_is = c.axiom_at.ensures.left_is ∙ sym (left-first first second c.requires.0.whole c.args.k (omega (arith, c.if-k-count.true)));
      right_is = c.axiom_at.ensures.right_is ∙ sym (right-first first second c.requires.0.whole c.args.k (omega (arith, c.if-k-count.true)));
    }

pub axiom_at-requires-2 : goal.axiom_at-requires-2
unfolding axioms_in
axiom_at-requires-2 c =
    omega (arith, c.requires.0.whole, c.requires.1.whole, c.requires.2, axioms_together c.args.first.now c.args.second.now c.requires.0.whole, c.if-k-count.false)

pub returns : goal.returns
unfolding axioms_in
returns c =
    let first = c.args.first.now in
    let second = c.args.second.now in
    let at : axioms_in first + (c.args.k - axioms_in first) ≡ c.args.k = omega (arith, c.if-k-count.false) in
    record {
      left_is = c.axiom_at-2.ensures.left_is ∙ sym (left-second first second c.requires.0.whole (c.args.k - axioms_in first)) ∙ ap (left_in (first ++ second)) at;
      right_is = c.axiom_at-2.ensures.right_is ∙ sym (right-second first second c.requires.0.whole (c.args.k - axioms_in first)) ∙ ap (right_in (first ++ second)) at;
    }
