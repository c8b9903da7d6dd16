-- `faults::any_absent`: the test reads the axiom that stands there.
use Prim.Native.Nat.{ℕ}
use borrow.Author.Rules.{rules}
use mathlib.Core.Path.{◌≡◌, ap₂, ◌∙◌}
use mathlib.Core.Bool.{not, ◌&&◌}
use mathlib.Core.List.{◌++◌}
use lib.Dec.{ltb}
use Rattle.layout.specs.Parts.{in_force}
use Rattle.change_checks.specs.Reading.{is_absent}
use Rattle.change_checks.proofs.faults.any_absent.Goals as goal

pub returns : goal.returns
unfolding is_absent
returns c =
    let list = c.args.first.now ++ c.args.second.now in
    let F = in_force c.args.b.now c.args.store.now in
    c.any_axiom.ensures (is_absent F list) (λ k a r l at p. (let e : r ≡ not (F a.left a.right) = search rules in e) ∙ ap₂ (λ (x y : ℕ). not (F x y)) at.left_is at.right_is)
