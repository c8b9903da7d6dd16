-- `faults::any_repeated`: the test reads the axiom that stands there.
use Prim.Native.Nat.{ℕ}
use borrow.Author.Rules.{rules}
use mathlib.Core.Path.{◌≡◌, ap₂, ◌∙◌}
use mathlib.Core.Bool.{not, ◌&&◌}
use mathlib.Core.List.{◌++◌}
use lib.Dec.{ltb}
use Rattle.layout.specs.Parts.{in_force}
use Rattle.change_contract.specs.Lists.{among}
use Rattle.change_contract.specs.Questions.{repeats}
use Rattle.change_checks.proofs.faults.any_repeated.Goals as goal

pub returns : goal.returns
unfolding repeats
returns c =
    let list = c.args.first.now ++ c.args.second.now in
    c.any_axiom.ensures (repeats list) (λ k a r l at p. (let e : r ≡ among list k a.left a.right = search rules in e) ∙ ap₂ (among list k) at.left_is at.right_is)
