-- `faults::any_beyond`: the test reads the axiom that stands there.
use Prim.Native.Nat.{ℕ}
use borrow.Author.Rules.{rules}
use mathlib.Core.Path.{◌≡◌, ap₂, ◌∙◌}
use mathlib.Core.Bool.{not, ◌&&◌}
use mathlib.Core.List.{◌++◌}
use lib.Dec.{ltb}
use Rattle.layout.specs.Parts.{in_force}
use Rattle.change_checks.specs.Reading.{is_beyond}
use Rattle.change_checks.proofs.faults.any_beyond.Goals as goal

pub returns : goal.returns
unfolding is_beyond
returns c =
    let list = c.args.first.now ++ c.args.second.now in
    let n = c.args.n in
    c.any_axiom.ensures (is_beyond n list) (λ k a r l at p. (let e : r ≡ not (ltb a.left n && ltb a.right n) = search rules in e) ∙ ap₂ (λ (x y : ℕ). not (ltb x n && ltb y n)) at.left_is at.right_is)
