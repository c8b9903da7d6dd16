-- `axiom_at` reads four bytes.
use borrow.Author.Rules.{rules}
use Rattle.change_contract.specs.Lists.{left_in, right_in}
use Rattle.change_contract.proofs.axiom_at.Goals as goal

pub returns : goal.returns
unfolding left_in right_in
returns c = search rules
