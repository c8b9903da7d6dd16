-- `total_right` is question 2.
use Rattle.catalogue.specs.Checks.{total_right}
use Rattle.catalogue.proofs.checks.total_right.Goals as goal

pub returns : goal.returns
unfolding total_right
returns c = simp c.total.ensures
