-- `sides_right` is question 8 of one axiom.
use Rattle.catalogue.specs.Checks.{sides_right}
use Rattle.catalogue.proofs.checks.sides_right.Goals as goal

pub returns : goal.returns
unfolding sides_right
returns c = simp (c.at-c.ensures.left_is, c.at-c.ensures.right_is, c.concepts-n.ensures)
