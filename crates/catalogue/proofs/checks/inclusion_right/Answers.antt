-- `inclusion_right` is question 7 of one inclusion.
use Rattle.catalogue.specs.Checks.{inclusion_right}
use Rattle.catalogue.proofs.checks.inclusion_right.Goals as goal

pub returns : goal.returns
unfolding inclusion_right
returns c = simp (c.at-c.ensures.within_is, c.at-c.ensures.around_is, c.roles-m.ensures)
