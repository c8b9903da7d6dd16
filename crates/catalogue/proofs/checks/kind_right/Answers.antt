-- `kind_right` is question 5 of one concept.
use Rattle.catalogue.specs.Checks.{kind_right}
use Rattle.catalogue.proofs.checks.kind_right.Goals as goal

pub returns : goal.returns
unfolding kind_right
returns c = simp c.at-c.ensures.kind_is
