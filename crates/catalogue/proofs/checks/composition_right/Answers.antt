-- `composition_right` is question 7 of one composition.
use Rattle.catalogue.specs.Checks.{composition_right}
use Rattle.catalogue.proofs.checks.composition_right.Goals as goal

pub returns : goal.returns
unfolding composition_right
returns c =
    let r = c.at-c.ensures in
    simp (r.first_is, r.second_is, r.result_is, c.roles-m.ensures)
