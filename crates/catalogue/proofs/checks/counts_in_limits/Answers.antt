-- `counts_in_limits` is question 3.
use Rattle.catalogue.specs.Checks.{counts_in_limits}
use Rattle.catalogue.proofs.checks.counts_in_limits.Goals as goal

pub returns : goal.returns
unfolding counts_in_limits
returns c =
    simp (c.concepts-n.ensures, c.roles-m.ensures, c.inclusions-h.ensures, c.compositions-k.ensures, c.axioms-a.ensures)
