-- `layout::work_used` meets its contract.
use Rattle.layout.specs.Parts.{work_used}
use Rattle.layout.proofs.work_used.Goals as goal

pub returns : goal.returns
unfolding work_used
returns c = c.groups_long.ensures
