-- `layout::used` meets its contract.
use Rattle.layout.specs.Parts.{used}
use Rattle.layout.proofs.used.Goals as goal

pub returns : goal.returns
unfolding used
returns c = c.groups_long.ensures
