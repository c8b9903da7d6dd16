-- `total` reads its field of the header.
use Rattle.catalogue.specs.Header.{total}
use Rattle.catalogue.proofs.header.total.Goals as goal

pub returns : goal.returns
unfolding total
returns c = c.word.ensures
