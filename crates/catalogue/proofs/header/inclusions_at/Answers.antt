-- `inclusions_at` reads its field of the header.
use Rattle.catalogue.specs.Header.{inclusions_at}
use Rattle.catalogue.proofs.header.inclusions_at.Goals as goal

pub returns : goal.returns
unfolding inclusions_at
returns c = c.word.ensures
