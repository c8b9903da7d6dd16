-- `concepts` reads its field of the header.
use Rattle.catalogue.specs.Header.{concepts}
use Rattle.catalogue.proofs.header.concepts.Goals as goal

pub returns : goal.returns
unfolding concepts
returns c = c.word.ensures
