-- `concepts_at` reads its field of the header.
use Rattle.catalogue.specs.Header.{concepts_at}
use Rattle.catalogue.proofs.header.concepts_at.Goals as goal

pub returns : goal.returns
unfolding concepts_at
returns c = c.word.ensures
