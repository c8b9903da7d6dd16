-- `compositions_at` reads its field of the header.
use Rattle.catalogue.specs.Header.{compositions_at}
use Rattle.catalogue.proofs.header.compositions_at.Goals as goal

pub returns : goal.returns
unfolding compositions_at
returns c = c.word.ensures
