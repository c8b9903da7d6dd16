-- `compositions` reads its field of the header.
use Rattle.catalogue.specs.Header.{compositions}
use Rattle.catalogue.proofs.header.compositions.Goals as goal

pub returns : goal.returns
unfolding compositions
returns c = c.word.ensures
