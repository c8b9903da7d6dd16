-- `inclusions` reads its field of the header.
use Rattle.catalogue.specs.Header.{inclusions}
use Rattle.catalogue.proofs.header.inclusions.Goals as goal

pub returns : goal.returns
unfolding inclusions
returns c = c.word.ensures
