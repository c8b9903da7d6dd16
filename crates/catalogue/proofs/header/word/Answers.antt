-- `word` reads two bytes, the second at one more.
use Rattle.catalogue.specs.Words.{word}
use Rattle.catalogue.proofs.header.word.Goals as goal

pub returns : goal.returns
unfolding word
returns c = c.number.ensures
