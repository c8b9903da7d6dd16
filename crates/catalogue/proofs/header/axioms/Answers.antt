-- `axioms` reads its field of the header.
use Rattle.catalogue.specs.Header.{axioms}
use Rattle.catalogue.proofs.header.axioms.Goals as goal

pub returns : goal.returns
unfolding axioms
returns c = c.word.ensures
