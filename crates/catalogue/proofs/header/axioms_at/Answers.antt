-- `axioms_at` reads its field of the header.
use Rattle.catalogue.specs.Header.{axioms_at}
use Rattle.catalogue.proofs.header.axioms_at.Goals as goal

pub returns : goal.returns
unfolding axioms_at
returns c = c.word.ensures
