-- `roles` reads its field of the header.
use Rattle.catalogue.specs.Header.{roles}
use Rattle.catalogue.proofs.header.roles.Goals as goal

pub returns : goal.returns
unfolding roles
returns c = c.word.ensures
