-- `writing::write` meets its contract: questions 1 to 9, and then the others.
use mathlib.Core.Path.{sym, ap, ◌∙◌}
use Rattle.catalogue.specs.Verdicts.{outcome_of}
use Rattle.catalogue.proofs.Accepted.{accepted_well_formed}
use Rattle.writing.proofs.write.Goals as goal

pub write_checked-requires : goal.write_checked-requires
write_checked-requires c = accepted_well_formed (sym c.check.ensures ∙ ap outcome_of c.in_ok-check.was)
