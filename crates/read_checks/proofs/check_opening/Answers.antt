-- `check_opening` puts 1 to 9, and then 10.
use mathlib.Core.Path.{sym, ap, ◌∙◌}
use Rattle.catalogue.specs.Verdicts.{outcome_of}
use Rattle.catalogue.proofs.Accepted.{accepted_well_formed}
use Rattle.read_checks.proofs.check_opening.Goals as goal

pub store_fits-requires : goal.store_fits-requires
store_fits-requires c = accepted_well_formed (sym c.check.ensures ∙ ap outcome_of c.in_ok-check.was)
