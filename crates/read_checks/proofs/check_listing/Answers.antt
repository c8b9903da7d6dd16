-- `check_listing` puts 12 between 1 to 10 and the rest.
use mathlib.Core.Path.{sym, ap, ◌∙◌}
use Rattle.catalogue.specs.Verdicts.{outcome_of}
use Rattle.read_checks.proofs.Acceptance.{open_sized, open_well_formed}
use Rattle.read_checks.proofs.check_listing.Goals as goal

pub list_fits-requires : goal.list_fits-requires
list_fits-requires c = open_well_formed _ _ (sym c.check_opening.ensures ∙ ap outcome_of c.in_ok-check_opening.was)

pub check_content-requires : goal.check_content-requires
check_content-requires c = open_sized _ _ (sym c.check_opening.ensures ∙ ap outcome_of c.in_ok-check_opening.was)
