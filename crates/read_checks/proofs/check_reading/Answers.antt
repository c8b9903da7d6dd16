-- `check_reading` puts 1 to 10, and then the rest.
use mathlib.Core.Path.{sym, ap, ◌∙◌}
use Rattle.catalogue.specs.Verdicts.{outcome_of}
use Rattle.read_checks.proofs.Acceptance.{open_sized}
use Rattle.read_checks.proofs.check_reading.Goals as goal

pub check_content-requires : goal.check_content-requires
check_content-requires c = open_sized _ _ (sym c.check_opening.ensures ∙ ap outcome_of c.in_ok-check_opening.was)
