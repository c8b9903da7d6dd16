-- `asking::check_all`: a catalogue that 1 to 9 accept is well-formed.
use mathlib.Core.Path.{sym, ap, ◌∙◌}
use Rattle.catalogue.specs.Verdicts.{outcome_of}
use Rattle.catalogue.proofs.Accepted.{accepted_well_formed}
use Rattle.change_checks.proofs.asking.check_all.Goals as goal

pub check_checked-requires : goal.check_checked-requires
check_checked-requires c = accepted_well_formed (sym c.check.ensures ∙ ap outcome_of c.in_ok-check.was)
