-- `listing` meets its contract: refused, nothing is written.
use mathlib.Core.Path.{sym, ap, ◌∙◌}
use Rattle.catalogue.specs.Verdicts.{outcome_of}
use Rattle.read_checks.proofs.Acceptance.{list_named, named_one}
use Rattle.lookups.proofs.kinds.listing.Goals as goal

pub list_under-requires : goal.list_under-requires
list_under-requires c =
    let (m, long) = list_named _ _ _ _ (sym c.check_listing.ensures ∙ ap outcome_of c.in_ok-check_listing.was) in
    (m.clear.sized, named_one _ _ _ m, long)
