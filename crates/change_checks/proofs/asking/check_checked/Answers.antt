-- `asking::check_checked` puts 10 to 12 and 22, and then the rest.
use native.Mathlib.Omega.{arith}
use mathlib.Core.Path.{sym, ap, ◌∙◌}
use lib.ListN.{length}
use Rattle.catalogue.specs.Outcome.{accepted}
use Rattle.catalogue.specs.Verdicts.{outcome_of}
use Rattle.store.proofs.Checks.{store_long}
use Rattle.change_contract.proofs.Asking.{rest_fit}
use Rattle.change_checks.proofs.Asked.{is_whole_lem}
use Rattle.change_checks.proofs.asking.check_checked.Goals as goal

pub check_content-requires : goal.check_content-requires
check_content-requires c =
    let fit =
    (rest_fit c.args.b.now (length c.args.withdrawn.now) (length c.args.added.now) _ accepted
    (sym c.check_lengths.ensures ∙ ap outcome_of c.in_ok-check_lengths.was)).0
    in
    (record { well_formed = c.requires; long = omega (arith, store_long c.args.b.now _ fit.store_fits) }, is_whole_lem c.args.withdrawn.now fit.withdrawn_whole, is_whole_lem c.args.added.now fit.added_whole)
