-- `lookup` meets its contract.
use borrow.Author.Rules.{rules}
use mathlib.Core.Path.{sym, ap, ◌∙◌}
use mathlib.Core.List.{[], ◌∷◌}
use Rattle.catalogue.specs.Verdicts.{outcome_of}
use Rattle.read_checks.specs.Checks.{Named}
use Rattle.read_checks.proofs.Acceptance.{read_named, named_two}
use Rattle.lookups.proofs.pairs.lookup.Goals as goal

pub has_pair-requires : goal.has_pair-requires
has_pair-requires c =
    let a = c.args in
    let m : Named a.b.now (a.c ∷ a.d ∷ []) a.store.now = read_named _ _ _ (sym c.check_reading.ensures ∙ ap outcome_of c.in_ok-check_reading.was) in
    let (lc, ld) = named_two _ _ _ _ m in
    search rules
