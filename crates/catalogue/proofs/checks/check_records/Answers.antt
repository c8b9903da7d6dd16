-- `check_records` asks the three parts of the list one after the other.
use mathlib.Core.Path.{sym, ap, ◌∙◌}
use Rattle.catalogue.specs.Outcome.{accepted}
use Rattle.catalogue.specs.Verdicts.{outcome_of}
use Rattle.catalogue.specs.Checks.{concept_questions, role_questions, record_questions}
use Rattle.catalogue.proofs.Asked.{part_yes, part_no}
use Rattle.catalogue.proofs.HandedOn.{handed_on}
use Rattle.catalogue.proofs.checks.check_records.Goals as goal

pub returns-in_err-check_concepts : goal.returns-in_err-check_concepts
unfolding record_questions
returns-in_err-check_concepts c =
    ap outcome_of (handed_on _ _ c.from_residual.ensures.1)
    ∙ sym (part_no concept_questions _ _ accepted (sym c.check_concepts.ensures ∙ ap outcome_of c.in_err-check_concepts.was))

pub returns-in_err-check_roles : goal.returns-in_err-check_roles
unfolding record_questions
returns-in_err-check_roles c =
    ap outcome_of (handed_on _ _ c.from_residual-in_err-check_roles.ensures.1)
    ∙ sym (part_yes concept_questions _ _ accepted (sym c.check_concepts.ensures ∙ ap outcome_of c.in_ok-check_concepts.was)
    ∙ part_no role_questions _ _ accepted (sym c.check_roles.ensures ∙ ap outcome_of c.in_err-check_roles.was))

pub returns : goal.returns
unfolding record_questions
returns c =
    c.check_axioms.ensures
    ∙ sym (part_yes concept_questions _ _ accepted (sym c.check_concepts.ensures ∙ ap outcome_of c.in_ok-check_concepts.was)
    ∙ part_yes role_questions _ _ accepted (sym c.check_roles.ensures ∙ ap outcome_of c.in_ok-check_roles.was))
