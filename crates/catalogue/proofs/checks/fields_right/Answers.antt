-- `fields_right` is question 6 of one concept: a case for each kind.
use native.Mathlib.Omega.{arith}
use mathlib.Core.Path.{sym, ◌∙◌}
use Rattle.catalogue.proofs.Tests.{fields_simple, fields_conjunction, fields_existential, fields_other}
use Rattle.catalogue.specs.Checks.{fields_right}
use Rattle.catalogue.proofs.checks.fields_right.Goals as goal

pub returns-in-2 : goal.returns-in-2
unfolding fields_right
returns-in-2 c =
    let r = c.at-c.ensures in
    simp (r.first_is, r.second_is) (sym (fields_conjunction _ _ _ (sym r.kind_is ∙ c.in-2.is)))

pub returns-in-3 : goal.returns-in-3
unfolding fields_right
returns-in-3 c =
    let r = c.at-c.ensures in
    simp (r.first_is, r.second_is, c.roles-m.ensures) (sym (fields_existential _ _ _ (sym r.kind_is ∙ c.in-3.is)))

pub returns-in-0 : goal.returns-in-0
unfolding fields_right
returns-in-0 c =
    let r = c.at-c.ensures in
    simp (r.first_is, r.second_is) (sym (fields_simple _ _ _ (omega arith)))

pub returns-in_default : goal.returns-in_default
unfolding fields_right
returns-in_default c =
    let r = c.at-c.ensures in
    sym (fields_other _ _ _ (omega arith))
