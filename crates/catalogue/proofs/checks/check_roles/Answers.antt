-- `check_roles` puts 7 to the inclusions, and then to the compositions.
use borrow.Author.Rules.{rules}
use mathlib.Core.Path.{sym, ◌∙◌}
use Rattle.catalogue.specs.Questions.{ask_all}
use Rattle.catalogue.specs.Checks.{inclusion_right, composition_right, role_questions}
use Rattle.catalogue.proofs.Outcomes.{each_yes, each_no}
use Rattle.catalogue.proofs.checks.check_roles.Goals as goal

pub returns-then-inclusion-h : goal.returns-then-inclusion-h
unfolding ask_all role_questions
returns-then-inclusion-h c = sym (each_no _ 7 _ c.inclusions-h.ensures (c.first_fault-inclusion.ensures (inclusion_right c.args.b.now) (search rules)) c.if-inclusion-h.true)

pub returns-then-composition-k : goal.returns-then-composition-k
unfolding ask_all role_questions
returns-then-composition-k c =
    sym (each_yes _ 7 _ c.inclusions-h.ensures (c.first_fault-inclusion.ensures (inclusion_right c.args.b.now) (search rules)) c.if-inclusion-h.false
    ∙ each_no _ 7 _ c.compositions-k.ensures (c.first_fault-composition.ensures (composition_right c.args.b.now) (search rules)) c.if-composition-k.true)

pub returns : goal.returns
unfolding ask_all role_questions
returns c =
    sym (each_yes _ 7 _ c.inclusions-h.ensures (c.first_fault-inclusion.ensures (inclusion_right c.args.b.now) (search rules)) c.if-inclusion-h.false
    ∙ each_yes _ 7 _ c.compositions-k.ensures (c.first_fault-composition.ensures (composition_right c.args.b.now) (search rules)) c.if-composition-k.false)
