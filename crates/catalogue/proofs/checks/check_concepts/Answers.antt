-- `check_concepts` puts 5 and 6 in order: at each return the ones before it are answered yes.
use borrow.Author.Rules.{rules}
use mathlib.Core.Path.{sym, ◌∙◌}
use Rattle.catalogue.specs.Questions.{ask_all}
use Rattle.catalogue.specs.Checks.{kind_right, fields_right, concept_questions}
use Rattle.catalogue.proofs.Outcomes.{each_yes, each_no}
use Rattle.catalogue.proofs.checks.check_concepts.Goals as goal

pub returns-then-kind-n : goal.returns-then-kind-n
unfolding ask_all concept_questions
returns-then-kind-n c = sym (each_no _ 5 _ c.concepts-n.ensures (c.first_fault-kind.ensures (kind_right c.args.b.now) (search rules)) c.if-kind-n.true)

pub returns-then-fields-n : goal.returns-then-fields-n
unfolding ask_all concept_questions
returns-then-fields-n c =
    let n = c.concepts-n.ensures in
    sym (each_yes _ 5 _ n (c.first_fault-kind.ensures (kind_right c.args.b.now) (search rules)) c.if-kind-n.false ∙ each_no _ 6 _ n (c.first_fault-fields.ensures (fields_right c.args.b.now) (search rules)) c.if-fields-n.true)

pub returns : goal.returns
unfolding ask_all concept_questions
returns c =
    let n = c.concepts-n.ensures in
    sym (each_yes _ 5 _ n (c.first_fault-kind.ensures (kind_right c.args.b.now) (search rules)) c.if-kind-n.false ∙ each_yes _ 6 _ n (c.first_fault-fields.ensures (fields_right c.args.b.now) (search rules)) c.if-fields-n.false)
