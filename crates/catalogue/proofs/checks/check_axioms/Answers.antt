-- `check_axioms` puts 8 and 9 in order: at each return the ones before it are answered yes.
use borrow.Author.Rules.{rules}
use mathlib.Core.Path.{sym, ◌∙◌}
use Rattle.catalogue.specs.Questions.{ask_all}
use Rattle.catalogue.specs.Checks.{sides_right, rising_right, axiom_questions}
use Rattle.catalogue.proofs.Outcomes.{each_yes, each_no}
use Rattle.catalogue.proofs.checks.check_axioms.Goals as goal

pub returns-then-side-a : goal.returns-then-side-a
unfolding ask_all axiom_questions
returns-then-side-a c = sym (each_no _ 8 _ c.axioms-a.ensures (c.first_fault-side.ensures (sides_right c.args.b.now) (search rules)) c.if-side-a.true)

pub returns-then-order-a : goal.returns-then-order-a
unfolding ask_all axiom_questions
returns-then-order-a c =
    let n = c.axioms-a.ensures in
    sym (each_yes _ 8 _ n (c.first_fault-side.ensures (sides_right c.args.b.now) (search rules)) c.if-side-a.false ∙ each_no _ 9 _ n (c.first_fault-order.ensures (rising_right c.args.b.now) (search rules)) c.if-order-a.true)

pub returns : goal.returns
unfolding ask_all axiom_questions
returns c =
    let n = c.axioms-a.ensures in
    sym (each_yes _ 8 _ n (c.first_fault-side.ensures (sides_right c.args.b.now) (search rules)) c.if-side-a.false ∙ each_yes _ 9 _ n (c.first_fault-order.ensures (rising_right c.args.b.now) (search rules)) c.if-order-a.false)
