-- `calls::classify` meets its contract: refused by 1 to 9, or asked on.
use mathlib.Core.Path.{sym, ap, ◌∙◌, subst}
use lib.ListN.{length}
use Rattle.std.proofs.Common.{Result}
use Rattle.catalogue.specs.declared.checks.Refusal.{Refusal}
use Rattle.catalogue.specs.Verdicts.{outcome_of}
use Rattle.catalogue.proofs.HandedOn.{handed_on}
use Rattle.classification.specs.declared.Classified.{Classified}
use Rattle.classification.specs.Classified.{Classifies}
use Rattle.classification.proofs.Checks.{refused_catalogue}
use Rattle.classification.proofs.Answers.{ends_refused}
use Rattle.classification.proofs.calls.classify.Goals as goal

pub returns-in_err-check : goal.returns-in_err-check
returns-in_err-check c =
    let q = c.args in
    let e = c.in_err-check in
    subst (λ (a : Result Classified Refusal). Classifies q.b.now q.store.now q.work.now a q.store.now q.work.now)
    (sym (handed_on _ _ c.from_residual.ensures.1))
    (ends_refused q.b.now q.store.now q.work.now e.field-0.0.number e.field-0.0.at
    (refused_catalogue q.b.now (length q.store.now) (length q.work.now) (sym c.check.ensures ∙ ap outcome_of e.was)))
