-- `answers::enter_classified` meets its contract.
use mathlib.Core.Path.{sym, ap, ◌∙◌}
use Rattle.std.proofs.Common.{Result}
use Rattle.catalogue.specs.declared.checks.Refusal.{Refusal}
use Rattle.classification.specs.declared.Classified.{Classified}
use Rattle.demands.specs.Sequences.{classified}
use Rattle.call_lists.specs.Running.{entries_of}
use Rattle.call_lists.proofs.answers.enter_classified.Goals as goal

pub returns-in-Ok : goal.returns-in-Ok
unfolding entries_of
returns-in-Ok c =
    c.enter.ensures ∙ sym (ap (λ (a : Result Classified Refusal). entries_of (classified a)) c.in-Ok.is)

pub returns-in-Err : goal.returns-in-Err
unfolding entries_of
returns-in-Err c =
    c.enter-in-Err.ensures ∙ sym (ap (λ (a : Result Classified Refusal). entries_of (classified a)) c.in-Err.is)
