-- `answers::enter_changed` meets its contract.
use mathlib.Core.Path.{sym, ap, ◌∙◌}
use Rattle.std.proofs.Common.{Result}
use Rattle.catalogue.specs.declared.checks.Refusal.{Refusal}
use Rattle.change_contract.specs.declared.Changed.{Changed}
use Rattle.demands.specs.Sequences.{changed}
use Rattle.call_lists.specs.Running.{entries_of}
use Rattle.call_lists.proofs.answers.enter_changed.Goals as goal

pub returns-in-Ok : goal.returns-in-Ok
unfolding entries_of
returns-in-Ok c =
    c.enter.ensures ∙ sym (ap (λ (a : Result Changed Refusal). entries_of (changed a)) c.in-Ok.is)

pub returns-in-Err : goal.returns-in-Err
unfolding entries_of
returns-in-Err c =
    c.enter-in-Err.ensures ∙ sym (ap (λ (a : Result Changed Refusal). entries_of (changed a)) c.in-Err.is)
