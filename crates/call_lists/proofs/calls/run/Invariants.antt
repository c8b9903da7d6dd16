-- `calls::run` meets its contract: one turn of the loop is one call more.
use Rattle.call_lists.specs.Running.{space, Runs}
use Rattle.call_lists.proofs.calls.run.Given as goal

abbrev pub invariant-loop-k : goal.invariant-loop-k
invariant-loop-k l =
    Runs l.b l.calls l.k (space l.initial.store l.initial.work l.initial.lists l.initial.answers) (space l.store l.work l.lists l.answers)
