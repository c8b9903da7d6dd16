-- `list_marked` meets its contract: at each turn the marked numbers passed stand in front.
use Rattle.number_lists.proofs.Filling.{Walked}
use Rattle.number_lists.proofs.list_marked.Given as goal

abbrev pub invariant-loop-c : goal.invariant-loop-c
invariant-loop-c l = Walked l.row l.n l.initial.list l.c-iterator l.count l.list
