-- `answers::enter` meets its contract: the six numbers are written from end to end.
use native.Mathlib.Omega.{arith}
use mathlib.Core.List.{[], ◌∷◌}
use lib.ListN.{length-set}
use Rattle.call_lists.proofs.Parts.{all_written}
use Rattle.call_lists.proofs.answers.enter.Goals as goal

pub bounds-entries-4 : goal.bounds-entries-4
bounds-entries-4 c = simp length-set (omega arith)

pub bounds-entries-5 : goal.bounds-entries-5
bounds-entries-5 c = simp length-set (omega arith)

pub returns : goal.returns
returns c = let a = c.args in all_written (a.number ∷ a.at ∷ a.p ∷ a.q ∷ a.r ∷ a.s ∷ []) a.entries.now c.requires
