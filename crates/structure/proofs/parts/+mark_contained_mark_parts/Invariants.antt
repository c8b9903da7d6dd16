-- Measures of `parts::mark_contained` and `parts::mark_parts`: a concept is marked and then its parts, which have smaller numbers.
use Prim.Native.Nat.{◌+◌}
use Rattle.structure.proofs.parts.+mark_contained_mark_parts.Given as goal

abbrev pub decreases-mark_contained : goal.decreases-mark_contained
decreases-mark_contained l = l.i + l.i + 1

abbrev pub decreases-mark_parts : goal.decreases-mark_parts
decreases-mark_parts l = l.i + l.i
