-- `part_of` meets its contract: the part that the answer names, or the empty one.
use native.Mathlib.Omega.{arith}
use mathlib.Core.Path.{refl}
use Rattle.row_parts.proofs.Answered.{names_part, names_empty}
use Rattle.row_parts.proofs.part_of.Goals as goal

pub overflow_add-end : goal.overflow_add-end
overflow_add-end c = omega (arith, c.requires _ _ c.in-Ok.is, c.well_formed)

pub slice_bounds-result-end : goal.slice_bounds-result-end
slice_bounds-result-end c = c.requires _ _ c.in-Ok.is

pub returns-in-Ok : goal.returns-in-Ok
returns-in-Ok c = names_part _ _ _ _ _ c.in-Ok.is refl refl

pub returns-in-Err : goal.returns-in-Err
returns-in-Err c = names_empty _ _ _ _ _ c.in-Err.is refl
