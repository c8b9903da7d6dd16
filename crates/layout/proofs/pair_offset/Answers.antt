-- `pair_offset` meets its contract.
use native.Mathlib.Omega.{arith}
use Rattle.layout.proofs.Offsets.{offset_limit}
use Rattle.layout.proofs.Sizes.{shape_concepts, shape_offset}
use Rattle.layout.proofs.pair_offset.Goals as goal

pub overflow_add-result : goal.overflow_add-result
overflow_add-result c = let p = c.requires in omega (arith, shape_concepts _ c.of-s.ensures, p.0.concepts_limit)

pub overflow_mul-result : goal.overflow_mul-result
overflow_mul-result c = let p = c.requires in omega (arith, shape_offset _ c.args.c c.of-s.ensures, offset_limit _ _ p.0 p.1)

pub returns : goal.returns
returns c = shape_offset _ _ c.of-s.ensures
