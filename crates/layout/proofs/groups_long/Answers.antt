-- `layout::groups_long` meets its contract.
use Prim.Native.Nat.{◌+◌, ◌*◌, ◌≤◌}
use native.Mathlib.Nat.{mul-le-mul}
use native.Mathlib.Omega.{arith}
use mathlib.Core.Path.{ap}
use Rattle.layout.specs.declared.Shape.{Shape}
use Rattle.layout.specs.Layout.{shape_of}
use Rattle.layout.specs.Parts.{width}
use Rattle.layout.proofs.Sizes.{shape_sizes}
use Rattle.layout.proofs.groups_long.Goals as goal

pub overflow_mul-result : goal.overflow_mul-result
overflow_mul-result c = omega (arith, (shape_sizes c.requires.0 c.of-s.ensures).table_limit)

pub overflow_add-result : goal.overflow_add-result
overflow_add-result c = omega (arith, (shape_sizes c.requires.0 c.of-s.ensures).roles_limit)

pub overflow_mul-result-2 : goal.overflow_mul-result-2
overflow_mul-result-2 c =
    let p = c.requires in
    let s = c.of-s.result in
    let k = c.args.k in
    let small : s.roles + k ≤ 18 = omega (arith, (shape_sizes p.0 c.of-s.ensures).roles_limit) in
    omega (arith, mul-le-mul {n₂ = 32768} {m₂ = 18} (shape_sizes p.0 c.of-s.ensures).table_limit small)

pub returns : goal.returns
unfolding shape_of width
returns c = ap (λ (s : Shape). s.concepts * s.width * (s.roles + c.args.k)) c.of-s.ensures
