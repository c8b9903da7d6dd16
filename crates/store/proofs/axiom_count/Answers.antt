-- `store::axiom_count` meets its contract: the axiom rows are the first n rows.
use Prim.Native.Nat.{◌*◌}
use native.Mathlib.Omega.{arith}
use mathlib.Core.Path.{ap, ◌∙◌}
use lib.ListN.{length-take}
use Rattle.rows.specs.Bits.{count_bits}
use Rattle.layout.proofs.Sizes.{shape_sizes}
use Rattle.layout.proofs.StoreRows.{rows_taken, taken_long}
use Rattle.store.proofs.Counts.{axiom_count_lem}
use Rattle.store.proofs.axiom_count.Goals as goal

pub overflow_mul-end : goal.overflow_mul-end
overflow_mul-end c = omega (arith, (shape_sizes c.requires.sized.well_formed c.of-s.ensures).table_limit)

pub slice_bounds-count-end : goal.slice_bounds-count-end
slice_bounds-count-end c =
    taken_long c.args.b.now c.args.store.now c.of-s.ensures c.requires.sized.long

pub count-requires : goal.count-requires
count-requires c =
    let n = c.of-s.result.concepts * c.of-s.result.width in
    omega (arith, length-take n c.args.store.now, (shape_sizes c.requires.sized.well_formed c.of-s.ensures).table_limit)

pub returns : goal.returns
returns c =
    let b = c.args.b.now in
    let store = c.args.store.now in
    c.count.ensures ∙ ap count_bits (rows_taken b store c.of-s.ensures) ∙ axiom_count_lem b store c.requires.sized.long c.requires.spare
