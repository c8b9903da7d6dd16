-- `store::mark_occurring` meets its contract: the axiom rows are a table, and their axioms are between concepts, since no spare bit is set.
use Prim.Native.Nat.{ℕ}
use native.Mathlib.Omega.{arith}
use mathlib.Core.Path.{◌≡◌, sym, ap, subst, ◌∙◌}
use mathlib.Core.List.{List}
use lib.ListN.{length}
use Rattle.rules.specs.Occurrence.{occurs}
use Rattle.layout.specs.Layout.{shape_of, table}
use Rattle.occurrence.specs.Marking.{InTable}
use Rattle.layout.specs.Parts.{width, axiom_rows, in_force, Clear}
use Rattle.layout.proofs.StoreSizes.{table_long, width_fits}
use Rattle.layout.proofs.Sizes.{shape_sizes}
use Rattle.layout.proofs.StoreRows.{rows_taken, rows_long, taken_long, in_force_range}
use Rattle.store.proofs.mark_occurring.Goals as goal

in_table : (b store row : List ℕ) → Clear b store → length row ≡ width b → InTable b (axiom_rows b store) row
unfolding in_force shape_of width
in_table b store row h long =
    record {
      well_formed = h.sized.well_formed;
      rows = record { axioms_long = rows_long b store h.sized.long ∙ sym (table_long b); row_long = long; room = (width_fits b).0 };
      range = in_force_range b store h.spare;
    }

pub overflow_mul-end : goal.overflow_mul-end
overflow_mul-end c = omega (arith, (shape_sizes c.requires.0.sized.well_formed c.of-s.ensures).table_limit)

pub slice_bounds-occurs-end : goal.slice_bounds-occurs-end
slice_bounds-occurs-end c =
    taken_long c.args.b.now c.args.store.now c.of-s.ensures c.requires.0.sized.long

pub occurs-requires : goal.occurs-requires
occurs-requires c =
    let b = c.args.b.now in
    let store = c.args.store.now in
    subst (λ (axioms : List ℕ). InTable b axioms c.args.row.now) (sym (rows_taken b store c.of-s.ensures))
    (in_table b store c.args.row.now c.requires.0 c.requires.1)

pub returns : goal.returns
unfolding in_force
returns c =
    let b = c.args.b.now in
    let store = c.args.store.now in
    λ i. c.occurs.ensures i ∙ ap (λ (axioms : List ℕ). occurs b (table (shape_of b) axioms) i) (rows_taken b store c.of-s.ensures)
