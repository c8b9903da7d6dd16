-- `putting::put_axioms` meets its contract.
use Prim.Native.Nat.{◌≤◌}
use native.Mathlib.Omega.{arith}
use mathlib.Core.Path.{◌≡◌, refl, sym, ap, ◌∙◌}
use mathlib.Core.List.{◌++◌}
use lib.ListN.{length, take, drop}
use lib.Seq.{take_at}
use Rattle.rows.proofs.RowParts.{prefix_long, front_of}
use Rattle.axiom_rows.proofs.Cleared.{puts-axioms}
use Rattle.axiom_rows.proofs.putting.put_axioms.Goals as goal

pub slice_bounds-clear-end-2 : goal.slice_bounds-clear-end-2
slice_bounds-clear-end-2 c =
    prefix_long (length c.args.table.now) (length c.args.store.now) c.args.store.now refl (omega (arith, c.requires.1, c.requires.2))

pub slice_bounds-axiom_rows-end-2 : goal.slice_bounds-axiom_rows-end-2
slice_bounds-axiom_rows-end-2 c =
    let cleared = c.clear in
    let k = length c.args.table.now in
    let fits : k ≤ length c.args.store.now = omega (arith, c.requires.1, c.requires.2) in
    prefix_long k (length c.args.store.now) c.args.store.now refl fits
    ∙ sym cleared.auto.row
    ∙ sym (ap length (front_of k (length c.args.store.now) cleared.new.row c.args.store.now cleared.auto.row refl fits))

pub axiom_rows-requires : goal.axiom_rows-requires
axiom_rows-requires c =
    let cleared = c.clear in
    let k = length c.args.table.now in
    let fits : k ≤ length c.args.store.now = omega (arith, c.requires.1, c.requires.2) in (
      c.requires.0,
      ap length (front_of k (length c.args.store.now) cleared.new.row c.args.store.now cleared.auto.row refl fits)
          ∙ cleared.auto.row
          ∙ sym (prefix_long k (length c.args.store.now) c.args.store.now refl fits)
          ∙ c.requires.2,
    )

pub slice_bounds-copy_from_slice-end-2 : goal.slice_bounds-copy_from_slice-end-2
slice_bounds-copy_from_slice-end-2 c =
    let cleared = c.clear in
    let marked = c.axiom_rows in
    let store = c.args.store.now in
    let k = length c.args.table.now in
    let fits : k ≤ length store = omega (arith, c.requires.1, c.requires.2) in
    let long : length cleared.new.row ≡ k = cleared.auto.row ∙ sym (prefix_long k (length store) store refl fits) in
    let rows_long : length marked.new.table ≡ k = marked.auto.table ∙ ap length (front_of k (length store) cleared.new.row store cleared.auto.row refl fits) ∙ long in
    sym (ap length (take_at marked.new.table (drop k (cleared.new.row ++ drop k store)) k rows_long) ∙ rows_long)

pub copy_from_slice-requires : goal.copy_from_slice-requires
copy_from_slice-requires c =
    let cleared = c.clear in
    let marked = c.axiom_rows in
    let store = c.args.store.now in
    let k = length c.args.table.now in
    let fits : k ≤ length store = omega (arith, c.requires.1, c.requires.2) in
    let long : length cleared.new.row ≡ k = cleared.auto.row ∙ sym (prefix_long k (length store) store refl fits) in
    let rows_long : length marked.new.table ≡ k = marked.auto.table ∙ ap length (front_of k (length store) cleared.new.row store cleared.auto.row refl fits) ∙ long in
    omega (arith, ap length (take_at marked.new.table (drop k (cleared.new.row ++ drop k store)) k rows_long) ∙ rows_long)

pub returns : goal.returns
returns c =
    let cleared = c.clear in
    let marked = c.axiom_rows in
    let store = c.args.store.now in
    let k = length c.args.table.now in
    let fits : k ≤ length store = omega (arith, c.requires.1, c.requires.2) in
    let long : length cleared.new.row ≡ k = cleared.auto.row ∙ sym (prefix_long k (length store) store refl fits) in
    let rows_long : length marked.new.table ≡ k = marked.auto.table ∙ ap length (front_of k (length store) cleared.new.row store cleared.auto.row refl fits) ∙ long in
    let copied = c.copy_from_slice in
    puts-axioms {n = length (take k store)}
    (record {
      table_long = c.requires.2;
      zeros_are = cleared.ensures;
      zeros_long = long;
      rows_long = rows_long;
      marks = marked.ensures;
      copied_is = copied.ensures.after ∙ take_at marked.new.table (drop k (cleared.new.row ++ drop k store)) k rows_long;
    })
