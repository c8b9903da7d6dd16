-- `calls::fill` meets its contract: the axiom rows stand at the store's front, and the closed block behind them.
use Prim.Native.Nat.{ℕ, ◌+◌, ◌-◌}
use native.Mathlib.Omega.{arith}
use mathlib.Core.Path.{◌≡◌, refl, sym, ap, subst, ◌∙◌}
use mathlib.Core.List.{List, ◌++◌}
use lib.ListN.{length, take, drop, length-append, length-take}
use borrow.Rule.Slice.PartMut.{put_mid, mid_of, mid_len, same_len_mid}
use Rattle.rules.specs.Axioms.{catalogue_axioms}
use Rattle.rules.specs.Rules.{Closure}
use Rattle.rules.proofs.Axioms.{catalogue_in_range}
use Rattle.rules.specs.Counts.{Size, Pairs, Links}
use Rattle.rows.proofs.RowParts.{prefix_long, front_of}
use Rattle.layout.specs.Layout.{table, block_length, table_length}
use Rattle.layout.proofs.Sizes.{sizes as shape-limits}
use Rattle.layout.proofs.StoreSizes.{work_is_block}
use Rattle.classification.specs.Closing.{Closes}
use Rattle.classification.proofs.Filled.{shaped, part_sizes, store_filled}
use Rattle.classification.proofs.calls.fill.Goals as goal

pub overflow_mul-pairs_at : goal.overflow_mul-pairs_at
unfolding table_length
overflow_mul-pairs_at c =
    let shape = c.of-s in
    let limits = shape-limits (shaped c.requires shape.ensures) in
    omega (arith, limits.table_limit)

pub overflow_add-links_at : goal.overflow_add-links_at
unfolding table_length
overflow_add-links_at c =
    let shape = c.of-s in
    let limits = shape-limits (shaped c.requires shape.ensures) in
    omega (arith, limits.table_limit)

pub slice_bounds-axioms-end : goal.slice_bounds-axioms-end
unfolding table_length
slice_bounds-axioms-end c =
    let shape = c.of-s in
    let limits = shape-limits (shaped c.requires shape.ensures) in
    let zeros = c.zeros-axioms in
    omega (arith, zeros.ensures.long, limits.table_limit)

pub slice_bounds-put_axioms-end : goal.slice_bounds-put_axioms-end
unfolding table_length
slice_bounds-put_axioms-end c =
    let shape = c.of-s in
    let t = table_length shape.result in
    let limits = shape-limits (shaped c.requires shape.ensures) in
    let zeros = c.zeros-axioms in
    prefix_long t 32768 zeros.result zeros.ensures.long limits.table_limit

pub put_axioms-requires : goal.put_axioms-requires
unfolding table_length
put_axioms-requires c =
    let shape = c.of-s in
    let b = c.args.b.now in
    let store = c.args.store.now in
    let t = table_length shape.result in
    let limits = shape-limits (shaped c.requires shape.ensures) in
    let parts = part_sizes b store shape.result shape.ensures c.requires.well_formed c.requires.store_long in
    let zeros = c.zeros-axioms in
    (shaped c.requires shape.ensures, omega (arith, parts.whole), sym (prefix_long t 32768 zeros.result zeros.ensures.long limits.table_limit))

pub slice_bounds-axioms-end-2 : goal.slice_bounds-axioms-end-2
unfolding table_length
slice_bounds-axioms-end-2 c =
    let shape = c.of-s in
    let t = table_length shape.result in
    let zeros = c.zeros-axioms in
    let put = c.put_axioms in
    omega (arith, put.ensures.rows_long, length-append put.new.table (drop t zeros.result))

pub slice_bounds-close-end : goal.slice_bounds-close-end
unfolding table_length
slice_bounds-close-end c =
    let shape = c.of-s in
    let t = table_length shape.result in
    let limits = shape-limits (shaped c.requires shape.ensures) in
    let zeros = c.zeros-axioms in
    let put = c.put_axioms in
    let same : take t (put.new.table ++ drop t zeros.result) ≡ put.new.table = front_of t 32768 put.new.table zeros.result put.auto.table zeros.ensures.long limits.table_limit in
    sym (ap length same ∙ put.ensures.rows_long)

pub slice_bounds-close-count : goal.slice_bounds-close-count
unfolding table_length
slice_bounds-close-count c =
    let shape = c.of-s in
    let b = c.args.b.now in
    let store = c.args.store.now in
    let parts = part_sizes b store shape.result shape.ensures c.requires.well_formed c.requires.store_long in
    omega (arith, parts.whole)

pub slice_bounds-close-start : goal.slice_bounds-close-start
unfolding table_length
slice_bounds-close-start c =
    let shape = c.of-s in
    let b = c.args.b.now in
    let store = c.args.store.now in
    let parts = part_sizes b store shape.result shape.ensures c.requires.well_formed c.requires.store_long in
    omega (arith, parts.whole)

pub close-requires : goal.close-requires
unfolding table_length
close-requires c =
    let shape = c.of-s in
    let b = c.args.b.now in
    let store = c.args.store.now in
    let t = table_length shape.result in
    let limits = shape-limits (shaped c.requires shape.ensures) in
    let parts = part_sizes b store shape.result shape.ensures c.requires.well_formed c.requires.store_long in
    let zeros = c.zeros-axioms in
    let put = c.put_axioms in
    let same : take t (put.new.table ++ drop t zeros.result) ≡ put.new.table = front_of t 32768 put.new.table zeros.result put.auto.table zeros.ensures.long limits.table_limit in
    let middle : length (mid_of t (length store - t) put.new.store) ≡ block_length shape.result =
    mid_len t (length store) put.new.store (omega (arith, put.auto.store))
    ∙ (let rest : length store - t ≡ block_length shape.result = omega (arith, parts.whole) in rest) in
    record {
      shaped = shaped c.requires shape.ensures;
      axioms_long = ap length same ∙ put.ensures.rows_long;
      range = λ x y h. catalogue_in_range b c.requires.well_formed x y (sym (put.ensures.axioms x y) ∙ ap (λ (l : List ℕ). table shape.result l x y) (sym same) ∙ h);
      set_long = middle;
      work_long = c.requires.work_long ∙ work_is_block b ∙ ap block_length (sym shape.ensures);
    }

pub slice_bounds-count-end : goal.slice_bounds-count-end
unfolding table_length
slice_bounds-count-end c =
    let shape = c.of-s in
    let b = c.args.b.now in
    let store = c.args.store.now in
    let t = table_length shape.result in
    let parts = part_sizes b store shape.result shape.ensures c.requires.well_formed c.requires.store_long in
    let put = c.put_axioms in
    let closed = c.close in
    let long : length (put_mid t (length store - t) put.new.store closed.new.set) ≡ length store = same_len_mid t (length store - t) put.new.store closed.new.set closed.auto.set ∙ put.auto.store in
    omega (arith, parts.whole, parts.half)

pub count-pairs-requires : goal.count-pairs-requires
unfolding table_length
count-pairs-requires c =
    let shape = c.of-s in
    let b = c.args.b.now in
    let store = c.args.store.now in
    let t = table_length shape.result in
    let parts = part_sizes b store shape.result shape.ensures c.requires.well_formed c.requires.store_long in
    let put = c.put_axioms in
    let closed = c.close in
    omega (arith, parts.table_limit, length-take ((t + t) - t) (drop t (put_mid t (length store - t) put.new.store closed.new.set)))

pub count-links-requires : goal.count-links-requires
unfolding table_length
count-links-requires c =
    let shape = c.of-s in
    let b = c.args.b.now in
    let store = c.args.store.now in
    let t = table_length shape.result in
    let parts = part_sizes b store shape.result shape.ensures c.requires.well_formed c.requires.store_long in
    let put = c.put_axioms in
    let closed = c.close in
    omega (arith, parts.limit, length-take (length store - (t + t)) (drop (t + t) (put_mid t (length store - t) put.new.store closed.new.set)))

pub returns : goal.returns
unfolding table_length
returns c =
    let shape = c.of-s in
    let b = c.args.b.now in
    let store = c.args.store.now in
    let t = table_length shape.result in
    let limits = shape-limits (shaped c.requires shape.ensures) in
    let parts = part_sizes b store shape.result shape.ensures c.requires.well_formed c.requires.store_long in
    let zeros = c.zeros-axioms in
    let put = c.put_axioms in
    let closed = c.close in
    let same : take t (put.new.table ++ drop t zeros.result) ≡ put.new.table = front_of t 32768 put.new.table zeros.result put.auto.table zeros.ensures.long limits.table_limit in
    let middle : length (mid_of t (length store - t) put.new.store) ≡ block_length shape.result =
    mid_len t (length store) put.new.store (omega (arith, put.auto.store))
    ∙ (let rest : length store - t ≡ block_length shape.result = omega (arith, parts.whole) in rest) in
    let bytes = c.slice_known-4-1 in
    let set = closed.new.set in
    let work = closed.new.work in
    let filled =
    store_filled b put.new.table set work store put.new.store (put_mid t (length store - t) put.new.store closed.new.set) shape.result shape.ensures
    (record {
      well_formed = c.requires.well_formed;
      long = c.requires.store_long;
      rows_long = put.ensures.rows_long;
      copied_is = put.ensures.store_is;
      set_long = closed.auto.set ∙ middle;
      filled_is = refl;
      axioms = put.ensures.axioms;
      closes = subst (λ (l : List ℕ). Closes b shape.result (table shape.result l) set work) same closed.ensures;
      bytes = λ i. omega (arith, bytes.given i);
    })
    in
    record {
      pairs_counted = subst (Size b (Pairs (Closure b (catalogue_axioms b)))) (sym c.count-pairs.ensures) filled.pairs;
      links_counted = subst (Size b (Links (Closure b (catalogue_axioms b)))) (sym c.count-links.ensures) filled.links;
      fresh = filled.fresh;
      work_zero = filled.work_zero;
    }
