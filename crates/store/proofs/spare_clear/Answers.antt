-- `store::spare_clear` meets its contract: where n is a multiple of 8 a row has no bit from n upward, and elsewhere they are in its last byte.
use Prim.Native.Nat.{ℕ, ◌+◌, ◌*◌, ◌%◌, ◌≤◌}
use native.Mathlib.Omega.{arith}
use mathlib.Core.Path.{◌≡◌, sym, ap, ap₂, subst₂, ◌∙◌}
use mathlib.Core.Bool.{not}
use lib.ListN.{length}
use Rattle.catalogue.specs.Header.{concepts}
use Rattle.rows.specs.Bits.{some_below}
use Rattle.layout.specs.Parts.{width, set_from, spare_clear}
use Rattle.layout.proofs.StoreSizes.{used_rows, width_fits, rows_limit}
use Rattle.layout.proofs.Sizes.{shape_sizes, shape_rows, shape_concepts, shape_width}
use Rattle.layout.proofs.StoreRows.{no_spare}
use Rattle.store.proofs.spare_clear.Goals as goal

pub returns-then-n-eq0 : goal.returns-then-n-eq0
returns-then-n-eq0 c =
    let b = c.args.b.now in
    let e = c.of-s.ensures in
    sym (no_spare b c.args.store.now (omega (arith, c.if-n-eq0.true, shape_concepts b e)))

pub overflow_add-m : goal.overflow_add-m
overflow_add-m c = omega (arith, (shape_sizes c.requires.well_formed c.of-s.ensures).roles_limit)

pub overflow_mul-n : goal.overflow_mul-n
overflow_mul-n c =
    omega (arith, shape_rows c.args.b.now c.of-s.ensures, rows_limit c.requires.well_formed)

pub last_bytes_clear-requires : goal.last_bytes_clear-requires
last_bytes_clear-requires c =
    let b = c.args.b.now in
    let e = c.of-s.ensures in
    let n = shape_concepts b e in
    let w = shape_width b e in
    let other : c.of-s.result.concepts % 8 ≡ 0 → ⊥ = c.if-n-eq0.false in
    record {
      below = omega (arith, width_fits b);
      last = omega (arith, width_fits b);
      long = subst₂ (λ (r w : ℕ). r * w ≤ length c.args.store.now) (sym (shape_rows b e)) (sym w) (omega (arith, used_rows b, c.requires.long));
    }

pub returns : goal.returns
unfolding spare_clear
returns c =
    let b = c.args.b.now in
    let store = c.args.store.now in
    let e = c.of-s.ensures in
    c.last_bytes_clear.ensures
    ∙ ap₂ (λ (w n : ℕ). not (some_below (set_from w n store) (c.of-s.result.concepts * (c.of-s.result.roles + 2)))) (shape_width b e) (shape_concepts b e)
    ∙ ap (λ (k : ℕ). not (some_below (set_from (width b) (concepts b) store) k)) (shape_rows b e)
