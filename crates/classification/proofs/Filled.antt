-- A store put together: axiom rows copied to its front, and a closed block behind them.
use Prim.Native.Nat.{ℕ, ◌+◌, ◌-◌, ◌*◌, ◌≤◌}
use native.Mathlib.Nat.{add-mul}
use native.Mathlib.Omega.{arith}
use mathlib.Core.Path.{◌≡◌, sym, ap, ap₂, ◌∙◌, subst, fun_ext}
use mathlib.Core.List.{List, ◌++◌}
use lib.ListN.{length, take, drop, replicate, length-append, length-drop}
use lib.Seq.{take_all, drop_at, drop-drop}
use borrow.Rule.Slice.PartMut.{put_mid, mid_of}
use Rattle.catalogue.specs.Header.{concepts, roles}
use Rattle.catalogue.specs.WellFormed.{WellFormed}
use Rattle.rows.specs.Bits.{count_bits, Bytes}
use Rattle.derivation.specs.Decided.{Decides}
use Rattle.rules.specs.Axioms.{Axioms, catalogue_axioms}
use Rattle.rules.specs.Rules.{Closure}
use Rattle.rules.proofs.Axioms.{catalogue_in_range}
use Rattle.rules.specs.Counts.{Size, Pairs, Links}
use Rattle.layout.specs.declared.Shape.{Shape}
use Rattle.layout.specs.Layout.{shape_of, table, marks, table_length, block_length, Shaped}
use Rattle.layout.specs.Parts.{width, used, work_used}
use Rattle.store.specs.Fresh.{Fresh}
use Rattle.layout.proofs.StoreSizes.{used_split, work_is_block, table_long, block_long, used_limit, table_limit}
use Rattle.classification.specs.Classified.{UsedParts}
use Rattle.classification.specs.Closing.{Closes}
use Rattle.rules.proofs.Bounds.{closure_bounded}
use Rattle.store.proofs.Stored.{put_behind, parts_marked}
use Rattle.layout.proofs.Counted.{pairs_size, links_size}

-- How the store came about: `rows` put at the front of it, and then `set` in its place behind them.
pub record FilledFrom (b rows set work store copied filled : List ℕ) (s : Shape) : Type 0 where
  pub well_formed : WellFormed b
  pub long : length store ≡ used b
  pub rows_long : length rows ≡ table_length s
  pub copied_is : copied ≡ rows ++ drop (table_length s) store
  pub set_long : length set ≡ block_length s
  pub filled_is : filled ≡ put_mid (table_length s) (length store - table_length s) copied set
  pub axioms : (c d : ℕ) → table s rows c d ≡ catalogue_axioms b c d
  pub closes : Closes b s (table s rows) set work
  pub bytes : Bytes filled

-- What it holds then.
pub record FilledTo (b work store filled : List ℕ) (s : Shape) : Type 0 where
  pub fresh : Fresh b (catalogue_axioms b) filled
  pub pairs : Size b (Pairs (Closure b (catalogue_axioms b))) (count_bits (mid_of (table_length s) ((table_length s + table_length s) - table_length s) filled))
  pub links : Size b (Links (Closure b (catalogue_axioms b))) (count_bits (mid_of (table_length s + table_length s) (length store - (table_length s + table_length s)) filled))
  pub work_zero : work ≡ replicate (work_used b) 0

-- The sizes of a store's parts, by its shape.
pub record PartSizes (b store : List ℕ) (s : Shape) : Type 0 where
  pub whole : length store ≡ table_length s + block_length s
  pub half : table_length s ≤ block_length s
  pub limit : length store ≤ 1048576
  pub table_limit : table_length s ≤ 32768

sizes_at : (b store : List ℕ) → WellFormed b → length store ≡ used b → PartSizes b store (shape_of b)
unfolding table_length
sizes_at b store wf long =
    let k = block_long b in
    let a = table_long b in
    let more = add-mul (concepts b) (concepts b * roles b) (width b) in
    record {
      whole = long ∙ used_split b;
      half = omega arith;
      limit = omega (arith, used_limit wf);
      table_limit = omega (arith, table_limit wf);
    }

pub part_sizes : (b store : List ℕ) (s : Shape) → s ≡ shape_of b → WellFormed b → length store ≡ used b → PartSizes b store s
part_sizes b store s e wf long = subst (PartSizes b store) (sym e) (sizes_at b store wf long)

module _ (b rows set work store copied filled : List ℕ) (h : FilledFrom b rows set work store copied filled (shape_of b)) where
  F : Axioms
  F = catalogue_axioms b

  abbrev t : ℕ
  t = table_length (shape_of b)

  sizes : PartSizes b store (shape_of b)
  sizes = sizes_at b store h.well_formed h.long

  whole : length store ≡ length (rows ++ drop t store)
  whole = let z = sizes in omega (arith, length-append rows (drop t store), h.rows_long, length-drop t store)

  parts : filled ≡ rows ++ set
  parts =
      h.filled_is
      ∙ ap (λ (l : List ℕ). put_mid t (length store - t) l set) h.copied_is
      ∙ put_behind t (length store) rows (drop t store) h.rows_long whole set

  back : drop t filled ≡ set
  back = ap (drop t) parts ∙ drop_at rows set t h.rows_long

  set-held : Decides (marks (shape_of b) set) (Closure b F)
  unfolding F
  set-held = subst (λ (G : Axioms). Decides (marks (shape_of b) set) (Closure b G)) (fun_ext (λ c. fun_ext (λ d. h.axioms c d))) h.closes.held

  filled_long : length filled ≡ length store
  filled_long =
      let z = sizes in
      ap length parts
      ∙ length-append rows set
      ∙ ap₂ ◌+◌ h.rows_long h.set_long
      ∙ sym z.whole

  at_shape : FilledTo b work store filled (shape_of b)
  unfolding F
  at_shape =
      let wf = h.well_formed in
      let range = catalogue_in_range b wf in
      let bounded = closure_bounded b F wf range in
      let z = sizes in
      record {
        fresh =
            subst (Fresh b F) (sym parts)
            (parts_marked b rows set h.rows_long h.set_long F (Closure b F) range bounded h.axioms set-held (subst Bytes parts h.bytes));
        pairs =
            subst (λ (l : List ℕ). Size b (Pairs (Closure b F)) (count_bits l))
            (sym (ap₂ take (let y : (t + t) - t ≡ t = omega arith in y) back))
            (pairs_size b set (Closure b F) h.set_long set-held bounded);
        links =
            subst (λ (l : List ℕ). Size b (Links (Closure b F)) (count_bits l))
            (sym
            (take_all (length store - (t + t)) (drop (t + t) filled) (omega (arith, length-drop (t + t) filled, filled_long))
            ∙ sym (drop-drop t t filled)
            ∙ ap (drop t) back))
            (links_size b set (Closure b F) h.set_long set-held bounded);
        work_zero = h.closes.work_zero ∙ ap (λ (k : ℕ). replicate k 0) (sym (work_is_block b));
      }

pub store_filled : (b rows set work store copied filled : List ℕ) (s : Shape) → s ≡ shape_of b → FilledFrom b rows set work store copied filled s → FilledTo b work store filled s
store_filled b rows set work store copied filled s e =
    subst (λ (x : Shape). FilledFrom b rows set work store copied filled x → FilledTo b work store filled x) (sym e) (at_shape b rows set work store copied filled)

-- ---- what the parts of a store that is filled ask

pub shaped : {b store work : List ℕ} {s : Shape} → UsedParts b store work → s ≡ shape_of b → Shaped b s
shaped p e = record { well_formed = p.well_formed; is = e }
