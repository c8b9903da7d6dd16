-- The catalogue's section of axioms, its last, is a list of them.
use Prim.Native.Nat.{ℕ, ◌+◌, ◌-◌, ◌*◌}
use native.Mathlib.Omega.{arith}
use mathlib.Core.Path.{◌≡◌, sym, ap, ap₂, subst, ◌∙◌}
use mathlib.Core.Bool.{Bool, ◌&&◌, ◌||◌}
use mathlib.Core.List.{List}
use lib.Dec.{eqb}
use lib.ListN.{length, drop, length-drop}
use lib.Seq.{take_all}
use borrow.Rule.Slice.PartMut.{mid_of}
use Rattle.catalogue.specs.Words.{word}
use Rattle.catalogue.specs.Header.{concepts, axioms, axioms_at}
use Rattle.catalogue.specs.Records.{left, right}
use Rattle.catalogue.specs.WellFormed.{WellFormed}
use Rattle.catalogue.proofs.Words.{word-drop}
use Rattle.rows.specs.Bits.{some_below}
use Rattle.rows.proofs.Counting.{some_ext}
use Rattle.rules.specs.Axioms.{catalogue_axioms}
use Rattle.derivation.specs.declared.Mode.TheVariants.{Add}
use Rattle.layout.specs.declared.Shape.{Shape}
use Rattle.layout.specs.Layout.{shape_of, table, table_length}
use Rattle.change_contract.specs.Lists.{axioms_in, left_in, right_in, among, listed}
use Rattle.axiom_rows.specs.Marking.{with_list, ListInTable, MarksList}
use Rattle.axiom_rows.specs.Putting.{MarksAxioms}

own-left : (b : List ℕ) (k : ℕ) → left_in (drop (axioms_at b) b) k ≡ left b k
unfolding left_in left
own-left b k = word-drop (axioms_at b) b (4 * k)

own-right : (b : List ℕ) (k : ℕ) → right_in (drop (axioms_at b) b) k ≡ right b k
unfolding right_in right
own-right b k =
    let same : axioms_at b + (4 * k + 2) ≡ axioms_at b + 4 * k + 2 = omega arith in
    word-drop (axioms_at b) b (4 * k + 2) ∙ ap (word b) same

module _ {b : List ℕ} (wf : WellFormed b) where
  own_count_lem : axioms_in (drop (axioms_at b) b) ≡ axioms b
  unfolding axioms_in
  own_count_lem = omega (arith, length-drop (axioms_at b) b, wf.whole)

  own-listed : (c d : ℕ) → listed (drop (axioms_at b) b) c d ≡ catalogue_axioms b c d
  unfolding listed among catalogue_axioms
  own-listed c d =
      let own = drop (axioms_at b) b in
      some_ext (λ k. eqb (left_in own k) c && eqb (right_in own k) d) (λ k. eqb (left b k) c && eqb (right b k) d) (axioms_in own)
      (λ k l. ap₂ (λ (x y : ℕ). eqb x c && eqb y d) (own-left b k) (own-right b k))
      ∙ ap (some_below (λ k. eqb (left b k) c && eqb (right b k) d)) own_count_lem

  -- What is lent from its start on.
  own_is : (from : ℕ) → from ≡ axioms_at b → mid_of from (length b - from) b ≡ drop (axioms_at b) b
  own_is from at = take_all (length b - from) (drop from b) (omega (arith, length-drop from b)) ∙ ap (λ (k : ℕ). drop k b) at

  -- It has room in a table of the catalogue's shape.
  pub own_in_table : (s : Shape) (from : ℕ) (rows : List ℕ) → s ≡ shape_of b → from ≡ axioms_at b → length rows ≡ table_length s → ListInTable s (mid_of from (length b - from) b) rows
  unfolding shape_of
  own_in_table s from rows is at long =
      let n : s.concepts ≡ concepts b = ap (λ (x : Shape). x.concepts) is in
      let w : s.width ≡ (shape_of b).width = ap (λ (x : Shape). x.width) is in
      subst (λ (list : List ℕ). ListInTable s list rows) (sym (own_is from at))
      (record {
        long = long;
        whole = omega (arith, length-drop (axioms_at b) b, wf.whole);
        sides = λ k l. let side = wf.sides k (omega (arith, own_count_lem, l)) in (omega (arith, own-left b k, side.0, n), omega (arith, own-right b k, side.1, n));
        room = omega arith;
      })

  -- Its axioms put in are the catalogue's.
  pub own-marked : (s : Shape) (from : ℕ) (rows rows' : List ℕ) → from ≡ axioms_at b → MarksList Add s (mid_of from (length b - from) b) rows rows' → MarksAxioms b s rows rows'
  unfolding with_list
  own-marked s from rows rows' at m c d =
      m.marks c d
      ∙ ap (λ (t : Bool). table s rows c d || t) (ap (λ (list : List ℕ). listed list c d) (own_is from at) ∙ own-listed c d)
