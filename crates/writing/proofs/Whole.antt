-- The catalogue whole: the records before the axioms copied, total and count put in, and the axioms of the store's rows.
use mathlib.Core.Path.{◌≡◌, sym, ap, ap₂, ◌∙◌, subst}
use mathlib.Core.List.{List, ◌++◌, append-nil}
use Prim.Native.Nat.{ℕ, ◌+◌, ◌*◌, ◌/◌, ◌%◌, ◌≤◌, ◌<◌}
use native.Mathlib.Nat.{mod-lt, div-lt_iff_lt-mul}
use native.Mathlib.Omega.{arith}
use lib.ListN.{length, take, drop, set, length-set, length-append, length-drop}
use lib.Seq.{set-append_left, take_at, take_all, length-take-le}
use Rattle.catalogue.specs.Header.{concepts, axioms_at}
use Rattle.catalogue.specs.Words.{bytes_of}
use Rattle.catalogue.specs.WellFormed.{WellFormed}
use Rattle.rows.specs.Bits.{bit, count_below, place}
use Rattle.rows.proofs.Counting.{count_ext}
use Rattle.reader.specs.Copied.{copied}
use Rattle.layout.specs.Parts.{width, in_force}
use Rattle.store.specs.Written.{rising, sides_of, numbered, axiom_count, axiom_records, set_word, written}
use Rattle.layout.proofs.StoreSizes.{width_fits, table_long, used_split}
use Rattle.layout.proofs.StoreRows.{in_force_bit}
use Rattle.store.proofs.Written.{number-left, number-right}
use Rattle.store.proofs.Records.{length-set_word}
use Rattle.writing.specs.Records.{Recorded, in_rows, TableFits, WritesTable, CatalogueFits}

-- Numbers put into the front of a list.
set_word_front : (xs ys : List ℕ) (i x : ℕ) → i + 1 < length xs → set_word (xs ++ ys) i x ≡ set_word xs i x ++ ys
unfolding set_word
set_word_front xs ys i x h =
    ap (λ (l : List ℕ). set l (i + 1) (x / 256)) (set-append_left xs ys i (x % 256) (omega arith))
    ∙ set-append_left (set xs i (x % 256)) ys (i + 1) (x / 256) (simp length-set h)

-- Total and count put into the front of a catalogue.
abbrev pub counted : List ℕ → ℕ → List ℕ → List ℕ
counted b count l = set_word (set_word l 0 (axioms_at b + 4 * count)) 10 count

module _ (b store : List ℕ) (count : ℕ) (out : List ℕ) (fits : CatalogueFits b store count out) where
  wf : WellFormed b
  wf = fits.clear.sized.well_formed

  start_bounds : (axioms_at b ≤ length b) × (20 ≤ axioms_at b)
  start_bounds = omega (arith, wf.whole, wf.axioms_start, wf.compositions_start, wf.inclusions_start)

  in_force_lem : (c d : ℕ) → c < concepts b → d < concepts b → in_force b store c d ≡ bit store (place (width b) c d)
  in_force_lem c d hc hd = in_force_bit b store c d hc (omega (arith, (width_fits b).0))

  -- The rows' bits are the axioms in force.
  same_count : count_below (in_rows store (concepts b) (width b)) (concepts b * concepts b) ≡ axiom_count b (in_force b store)
  unfolding axiom_count numbered
  same_count =
      count_ext (in_rows store (concepts b) (width b)) (numbered (concepts b) (in_force b store)) (concepts b * concepts b)
      (λ p l.
      sym (in_force_lem (p / concepts b) (p % concepts b) ((div-lt_iff_lt-mul wf.some_concept).1 l) (mod-lt p wf.some_concept)))

  length_head : length (counted b count (take (axioms_at b) b)) ≡ axioms_at b
  length_head =
      length-set_word (set_word (take (axioms_at b) b) 0 (axioms_at b + 4 * count)) 10 count
      ∙ length-set_word (take (axioms_at b) b) 0 (axioms_at b + 4 * count)
      ∙ length-take-le (axioms_at b) b start_bounds.0

  -- The front after the copy and the two numbers.
  pub front_is : counted b count (copied b 0 out 0 (2 * (axioms_at b / 2))) ≡ counted b count (take (axioms_at b) b) ++ drop (axioms_at b) out
  front_is =
      let even : 2 * (axioms_at b / 2) ≡ axioms_at b = omega (arith, wf.axioms_start, wf.compositions_start, wf.inclusions_start) in
      let long : length (take (axioms_at b) b) ≡ axioms_at b = length-take-le (axioms_at b) b start_bounds.0 in
      ap (λ (k : ℕ). counted b count (take k b ++ drop (0 + k) out)) even
      ∙ ap (λ (k : ℕ). counted b count (take (axioms_at b) b ++ drop k out)) (let z : 0 + axioms_at b ≡ axioms_at b = omega arith in z)
      ∙ ap (λ (l : List ℕ). set_word l 10 count) (set_word_front (take (axioms_at b) b) (drop (axioms_at b) out) 0 (axioms_at b + 4 * count) (omega (arith, long, start_bounds.1)))
      ∙ set_word_front (set_word (take (axioms_at b) b) 0 (axioms_at b + 4 * count)) (drop (axioms_at b) out) 10 count
      (subst (λ (k : ℕ). 10 + 1 < k) (sym (length-set_word (take (axioms_at b) b) 0 (axioms_at b + 4 * count) ∙ long)) (omega (arith, start_bounds.1)))

  -- The rows fit into any list as long as the output.
  pub table_fits : (ready : List ℕ) → length ready ≡ length out → TableFits store (concepts b) ((concepts b + 7) / 8) ready (axioms_at b)
  unfolding width
  table_fits ready l =
      let rows : concepts b * width b ≤ length store = omega (arith, used_split b, table_long b, fits.clear.sized.long) in
      record {
        some = wf.some_concept;
        small = wf.concepts_limit;
        width_fits = omega arith;
        width_small = omega (arith, wf.concepts_limit);
        rows_long = rows;
        room = omega (arith, same_count, fits.count_is, fits.out_long);
      }

  module _ (ready : List ℕ) (e : ready ≡ counted b count (take (axioms_at b) b) ++ drop (axioms_at b) out) where
    length_ready : length ready ≡ axioms_at b + 4 * count
    length_ready =
        ap length e
        ∙ length-append (counted b count (take (axioms_at b) b)) (drop (axioms_at b) out)
        ∙ (let z : length (counted b count (take (axioms_at b) b)) + length (drop (axioms_at b) out) ≡ axioms_at b + 4 * count = omega (arith, length_head, length-drop (axioms_at b) out, fits.out_long) in z)

    pub whole : (out' : List ℕ) → WritesTable store (concepts b) ((concepts b + 7) / 8) ready (axioms_at b) out' → out' ≡ written b (in_force b store)
    unfolding width written axiom_records axiom_count rising sides_of bytes_of numbered
    whole out' t =
        let test = numbered (concepts b) (in_force b store) in
        let head = counted b count (take (axioms_at b) b) in
        let begun : Recorded (concepts b) test 0 head ready (axioms_at b) =
        record {
          ends = omega (arith, length_head);
          bytes = ap (take (axioms_at b)) e ∙ take_at head (drop (axioms_at b) out) (axioms_at b) length_head ∙ sym (append-nil head);
        }
        in
        let done : Recorded (concepts b) test (concepts b * concepts b) head out' (axioms_at b + 4 * count_below test (concepts b * concepts b)) =
        t.recorded test head
        (λ c d hc hd. ap₂ (in_force b store) (number-left (concepts b) c d hd) (number-right (concepts b) c d hd) ∙ in_force_lem c d hc hd)
        begun
        in
        let all : length out' ≤ axioms_at b + 4 * count_below test (concepts b * concepts b) = omega (arith, t.long, length_ready, fits.count_is) in
        sym (take_all (axioms_at b + 4 * count_below test (concepts b * concepts b)) out' all)
        ∙ done.bytes
        ∙ ap (λ (k : ℕ). counted b k (take (axioms_at b) b) ++ bytes_of (sides_of (concepts b) (rising test (concepts b * concepts b)))) fits.count_is
