-- W8: without axioms classify finds each atomic record under itself and nothing else, and lookups in such a store say so.
use Prim.Native.Nat.{ℕ, zero, suc, ◌+◌, ◌*◌, ◌≤◌, ◌<◌}
use native.Mathlib.Omega.{arith}
use mathlib.Core.Path.{◌≡◌, refl, sym, ap, subst, fun_ext, ◌∙◌}
use mathlib.Core.Logic.Iff
use mathlib.Core.Logic.{◌↔◌}
use mathlib.Core.Bool.{true, false, false≢true}
use mathlib.Core.List.{List, [], ◌∷◌}
use lib.Dec.{eqb}
use lib.ListN.{length, take, replicate, length-append, length-replicate, length-take}
use lib.Seq.{take_all}
use borrow.Author.Tests.{eq-eqb}
use Rattle.std.proofs.Common.{Ok, Err}
use Rattle.catalogue.proofs.Examples.{checks_compute}
use Rattle.catalogue.specs.Words.{word, bytes_of}
use Rattle.catalogue.specs.Header.{concepts, roles, axioms, axioms_at}
use Rattle.catalogue.specs.Records.{kind}
use Rattle.catalogue.specs.Outcome.{accepted}
use Rattle.catalogue.specs.Examples.{w1}
use Rattle.catalogue.specs.Checks.{checked}
use Rattle.catalogue.specs.WellFormed.{WellFormed}
use Rattle.catalogue.specs.Verdicts.{refusal}
use Rattle.catalogue.proofs.Accepted.{accepted_well_formed}
use Rattle.rows.specs.Bits.{Bytes, place, set_bit, set_if, count_below}
use Rattle.rows.proofs.Bits.{bit_zeros, bytes_zero}
use Rattle.rows.proofs.Puts.{length-set_if, bytes_set_if}
use Rattle.rows.proofs.Counting.{count_none}
use Rattle.booleans.proofs.Booleans.{not-both, not_true_false}
use Rattle.derivation.specs.Finite.{some}
use Rattle.structure.specs.Marks.{MarksMore}
use Rattle.rules.specs.Axioms.{Axioms, InRange, none, catalogue_axioms}
use Rattle.rules.specs.Occurrence.{Atomic, Occurs, atomic, has_kind}
use Rattle.rules.specs.Rules.{Expression, fact, pair, Closure, AtomicPair}
use Rattle.rules.specs.Counts.{Size, is_pair, Pairs, Links}
use Rattle.rules.proofs.Axioms.{catalogue_axioms_exact}
use Rattle.rules.proofs.Bounds.{closure_bounded}
use Rattle.rules.proofs.Counts.{size_same, empty_size}
use Rattle.rules.proofs.NoAxioms.{atomic_occur, atomic_derived, atomic_size}
use Rattle.layout.specs.Layout.{shape_of, table_length, block_length, Shaped}
use Rattle.layout.specs.Parts.{width, used, work_used, held}
use Rattle.layout.proofs.StoreSizes.{table_long, work_is_block, used_split}
use Rattle.occurrence.specs.Marking.{AtomicAt}
use Rattle.occurrence.proofs.Atomic.{atomic_none, atomic_more}
use Rattle.store.specs.Written.{rising, numbered, axiom_count, sides_of, axiom_records, set_word, written}
use Rattle.store.specs.Fresh.{Fresh}
use Rattle.store.proofs.Stored.{parts_marked, marked-used}
use Rattle.store.proofs.Says.{says_pair}
use Rattle.store.proofs.WrittenBytes.{bytes_append}
use Rattle.axiom_rows.proofs.Cleared.{clear_table}
use Rattle.classification.proofs.WithoutAxioms.{on_diagonal, atomic_marks}
use Rattle.change_contract.specs.Answers as answer
use Rattle.change_contract.proofs.Members.{on_list}
use Rattle.lookups.specs.Answers.{looked_up}
use Rattle.meaning.specs.Atomic.{AtomicMeans}
use Rattle.meaning.proofs.DemandLookup.{meant, lookup_means}
use Rattle.meaning.proofs.DemandAtomic.{atomic_means}
use Rattle.examples_w8_w10.specs.Catalogues.{w8}
use Rattle.examples_w8_w10.specs.Stores.{atomic_block, atomic_store, w8_store}
use Rattle.examples_common.specs.Calls.{ClassifyGives, ChangeGives}
use Rattle.examples_common.specs.Entries.{Changed}
use Rattle.examples_common.specs.Computed.{closure_of, removed_of, returned_of, gained_of, broken_of, gaining_of}
use Rattle.examples_w8_w10.specs.Table.{axioms8}
use Rattle.examples_common.proofs.Changed.{Computes, changed}
use Rattle.examples_common.proofs.Classifying.{classify_gives}
use Rattle.examples_common.proofs.Editing.{lists_asked, changed_in_range, change_gives}

pub w8_accepted : checked w8 ≡ accepted
unfolding checks_compute w8
w8_accepted = refl

pub w8_well_formed : WellFormed w8
w8_well_formed = accepted_well_formed w8_accepted

never : (c d : ℕ) → ¬ (none c d ≡ true)
never c d = false≢true

none_in_range : (b : List ℕ) → InRange b none
none_in_range b c d f = absurd (never c d f)

-- A catalogue without axiom records has no axioms in force.
no_records : (b : List ℕ) → axioms b ≡ 0 → catalogue_axioms b ≡ none
no_records b e = fun_ext (λ c. fun_ext (λ d. not_true_false (catalogue_axioms b c d) (λ f. let r = (catalogue_axioms_exact b c d).0 f in absurd (let z : ⊥ = omega (arith, e, r.1) in z))))

pub w8_derived : (b : List ℕ) → WellFormed b → (e : Expression) → Closure b none e ↔ AtomicPair b e
w8_derived b wf = atomic_derived b none never wf

pub w8_occur : (b : List ℕ) (c : ℕ) → Occurs b none c ↔ Atomic b c
w8_occur b c = (atomic_occur b none never c, atomic)

-- ---- the store

block_long : (b : List ℕ) (k : ℕ) → length (atomic_block b k) ≡ work_used b
unfolding atomic_block
block_long b zero = length-replicate {A = ℕ} (work_used b) 0
block_long b (suc c) = length-set_if (eqb (kind b c) 0) (atomic_block b c) (place (width b) c c) ∙ block_long b c

block_bytes : (b : List ℕ) (k : ℕ) → Bytes (atomic_block b k)
unfolding atomic_block
block_bytes b zero = bytes_zero (work_used b)
block_bytes b (suc c) = bytes_set_if (eqb (kind b c) 0) (atomic_block b c) (place (width b) c c) (block_bytes b c)

module _ (b : List ℕ) (wf : WellFormed b) where
  shaped : Shaped b (shape_of b)
  shaped = record { well_formed = wf; is = refl }

  -- The atomic records below k are marked.
  block_marks : (k : ℕ) → k ≤ concepts b → MarksMore (AtomicAt b (width b) k) (replicate (work_used b) 0) (atomic_block b k)
  unfolding atomic_block shape_of width place
  block_marks zero l = atomic_none b (width b) (replicate (work_used b) 0)
  block_marks (suc c) l =
      let room = on_diagonal b (shape_of b) shaped c l in
      subst (λ (k : ℕ). MarksMore (AtomicAt b (width b) k) (replicate (work_used b) 0) (atomic_block b (suc c))) (let next : c + 1 ≡ suc c = omega arith in next)
      (atomic_more b (width b) c (replicate (work_used b) 0) (atomic_block b c) (atomic_block b (suc c)) (block_marks c (omega arith))
      (omega (arith, room.0, room.1, block_long b c, work_is_block b)) refl)

  rows_long : length (replicate {A = ℕ} (concepts b * width b) 0) ≡ table_length (shape_of b)
  rows_long = length-replicate {A = ℕ} (concepts b * width b) 0 ∙ sym (table_long b)

  set_at_block : length (atomic_block b (concepts b)) ≡ block_length (shape_of b)
  set_at_block = block_long b (concepts b) ∙ work_is_block b

  pub store_fresh : Fresh b none (atomic_store b)
  unfolding atomic_store shape_of width
  store_fresh =
      parts_marked b (replicate (concepts b * width b) 0) (atomic_block b (concepts b)) rows_long set_at_block none (Closure b none) (none_in_range b)
      (closure_bounded b none wf (none_in_range b)) (clear_table (shape_of b) (concepts b * width b))
      (λ e.
      Iff.trans
      (atomic_marks b (shape_of b) shaped (replicate (work_used b) 0) (atomic_block b (concepts b)) (bit_zeros (work_used b)) (block_marks (concepts b) (omega arith)) e)
      (Iff.symm (w8_derived b wf e)))
      (bytes_append (replicate (concepts b * width b) 0) (atomic_block b (concepts b)) (bytes_zero (concepts b * width b)) (block_bytes b (concepts b)))

  store_long : length (atomic_store b) ≡ used b
  unfolding atomic_store
  store_long = length-append (replicate (concepts b * width b) 0) (atomic_block b (concepts b)) ∙ omega (arith, rows_long, set_at_block, used_split b)

  -- Whatever stands past the used part.
  front_fresh : (store : List ℕ) → take (used b) store ≡ atomic_store b → Fresh b none store
  front_fresh store front =
      marked-used b none (Closure b none) (atomic_store b) store
      (take_all (used b) (atomic_store b) (omega (arith, store_long)) ∙ sym front)
      (omega (arith, length-take (used b) store, ap (λ (xs : List ℕ). length xs) front, store_long))
      store_fresh

-- ---- the calls

-- Every pair is one of an atomic record with itself, and there is no link.
pairs_are : (b : List ℕ) → WellFormed b → (e : Expression) → AtomicPair b e ↔ Pairs (Closure b none) e
unfolding is_pair
pairs_are b wf (fact c g d) = (
  λ a. ((w8_derived b wf (fact c g d)).1 a, let (x, _, e) = a in let z : g ≡ 0 = cc in eq-eqb g 0 z),
  λ p. (w8_derived b wf (fact c g d)).0 p.0,
)

no_links : (b : List ℕ) → WellFormed b → (e : Expression) → ¬ (Links (Closure b none) e)
no_links b wf e (l, other) = not-both ((pairs_are b wf e).0 ((w8_derived b wf e).0 l)).1 other

pub w8_classify : (b : List ℕ) → checked b ≡ accepted → axioms b ≡ 0 → ClassifyGives b (used b) (work_used b) (count_below (has_kind b 0) (concepts b)) 0 (atomic_store b)
w8_classify b catalogue e =
    let wf = accepted_well_formed catalogue in
    let same = sym (no_records b e) in
    classify_gives b (count_below (has_kind b 0) (concepts b)) 0 (atomic_store b) catalogue (store_long b wf)
    (subst (λ (F : Axioms). Fresh b F (atomic_store b)) same (store_fresh b wf))
    (subst (λ (F : Axioms). Size b (Pairs (Closure b F)) (count_below (has_kind b 0) (concepts b))) same (size_same b (AtomicPair b) (Pairs (Closure b none)) _ (pairs_are b wf) (atomic_size b)))
    (subst (λ (F : Axioms). Size b (Links (Closure b F)) 0) same (empty_size b (Links (Closure b none)) (no_links b wf)))

no_axioms_counted : (b : List ℕ) → axiom_count b none ≡ 0
unfolding axiom_count numbered
no_axioms_counted b = count_none (λ p. false) (concepts b * concepts b) (λ p l. refl)

module _ (b store : List ℕ) (catalogue : checked b ≡ accepted) (front : take (used b) store ≡ atomic_store b) where
  fresh : Fresh b none store
  fresh = front_fresh b (accepted_well_formed catalogue) store front

  few : axiom_count b none ≤ 4096
  few = omega (arith, no_axioms_counted b)

  means : AtomicMeans b none store
  means = atomic_means b none store catalogue (none_in_range b) few fresh

  pub w8_itself : (c : ℕ) → Atomic b c → looked_up b c c store ≡ Ok true
  w8_itself c a = (means.yes_means c c a a).1 (λ i s x o h. h)

  pub w8_others : (c d : ℕ) → Atomic b c → Atomic b d → ¬ (c ≡ d) → looked_up b c d store ≡ Ok false
  w8_others c d x y apart =
      (means.no_means c d x y).1
      ((meant b none store catalogue (none_in_range b) few fresh c d ((w8_occur b c).1 x) ((w8_occur b d).1 y)).1.0
      (says_pair b store c d
      ∙ not_true_false (held b store (pair c d))
      (λ h. let (z, _, e) = (w8_derived b (accepted_well_formed catalogue) (pair c d)).0 ((fresh.set (pair c d)).0 h) in apart (let p : c ≡ d = cc in p))))

  pub w8_absent : (c d : ℕ) → c < concepts b → d < concepts b → ¬ (Atomic b c × Atomic b d) → looked_up b c d store ≡ Err (refusal 19 0)
  w8_absent c d lc ld out =
      (lookup_means b none store catalogue (none_in_range b) few fresh c d).absent.1 (lc, ld, λ (o, p). out ((w8_occur b c).0 o, (w8_occur b d).0 p))

-- ---- W1's concepts

pub w8_bytes : written w1 none ≡ w8
unfolding w1 w8 word bytes_of concepts axioms axioms_at count_below numbered axiom_count rising sides_of axiom_records set_word written
w8_bytes = refl

w8_lengths : (used w8 ≡ 35) × (work_used w8 ≡ 28)
unfolding w8 word concepts roles width used work_used
w8_lengths = (refl, refl)

w8_no_axioms : axioms w8 ≡ 0
unfolding w8 word axioms
w8_no_axioms = refl

w8_seven : concepts w8 ≡ 7
unfolding w8 word concepts
w8_seven = refl

w8_count : count_below (has_kind w8 0) (concepts w8) ≡ 4
unfolding closure_of w8
w8_count = refl

w8_store_lem : atomic_store w8 ≡ w8_store
unfolding closure_of w8 atomic_store atomic_block w8_store width work_used set_if set_bit place
w8_store_lem = refl

pub w8-w1 : ClassifyGives w8 35 28 4 0 w8_store
w8-w1 =
    subst (λ (part : List ℕ). ClassifyGives w8 35 28 4 0 part) w8_store_lem
    (subst (λ (k : ℕ). ClassifyGives w8 35 28 k 0 (atomic_store w8)) w8_count
    (subst (λ (k : ℕ). ClassifyGives w8 35 k (count_below (has_kind w8 0) (concepts w8)) 0 (atomic_store w8)) w8_lengths.1
    (subst (λ (k : ℕ). ClassifyGives w8 k (work_used w8) (count_below (has_kind w8 0) (concepts w8)) 0 (atomic_store w8)) w8_lengths.0
    (w8_classify w8 w8_accepted w8_no_axioms))))

-- Adding (0,4).
w8_asks : lists_asked w8 [] (0 ∷ 0 ∷ 4 ∷ 0 ∷ []) none ≡ accepted
unfolding lists_asked w8
w8_asks = refl

range8 : InRange w8 axioms8
range8 = changed_in_range w8 [] (0 ∷ 0 ∷ 4 ∷ 0 ∷ []) none w8_asks (none_in_range w8)

w8_computed : Computes w8 none axioms8 0 0 4 [] (0 ∷ 4 ∷ []) (0 ∷ 4 ∷ [])
unfolding removed_of returned_of gained_of broken_of gaining_of w8 rising on_list some
w8_computed = (refl, refl, refl, refl, refl, refl)

pub w8_change : Changed w8 none axioms8 0 0 4 [] (0 ∷ 4 ∷ []) (0 ∷ 4 ∷ [])
w8_change = changed w8 none axioms8 w8_well_formed (none_in_range w8) range8 0 0 4 [] (0 ∷ 4 ∷ []) (0 ∷ 4 ∷ []) w8_computed

pub w8-add : ChangeGives w8 [] (0 ∷ 0 ∷ 4 ∷ 0 ∷ []) none axioms8 28 14 (answer.changed 0 0 4 2) (0 ∷ 0 ∷ 4 ∷ 0 ∷ [])
unfolding bytes_of
w8-add =
    subst (λ (k : ℕ). ChangeGives w8 [] (0 ∷ 0 ∷ 4 ∷ 0 ∷ []) none axioms8 k 14 (answer.changed 0 0 4 2) (0 ∷ 0 ∷ 4 ∷ 0 ∷ [])) w8_lengths.1
    (subst (λ (n : ℕ). ChangeGives w8 [] (0 ∷ 0 ∷ 4 ∷ 0 ∷ []) none axioms8 (work_used w8) (2 * n) (answer.changed 0 0 4 2) (0 ∷ 0 ∷ 4 ∷ 0 ∷ [])) w8_seven
    (change_gives w8 [] (0 ∷ 0 ∷ 4 ∷ 0 ∷ []) none w8_asks w8_accepted (omega (arith, no_axioms_counted w8)) 0 0 4 [] (0 ∷ 4 ∷ []) (0 ∷ 4 ∷ []) w8_change))
