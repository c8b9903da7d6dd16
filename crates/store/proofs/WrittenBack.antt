-- An accepted catalogue is written back with its own axioms: its axiom records rise strictly (question 9), so that they stand as the axioms in force
-- are written, and every other number is its own.
use Prim.Native.Nat.{ℕ, ◌+◌, ◌-◌, ◌*◌, ◌/◌, ◌%◌, ◌≤◌, ◌<◌}
use native.Mathlib.Decide.{dec_lt, ℕ_discrete}
use native.Mathlib.Omega.{arith}
use mathlib.Core.Path.{◌≡◌, sym, ap, subst, fun_ext, ◌∙◌}
use mathlib.Core.Logic.{◌⊎◌, inl, inr, ⊎_elim}
use mathlib.Core.List.{List}
use lib.ListN.{length, get_or}
use lib.Seq.{ext_get_or}
use Rattle.rows.specs.Bits.{Bytes}
use Rattle.catalogue.specs.Words.{word}
use Rattle.catalogue.specs.Header.{total, concepts, axioms, axioms_at}
use Rattle.catalogue.specs.Records.{left, right}
use Rattle.catalogue.specs.Outcome.{accepted}
use Rattle.catalogue.specs.Checks.{checked}
use Rattle.catalogue.specs.WellFormed.{WellFormed}
use Rattle.catalogue.proofs.Accepted.{accepted_well_formed, accepted_total}
use Rattle.rules.specs.Axioms.{Axioms, catalogue_axioms}
use Rattle.rules.proofs.Axioms.{catalogue_in_range}
use Rattle.store.specs.Written.{numbered, axiom_count, written}
use Rattle.store.proofs.Rising.{Indexed, indexed_unique}
use Rattle.store.proofs.Written.{number-left, number-right, word_kept, written-total, written_count, length-written, written_same, written_well_formed, written-axioms}
use Rattle.store.proofs.WrittenBytes.{written_bytes}
use Rattle.store.proofs.AxiomCounts.{catalogue_indexed, catalogue_count}

-- ---- numbers, two bytes each

halves : (i : ℕ) → (i ≡ 2 * (i / 2)) ⊎ (i ≡ 2 * (i / 2) + 1)
halves i = elim (dec_lt (i % 2) 1) [ yes l ↦ inl (omega arith) | no g ↦ inr (omega arith) ]

-- Byte lists of the same length with the same numbers are equal.
same_words : (xs ys : List ℕ) → Bytes xs → Bytes ys → length xs ≡ length ys → ((i : ℕ) → 2 * i < length xs → word xs (2 * i) ≡ word ys (2 * i)) → xs ≡ ys
unfolding word
same_words xs ys bx by long same =
    ext_get_or 0 xs ys long
    (λ i l.
    let j = 2 * (i / 2) in
    let e = same (i / 2) (omega arith) in
    let low : get_or xs j 0 ≡ get_or ys j 0 = omega (arith, bx j, by j) in
    let high : get_or xs (j + 1) 0 ≡ get_or ys (j + 1) 0 = omega (arith, bx j, by j) in
    let at : (k : ℕ) → i ≡ k → get_or xs k 0 ≡ get_or ys k 0 → get_or xs i 0 ≡ get_or ys i 0 = λ k s. subst (λ (k : ℕ). get_or xs k 0 ≡ get_or ys k 0) (sym s) in
    ⊎_elim (λ s. at j s low) (λ s. at (j + 1) s high) (halves i))

-- ---- axiom records

-- Two catalogues with as many concepts and the same axioms have the same axiom records: both have the numbers in force, rising.
module _ (b w : List ℕ) (wf : WellFormed b) (ww : WellFormed w) (same : concepts w ≡ concepts b) (own : catalogue_axioms w ≡ catalogue_axioms b) where
  records : Indexed (numbered (concepts b) (catalogue_axioms b)) (concepts b * concepts b) (axioms w) (λ k. left w k * concepts b + right w k)
  records =
      subst (λ (F : Axioms). Indexed (numbered (concepts b) F) (concepts b * concepts b) (axioms w) (λ k. left w k * concepts b + right w k)) own
      (subst (λ (n : ℕ). Indexed (numbered n (catalogue_axioms w)) (n * n) (axioms w) (λ k. left w k * n + right w k)) same (catalogue_indexed w ww))

  same_number : (k : ℕ) → k < axioms b → left b k * concepts b + right b k ≡ left w k * concepts b + right w k
  same_number = (indexed_unique _ _ _ _ _ _ (catalogue_indexed b wf) records).1

  sides_same : (k : ℕ) → k < axioms b → k < axioms w → (left w k ≡ left b k) × (right w k ≡ right b k)
  sides_same k l lw =
      let e = same_number k l in
      let r = (wf.sides k l).1 in
      let below : right w k < concepts b = omega (arith, (ww.sides k lw).1) in (
        sym (number-left (concepts b) (left w k) (right w k) below) ∙ ap (λ (p : ℕ). p / concepts b) (sym e) ∙ number-left (concepts b) (left b k) (right b k) r,
        sym (number-right (concepts b) (left w k) (right w k) below) ∙ ap (λ (p : ℕ). p % concepts b) (sym e) ∙ number-right (concepts b) (left b k) (right b k) r,
      )

-- ---- the whole catalogue

module _ (b : List ℕ) (wf : WellFormed b) where
  own : List ℕ
  own = written b (catalogue_axioms b)

  few : axiom_count b (catalogue_axioms b) ≤ 4096
  few = omega (arith, catalogue_count b wf, wf.axioms_limit)

  own_well_formed : WellFormed own
  unfolding own
  own_well_formed = written_well_formed b (catalogue_axioms b) wf few

  own_count_lem : axioms own ≡ axioms b
  unfolding own
  own_count_lem = written_count b (catalogue_axioms b) wf ∙ catalogue_count b wf

  own_long : length own ≡ length b
  unfolding own
  own_long = omega (arith, length-written b (catalogue_axioms b) wf, catalogue_count b wf, wf.whole)

  own_sides : (k : ℕ) → k < axioms b → (left own k ≡ left b k) × (right own k ≡ right b k)
  unfolding own
  own_sides k l =
      sides_same b own wf own_well_formed (written_same b (catalogue_axioms b) wf).concepts_same
      (fun_ext (λ c. fun_ext (λ d. written-axioms b (catalogue_axioms b) wf (catalogue_in_range b wf) c d)))
      k l (omega (arith, own_count_lem))

  -- The axioms stand from the same byte on.
  own_axioms_at : axioms_at own ≡ axioms_at b
  own_axioms_at = omega (arith, own_well_formed.whole, own_long, own_count_lem, wf.whole)

  -- A number past the other records is a side of an axiom.
  in_record : (i : ℕ) → axioms_at b ≤ 2 * i → 2 * i < length b → (k : ℕ) × (k < axioms b) × ((2 * i ≡ axioms_at b + 4 * k) ⊎ (2 * i ≡ axioms_at b + 4 * k + 2))
  in_record i low high =
      let j = 2 * i - axioms_at b in (
        j / 4,
        omega (arith, wf.whole),
        elim (dec_lt (j % 4) 2) [ yes l ↦ inl (omega arith) | no g ↦ inr (omega arith) ],
      )

  side_own : (i : ℕ) → axioms_at b ≤ 2 * i → 2 * i < length b → word own (2 * i) ≡ word b (2 * i)
  unfolding left right
  side_own i low high =
      let (k, l, at) = in_record i low high in
      let s = own_sides k l in
      let from : (p q : ℕ) → 2 * i ≡ q → p ≡ q → word own p ≡ word b q → word own (2 * i) ≡ word b (2 * i) =
      λ p q e f w. ap (word own) (e ∙ sym f) ∙ w ∙ ap (word b) (sym e)
      in
      ⊎_elim
      (λ e. from (axioms_at own + 4 * k) (axioms_at b + 4 * k) e (ap (λ (a : ℕ). a + 4 * k) own_axioms_at) s.0)
      (λ e. from (axioms_at own + 4 * k + 2) (axioms_at b + 4 * k + 2) e (ap (λ (a : ℕ). a + 4 * k + 2) own_axioms_at) s.1)
      at

  own-total : total b ≡ length b → total own ≡ total b
  unfolding own
  own-total t = omega (arith, written-total b (catalogue_axioms b) wf, catalogue_count b wf, wf.whole)

  word-own : total b ≡ length b → (i : ℕ) → 2 * i < length own → word own (2 * i) ≡ word b (2 * i)
  unfolding total axioms own
  word-own t i l =
      let at : (k : ℕ) → i ≡ k → word own (2 * k) ≡ word b (2 * k) → word own (2 * i) ≡ word b (2 * i) =
      λ k e. subst (λ (k : ℕ). word own (2 * k) ≡ word b (2 * k)) (sym e)
      in
      elim (ℕ_discrete i 0) [
        | yes e ↦ at 0 e (own-total t)
        | no other0 ↦ elim (ℕ_discrete i 5) [
          | yes e ↦ at 5 e own_count_lem
          | no other5 ↦ elim (dec_lt (2 * i) (axioms_at b)) [
            | yes before ↦ word_kept b (catalogue_axioms b) wf (2 * i) (omega arith) (elim (dec_lt i 5) [ yes s ↦ inl (omega arith) | no g ↦ inr (omega arith) ]) (omega arith)
            | no after ↦ side_own i (omega arith) (omega (arith, own_long))
          ]
        ]
      ]

-- Accepted, it is written back byte for byte.
pub written_back : (b : List ℕ) → checked b ≡ accepted → Bytes b → written b (catalogue_axioms b) ≡ b
unfolding own
written_back b catalogue bytes =
    let wf : WellFormed b = accepted_well_formed catalogue in
    same_words (own b wf) b (written_bytes b (catalogue_axioms b) wf (few b wf) bytes) bytes (own_long b wf) (word-own b wf (accepted_total b catalogue))
