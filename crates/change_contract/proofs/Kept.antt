-- What a change of a store that is classified afresh keeps: a concept that is not touched has the same rows after as before, of pairs and of links, and a
-- concept that is the left side of no axiom of the two lists has the same row of axioms.
use Prim.Native.Nat.{ℕ, ◌+◌, ◌*◌, ◌≤◌, ◌<◌}
use native.Mathlib.Decide.{dec_lt}
use native.Mathlib.Omega.{arith}
use mathlib.Core.Bool.{false}
use mathlib.Core.Path.{◌≡◌, sym, subst, ◌∙◌}
use mathlib.Core.Logic.{◌↔◌, ⊎_elim, inl}
use mathlib.Core.List.{List}
use lib.Dec.{lit<}
use lib.ListN.{length, take, drop, length-take, length-drop, get_or-eq_default}
use lib.Seq.{length-take-le, get_or-take, get_or-drop}
use Rattle.booleans.proofs.Booleans.{agree, not-both}
use Rattle.rows.specs.Bits.{bit, Bytes}
use Rattle.rows.proofs.Bits.{same_bits}
use Rattle.rows.proofs.Places.{row_within}
use Rattle.catalogue.specs.Header.{concepts, roles}
use Rattle.catalogue.specs.WellFormed.{WellFormed}
use Rattle.rules.specs.Axioms.{Axioms, InRange}
use Rattle.rules.specs.Rules.{Expression, pair, link, partition, Closure}
use Rattle.rules.specs.Changes.{TouchedPartition}
use Rattle.rules.proofs.Changes.{untouched_closure}
use Rattle.layout.specs.Parts.{width, used, axiom_row_at, pair_row_at, link_row_at, row_at, held, row_count}
use Rattle.layout.proofs.StoreSizes.{used_rows, rows_split}
use Rattle.layout.proofs.StoreRows.{axiom_row_bit, pair_row_bit, link_row_bit}
use Rattle.store.specs.Fresh.{Marked, Fresh}
use Rattle.change_contract.specs.Lists.{listed, edited}
use Rattle.change_contract.proofs.Lists.{edited_exact}

-- ---- rows with the same bits

module _ (b : List ℕ) (F : Axioms) (S : Expression → Type 0) (store : List ℕ) (p : Marked b F S store) (k : ℕ) (lk : k < row_count b) where
  row_inside : k * width b + width b ≤ used b
  row_inside = omega (arith, row_within (width b) k (row_count b) lk, used_rows b)

  row_long : length (row_at b store (k * width b)) ≡ width b
  unfolding row_at
  row_long = length-take-le (width b) (drop (k * width b) store) (omega (arith, row_inside, p.long, length-drop (k * width b) store))

  row_bytes : Bytes (row_at b store (k * width b))
  unfolding row_at
  row_bytes i =
      elim (dec_lt i (width b)) [
        | yes l ↦
            subst (λ (x : ℕ). x < 256) (sym (get_or-take (width b) (drop (k * width b) store) i 0 l ∙ get_or-drop (k * width b) store i 0))
            (p.bytes (k * width b + i) (omega (arith, row_inside)))
        | no g ↦
            subst (λ (x : ℕ). x < 256)
            (sym (get_or-eq_default (take (width b) (drop (k * width b) store)) 0 (omega (arith, length-take (width b) (drop (k * width b) store)))))
            (lit< tt)
      ]

-- Row k of two stores that mark anything: the same bytes, where it has the same bits.
module _ (b : List ℕ) (F G : Axioms) (S T : Expression → Type 0) (xs ys : List ℕ) (p : Marked b F S xs) (q : Marked b G T ys) where
  row_same : (k : ℕ) → k < row_count b → ((d : ℕ) → d < 8 * width b → bit (row_at b ys (k * width b)) d ≡ bit (row_at b xs (k * width b)) d)
      → row_at b ys (k * width b) ≡ row_at b xs (k * width b)
  row_same k lk same =
      let lx : length (row_at b xs (k * width b)) ≡ width b = row_long b F S xs p k lk in
      let ly : length (row_at b ys (k * width b)) ≡ width b = row_long b G T ys q k lk in
      same_bits (row_at b ys (k * width b)) (row_at b xs (k * width b)) (row_bytes b G T ys q k lk) (row_bytes b F S xs p k lk) (ly ∙ sym lx)
      (λ d l. same d (omega arith))

  module _ (c : ℕ) (lc : c < concepts b) where
    pub axiom_row_same : ((d : ℕ) → G c d ≡ F c d) → row_at b ys (axiom_row_at b c) ≡ row_at b xs (axiom_row_at b c)
    unfolding axiom_row_at
    axiom_row_same same =
        row_same c (omega (arith, rows_split b))
        (λ d ld. axiom_row_bit b ys c d lc ld ∙ q.axioms c d ∙ same d ∙ sym (p.axioms c d) ∙ sym (axiom_row_bit b xs c d lc ld))

    pub pair_row_same : ((d : ℕ) → held b ys (pair c d) ≡ held b xs (pair c d)) → row_at b ys (pair_row_at b c) ≡ row_at b xs (pair_row_at b c)
    unfolding pair_row_at
    pair_row_same same =
        row_same (concepts b + c) (omega (arith, rows_split b)) (λ d ld. pair_row_bit b ys c d lc ld ∙ same d ∙ sym (pair_row_bit b xs c d lc ld))

    pub link_row_same : (r : ℕ) → r < roles b → ((d : ℕ) → held b ys (link c r d) ≡ held b xs (link c r d)) → row_at b ys (link_row_at b c r) ≡ row_at b xs (link_row_at b c r)
    unfolding link_row_at
    link_row_same r lr same =
        row_same (concepts b + concepts b + (c * roles b + r)) (omega (arith, rows_split b, row_within (roles b) c (concepts b) lc))
        (λ d ld. link_row_bit b ys c r d lc lr ld ∙ same d ∙ sym (link_row_bit b xs c r d lc lr ld))

-- ---- rows of what is not touched

module _ (b : List ℕ) (F G : Axioms) (wf : WellFormed b) (range_f : InRange b F) (range_g : InRange b G) (xs ys : List ℕ) (p : Fresh b F xs) (q : Fresh b G ys) where
  untouched_held : (e : Expression) → ¬ (TouchedPartition b F G (Closure b F) (partition e)) → held b ys e ≡ held b xs e
  untouched_held e out =
      let same : Closure b F e ↔ Closure b G e = untouched_closure b F G wf range_f range_g e out in
      agree (held b ys e) (held b xs e) (λ h. (p.set e).1 (same.1 ((q.set e).0 h))) (λ h. (q.set e).1 (same.0 ((p.set e).0 h)))

  module _ (c : ℕ) (lc : c < concepts b) (out : ¬ (TouchedPartition b F G (Closure b F) c)) where
    pub pair_row_kept : row_at b ys (pair_row_at b c) ≡ row_at b xs (pair_row_at b c)
    unfolding partition
    pair_row_kept = pair_row_same b F G (Closure b F) (Closure b G) xs ys p q c lc (λ d. untouched_held (pair c d) out)

    pub link_row_kept : (r : ℕ) → r < roles b → row_at b ys (link_row_at b c r) ≡ row_at b xs (link_row_at b c r)
    unfolding partition
    link_row_kept r lr = link_row_same b F G (Closure b F) (Closure b G) xs ys p q c lc r lr (λ d. untouched_held (link c r d) out)

-- ---- rows of axioms

-- A change alters axioms with the left side of one of its own alone.
pub axiom_row_kept : {S T : Expression → Type 0} (b : List ℕ) (F : Axioms) (withdrawn added : List ℕ) (xs ys : List ℕ) → Marked b F S xs → Marked b (edited F withdrawn added) T ys
    → (c : ℕ) → c < concepts b → ((d : ℕ) → listed withdrawn c d ≡ false) → ((d : ℕ) → listed added c d ≡ false) → row_at b ys (axiom_row_at b c) ≡ row_at b xs (axiom_row_at b c)
axiom_row_kept {S} {T} b F withdrawn added xs ys p q c lc out not_in =
    axiom_row_same b F (edited F withdrawn added) S T xs ys p q c lc
    (λ d.
    agree (edited F withdrawn added c d) (F c d)
    (λ e. ⊎_elim (λ (f, n). f) (λ h. absurd (not-both h (not_in d))) ((edited_exact F withdrawn added c d).0 e))
    (λ f. (edited_exact F withdrawn added c d).1 (inl (f, λ h. not-both h (out d)))))
