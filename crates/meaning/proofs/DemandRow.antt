-- Demands 1 and 2 of a row: from a store classified afresh its bits say where the concept lies under each that occurs.
use Prim.Native.Nat.{ℕ, ◌*◌, ◌≤◌, ◌<◌}
use native.Mathlib.Decide.{dec_lt}
use native.Mathlib.Omega.{arith}
use mathlib.Core.Path.{◌≡◌, sym, ap, ◌∙◌}
use mathlib.Core.Bool.{Bool, false}
use mathlib.Core.List.{List, [], ◌∷◌}
use lib.Dec.{ltb}
use lib.ListN.{length, drop, length-take}
use denote.Ref.{Bor}
use borrow.Author.Tests.{ltb-true, lt-ltb}
use Rattle.std.proofs.Common.{Result, Ok, Err}
use Rattle.row_parts.specs.declared.Place.{Place}
use Rattle.catalogue.specs.declared.checks.Refusal.{Refusal}
use Rattle.catalogue.specs.Verdicts.{refusal}
use Rattle.catalogue.specs.Header.{concepts}
use Rattle.catalogue.specs.Outcome.{Outcome, accepted, refused}
use Rattle.catalogue.specs.Checks.{checked}
use Rattle.catalogue.specs.WellFormed.{WellFormed}
use Rattle.catalogue.proofs.Outcomes.{ask_yes, ask_no}
use Rattle.catalogue.proofs.Accepted.{accepted_well_formed}
use Rattle.booleans.proofs.Booleans.{by_bool, not-both, not_true_false}
use Rattle.rows.specs.Bits.{bit}
use Rattle.rows.proofs.Bits.{bit_past}
use Rattle.rules.specs.Axioms.{Axioms, InRange}
use Rattle.rules.specs.Occurrence.{Occurs, occurs}
use Rattle.rules.specs.Rules.{pair}
use Rattle.rules.proofs.Bounds.{closure_named}
use Rattle.rules.proofs.Occurrence.{occurs_exact, occurs_below}
use Rattle.layout.specs.Parts.{width, pair_row_at, row_at, held}
use Rattle.store.specs.Fresh.{Fresh}
use Rattle.store.specs.Written.{axiom_count}
use Rattle.layout.proofs.StoreSizes.{width_fits}
use Rattle.layout.proofs.StoreRows.{pair_row_bit}
use Rattle.store.specs.Checks.{every, ask_numbers}
use Rattle.read_checks.specs.Checks.{ask_occurs, read_checks}
use Rattle.row_parts.specs.Rows.{row_answer, HandsOut, placed}
use Rattle.meaning.specs.Meaning.{RowMeans}
use Rattle.store.proofs.Checks.{every_one}
use Rattle.store.proofs.Says.{says_pair}
use Rattle.row_parts.proofs.Answered.{row_accepted, row_refused}
use Rattle.meaning.proofs.DemandLookup.{read_asks, meant}

-- ---- two answers are not one

pub row_not_refused : {r : Result Place Refusal} {offset size number at : ℕ} → r ≡ Ok (placed offset size) → r ≡ Err (refusal number at) → ⊥
row_not_refused e f = let z : ◌≡◌ {A = ℕ} 0 1 = cc in omega arith

pub one_number : {r : Result Place Refusal} → r ≡ Err (refusal 19 0) → r ≡ Err (refusal 15 0) → ⊥
one_number e f =
    let h : refusal 19 0 ≡ refusal 15 0 = cc in
    let z : ◌≡◌ {A = ℕ} 19 15 = ap (λ (x : Refusal). x.number) h in
    omega arith

empty_clear : {part : List ℕ} → part ≡ [] → (d : ℕ) → bit part d ≡ false
empty_clear {part} e d = bit_past part d (omega (arith, ap (λ (xs : List ℕ). length xs) e))

-- ---- one concept named

-- Accepted where it occurs, refused by 19 where it is a concept and does not, and by 15 where it is none.
pub data NamedOne (b : List ℕ) (F : ℕ → ℕ → Bool) (c : ℕ) (o : Outcome) : Type 0 where
  occurring : o ≡ accepted → Occurs b F c → NamedOne b F c o
  missing : o ≡ refused 19 0 → c < concepts b → ¬ (Occurs b F c) → NamedOne b F c o
  outside : o ≡ refused 15 0 → ¬ (c < concepts b) → NamedOne b F c o

pub one_named : (b : List ℕ) (F : Axioms) (store : List ℕ) → checked b ≡ accepted → InRange b F → axiom_count b F ≤ 4096 → Fresh b F store
    → (c : ℕ) → NamedOne b F c (read_checks b (c ∷ []) store)
unfolding ask_numbers ask_occurs
one_named b F store catalogue range few fresh c =
    let asks = read_asks b F store catalogue range few fresh (c ∷ []) in
    let number : every (λ x. ltb x (concepts b)) (c ∷ []) ≡ ltb c (concepts b) = every_one (λ x. ltb x (concepts b)) c in
    let mark : every (occurs b F) (c ∷ []) ≡ occurs b F c = every_one (occurs b F) c in
    let exact = occurs_exact b F (accepted_well_formed catalogue) range c in
    by_bool (ltb c (concepts b))
    (λ l.
    by_bool (occurs b F c)
    (λ o. occurring (asks ∙ ask_yes 15 0 _ (number ∙ l) ∙ ask_yes 19 0 _ (mark ∙ o)) (exact.0 o))
    (λ n. missing (asks ∙ ask_yes 15 0 _ (number ∙ l) ∙ ask_no 19 0 _ (mark ∙ n)) (ltb-true c (concepts b) l) (λ o. not-both (exact.1 o) n)))
    (λ g. outside (asks ∙ ask_no 15 0 _ (number ∙ g)) (λ l. not-both (lt-ltb c (concepts b) l) g))

-- ---- a row of a fresh store

module _ (b : List ℕ) (F : Axioms) (store : Bor (List ℕ)) (catalogue : checked b ≡ accepted) (range : InRange b F) (few : axiom_count b F ≤ 4096) (fresh : Fresh b F store.now)
    (c : ℕ) (part : Bor (List ℕ)) (answer : Result Place Refusal)
    (h : HandsOut b c store part)
    (a : answer ≡ row_answer b c store.now)
  where
    wf : WellFormed b
    wf = accepted_well_formed catalogue

    below : (d : ℕ) → Occurs b F d → d < concepts b
    below d o = occurs_below b F wf range d o

    -- A bit of the part handed out says what the store holds of the concept, and one past it is clear.
    bit_is : read_checks b (c ∷ []) store.now ≡ accepted → c < concepts b → (d : ℕ) → d < 8 * width b → bit part.now d ≡ held b store.now (pair c d)
    unfolding row_at pair_row_at
    bit_is e l d ld = ap (λ (xs : List ℕ). bit xs d) (h.accepts e).bytes ∙ pair_row_bit b store.now c d l ld

    bit_clear : read_checks b (c ∷ []) store.now ≡ accepted → c < concepts b → (d : ℕ) → ¬ (Occurs b F d) → bit part.now d ≡ false
    bit_clear e l d n =
        elim (dec_lt d (8 * width b)) [
          | yes ld ↦
              bit_is e l d ld
              ∙ not_true_false (held b store.now (pair c d))
              (λ t. n (closure_named b F wf range c 0 d ((fresh.set (pair c d)).0 t)).1)
          | no g ↦
              let long : length part.now ≤ width b =
              omega (arith, ap (λ (xs : List ℕ). length xs) (h.accepts e).bytes, length-take (width b) (drop (pair_row_at b c) store.now))
              in
              bit_past part.now d (omega arith)
        ]

    handed_out : read_checks b (c ∷ []) store.now ≡ accepted → Occurs b F c → RowMeans b F c answer part.now
    handed_out e o =
        let is : answer ≡ Ok (placed (pair_row_at b c) (width b)) = a ∙ row_accepted b c store.now e in
        record {
          hands_out = (λ _. o, λ _. is);
          bits = λ _ d p.
              let m = meant b F store.now catalogue range few fresh c d o p in
              let i = bit_is e (below c o) d (omega (arith, below d p, width_fits b)) ∙ sym (says_pair b store.now c d) in
              ((λ t. m.0.0 (sym i ∙ t), λ n. i ∙ m.0.1 n), (λ t. m.1.0 (sym i ∙ t), λ n. i ∙ m.1.1 n));
          others = bit_clear e (below c o);
          absent = (λ q. absurd (row_not_refused is q), λ (_, n). absurd (n o));
          outside = (λ q. absurd (row_not_refused is q), λ n. absurd (n (below c o)));
          empty = λ n. absurd (n o);
        }

    refused_absent : read_checks b (c ∷ []) store.now ≡ refused 19 0 → c < concepts b → ¬ (Occurs b F c)
        → RowMeans b F c answer part.now
    refused_absent e l n =
        let is : answer ≡ Err (refusal 19 0) = a ∙ row_refused b c store.now e in
        record {
          hands_out = (λ q. absurd (row_not_refused q is), λ o. absurd (n o));
          bits = λ o. absurd (n o);
          others = λ d _. empty_clear (h.refuses 19 0 e) d;
          absent = (λ _. (l, n), λ _. is);
          outside = (λ q. absurd (one_number is q), λ m. absurd (m l));
          empty = λ _. h.refuses 19 0 e;
        }

    refused_outside : read_checks b (c ∷ []) store.now ≡ refused 15 0 → ¬ (c < concepts b) → RowMeans b F c answer part.now
    refused_outside e m =
        let is : answer ≡ Err (refusal 15 0) = a ∙ row_refused b c store.now e in
        let n : ¬ (Occurs b F c) = λ o. m (below c o) in
        record {
          hands_out = (λ q. absurd (row_not_refused q is), λ o. absurd (n o));
          bits = λ o. absurd (n o);
          others = λ d _. empty_clear (h.refuses 15 0 e) d;
          absent = (λ q. absurd (one_number q is), λ (l, _). absurd (m l));
          outside = (λ _. m, λ _. is);
          empty = λ _. h.refuses 15 0 e;
        }

    -- Demands 1 and 2 of a row from a fresh store: what its bits mean, and its refusals.
    pub row_means : RowMeans b F c answer part.now
    row_means = go (one_named b F store.now catalogue range few fresh c)
      where
        go : NamedOne b F c (read_checks b (c ∷ []) store.now) → RowMeans b F c answer part.now
        go (occurring e o) = handed_out e o
        go (missing e l n) = refused_absent e l n
        go (outside e m) = refused_outside e m
