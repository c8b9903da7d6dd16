-- Answers from outcomes and back: what a row asked for is answered where its questions accept or refuse, and the part that an answer names.
use Prim.Native.Nat.{ℕ, ◌+◌, ◌-◌}
use native.Mathlib.Omega.{arith}
use mathlib.Core.Path.{◌≡◌, refl, sym, ap, ap₂, ◌∙◌}
use mathlib.Core.List.{List, [], ◌∷◌}
use lib.ListN.{take, drop}
use denote.Ref.{Bor}
use Rattle.std.proofs.Common.{Result, Ok, Err}
use Rattle.catalogue.specs.Outcome.{Outcome, accepted, refused}
use Rattle.catalogue.specs.Verdicts.{refusal}
use Rattle.catalogue.specs.declared.checks.Refusal.{Refusal}
use Rattle.layout.specs.Parts.{width, pair_row_at}
use Rattle.layout.proofs.Offsets.{row_in_store}
use Rattle.read_checks.specs.Checks.{read_checks}
use Rattle.read_checks.proofs.Acceptance.{read_named, named_one}
use Rattle.row_parts.specs.Rows.{placed, handed, row_answer, Within, Names, HandsOut}
use Rattle.row_parts.specs.declared.Place.{Place}

-- ---- the answer

pub row_accepted : (b : List ℕ) (c : ℕ) (store : List ℕ) → read_checks b (c ∷ []) store ≡ accepted → row_answer b c store ≡ Ok (placed (pair_row_at b c) (width b))
unfolding row_answer
row_accepted b c store e = ap (λ o. handed o (pair_row_at b c) (width b)) e

pub row_refused : (b : List ℕ) (c : ℕ) (store : List ℕ) {number at : ℕ} → read_checks b (c ∷ []) store ≡ refused number at → row_answer b c store ≡ Err (refusal number at)
unfolding row_answer
row_refused b c store e = ap (λ o. handed o (pair_row_at b c) (width b)) e

handed_row : (o : Outcome) (p w offset size : ℕ) → Ok (placed offset size) ≡ handed o p w → (o ≡ accepted) × (offset ≡ p) × (size ≡ w)
handed_row accepted p w offset size e =
    let h : placed offset size ≡ placed p w = cc in
    (refl, ap (λ (q : Place). q.offset) h, ap (λ (q : Place). q.width) h)
handed_row (refused number at) p w offset size e = let z : ◌≡◌ {A = ℕ} 0 1 = cc in absurd (let n : ⊥ = omega arith in n)

pub row_answered : (b : List ℕ) (c : ℕ) (store : List ℕ) (offset size : ℕ) → Ok (placed offset size) ≡ row_answer b c store → (read_checks b (c ∷ []) store ≡ accepted) × (offset ≡ pair_row_at b c) × (size ≡ width b)
unfolding row_answer
row_answered b c store offset size e = handed_row (read_checks b (c ∷ []) store) (pair_row_at b c) (width b) offset size e

-- ---- the part handed out

-- What stands in the store where the answer says, and the empty part of a refusal.
pub names_part : (store part : Bor (List ℕ)) (answer : Result Place Refusal) (offset size : ℕ) → answer ≡ Ok (placed offset size) → part.ref_ptr ≡ (store.ref_ptr.0, offset + store.ref_ptr.1) → part.now ≡ take ((offset + size) - offset) (drop offset store.now) → Names store answer part
names_part store part answer offset size is place bytes =
    record {
      accepts = λ o w e.
          let h : placed o w ≡ placed offset size = cc in
          let p : o ≡ offset = ap (λ (q : Place). q.offset) h in
          let z : w ≡ size = ap (λ (q : Place). q.width) h in
          record {
            place = place ∙ ap (λ (k : ℕ). (store.ref_ptr.0, k)) (let y : offset + store.ref_ptr.1 ≡ store.ref_ptr.1 + o = omega (arith, p) in y);
            bytes = bytes ∙ ap₂ (λ (s k : ℕ). take s (drop k store.now)) (let y : (offset + size) - offset ≡ w = omega (arith, z) in y) (sym p);
          };
      refuses = λ number at e. let z : ◌≡◌ {A = ℕ} 0 1 = cc in absurd (let n : ⊥ = omega arith in n);
    }

pub names_empty : (store part : Bor (List ℕ)) (answer : Result Place Refusal) (number at : ℕ) → answer ≡ Err (refusal number at) → part.now ≡ [] → Names store answer part
names_empty store part answer number at is empty =
    record {
      accepts = λ o w e. let z : ◌≡◌ {A = ℕ} 0 1 = cc in absurd (let n : ⊥ = omega arith in n);
      refuses = λ _ _ _. empty;
    }

-- The row that the answer names lies in the store, and the part that it names is the one handed out.
pub answer_within : (b : List ℕ) (c : ℕ) (store : List ℕ) (answer : Result Place Refusal) → answer ≡ row_answer b c store → Within store answer
answer_within b c store answer a offset size is =
    let (e, o, w) = row_answered b c store offset size (sym is ∙ a) in
    let m = read_named _ _ _ e in
    omega (arith, o, w, row_in_store _ _ _ m.clear.sized (named_one _ _ _ m))

pub names_handed : (b : List ℕ) (c : ℕ) (store part : Bor (List ℕ)) (answer : Result Place Refusal) → answer ≡ row_answer b c store.now → Names store answer part → HandsOut b c store part
names_handed b c store part answer a n =
    record {
      accepts = λ e. n.accepts (pair_row_at b c) (width b) (a ∙ row_accepted b c store.now e);
      refuses = λ number at e. n.refuses number at (a ∙ row_refused b c store.now e);
    }
