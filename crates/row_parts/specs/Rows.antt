-- A concept's row: the answer, and the part of the caller's own store that is handed out (document 01, Store; Which shape goes where).
use Rattle.std.specs.Prelude.{ℕ, ◌+◌, ◌≤◌, ◌≡◌, List, [], ◌∷◌, length, take, drop, Result, Ok, Err}
use Rattle.std.specs.Borrow.{Bor}
use Rattle.catalogue.specs.Outcome.{Outcome, accepted, refused}
use Rattle.catalogue.specs.Verdicts.{refusal}
use Rattle.catalogue.specs.declared.checks.Refusal.{Refusal}
use Rattle.layout.specs.Parts.{width, pair_row_at}
use Rattle.read_checks.specs.Checks.{read_checks}
use Rattle.row_parts.specs.declared.Place.{Place}

-- The place with an offset and a size.
abbrev pub placed : (offset size : ℕ) → Place
placed o w = record { offset = o; width = w }

-- `Ok (placed o w)`: every question is answered yes, and the row stands from byte o of the store, w bytes long.
-- `Err e`: question `e.number` is answered no, and record `e.at` is at fault (0 where none is named).
abbrev pub row_outcome : Result Place Refusal → Outcome
row_outcome (Ok p) = accepted
row_outcome (Err e) = refused e.number e.at

-- The answer by the outcome of the questions.
abbrev pub handed : Outcome → (offset size : ℕ) → Result Place Refusal
handed accepted offset size = Ok (placed offset size)
handed (refused number at) offset size = Err (refusal number at)

-- The answer to a row asked for.
unfoldable pub row_answer : (b : List ℕ) (c : ℕ) (store : List ℕ) → Result Place Refusal
row_answer b c store = handed (read_checks b (c ∷ []) store) (pair_row_at b c) (width b)

-- A slice is the part of another from a byte on, so many bytes long: it points into the same memory, and has the same bytes.
pub record PartOf (whole : Bor (List ℕ)) (offset size : ℕ) (part : Bor (List ℕ)) : Type 0 where
  pub place : part.ref_ptr ≡ (whole.ref_ptr.0, whole.ref_ptr.1 + offset)
  pub bytes : part.now ≡ take size (drop offset whole.now)

-- The row that an answer names lies in the store.
abbrev pub Within : List ℕ → Result Place Refusal → Type 0
Within store answer = (offset size : ℕ) → answer ≡ Ok (placed offset size) → offset + size ≤ length store

-- The part that an answer names: the row where it stands in the store; refused, the empty part.
pub record Names (store : Bor (List ℕ)) (answer : Result Place Refusal) (part : Bor (List ℕ)) : Type 0 where
  pub accepts : (offset size : ℕ) → answer ≡ Ok (placed offset size) → PartOf store offset size part
  pub refuses : (number at : ℕ) → answer ≡ Err (refusal number at) → part.now ≡ []

-- The part handed out: accepted, the concept's pair row where it stands in the caller's store; refused, the empty part. Where an empty part
-- points is free.
pub record HandsOut (b : List ℕ) (c : ℕ) (store part : Bor (List ℕ)) : Type 0 where
  pub accepts : read_checks b (c ∷ []) store.now ≡ accepted → PartOf store (pair_row_at b c) (width b) part
  pub refuses : (number at : ℕ) → read_checks b (c ∷ []) store.now ≡ refused number at → part.now ≡ []
