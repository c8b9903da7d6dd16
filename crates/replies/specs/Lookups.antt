-- What girvotal_lookup, girvotal_list and girvotal_row answer and leave, by the calls' own definitions.
use Rattle.std.specs.Prelude.{ℕ, ◌≡◌, Bool, true, false, List, Result, Ok, Err}
use Rattle.catalogue.specs.declared.checks.Refusal.{Refusal}
use Rattle.row_parts.specs.declared.Place.{Place}
use Rattle.lookups.specs.Answers.{looked_up}
use Rattle.lookups.specs.Listings.{Lists}
use Rattle.row_parts.specs.Rows.{row_answer}
use Rattle.replies.specs.Answers.{Reply, four, Exported}

-- 1 for yes or 0 for no, 0, 0, 0.
abbrev pub lookup_reply : Result Bool Refusal → Reply
lookup_reply (Ok true) = Ok (four 1 0 0 0)
lookup_reply (Ok false) = Ok (four 0 0 0 0)
lookup_reply (Err e) = Err e

-- No buffer but the answer is lent to be written.
abbrev pub LookupExported : (b : List ℕ) (c d : ℕ) (store answer : List ℕ) (r : ℕ) (answer' : List ℕ) → Type 0
LookupExported b c d store answer r answer' = Exported (λ (call : Result Bool Refusal) (none : Unit {0}). call ≡ looked_up b c d store) lookup_reply tt answer r tt answer'

-- The count, 0, 0, 0.
abbrev pub list_reply : Result ℕ Refusal → Reply
list_reply (Ok count) = Ok (four count 0 0 0)
list_reply (Err e) = Err e

-- The buffer lent is the list.
abbrev pub ListExported : (b : List ℕ) (d : ℕ) (store list answer : List ℕ) (r : ℕ) (list' answer' : List ℕ) → Type 0
ListExported b d store list answer r list' answer' = Exported (Lists b d store list) list_reply list answer r list' answer'

-- The offset of the part in the store, its width, 0, 0.
abbrev pub row_reply : Result Place Refusal → Reply
row_reply (Ok p) = Ok (four p.offset p.width 0 0)
row_reply (Err e) = Err e

-- No buffer but the answer is lent to be written.
abbrev pub RowExported : (b : List ℕ) (c : ℕ) (store answer : List ℕ) (r : ℕ) (answer' : List ℕ) → Type 0
RowExported b c store answer r answer' = Exported (λ (call : Result Place Refusal) (none : Unit {0}). call ≡ row_answer b c store) row_reply tt answer r tt answer'
