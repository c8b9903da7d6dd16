-- Demand 1, of every public call: what it is refused for, in which order and by which number; that a refusal changes nothing; that all else is accepted.
use Rattle.std.specs.Prelude.{ℕ, ◌*◌, ◌%◌, ◌≤◌, ◌<◌, ◌≡◌, true, false, ◌⊎◌, length, Ok}
use mathlib.Core.List.{List, [], ◌∷◌, ◌++◌, Memᴰ}
use Rattle.rows.specs.Bits.{bit, place}
use Rattle.catalogue.specs.Header.{total, concepts}
use Rattle.catalogue.specs.Outcome.{Outcome, accepted, refused}
use Rattle.catalogue.specs.Checks.{catalogue_numbers, checked}
use Rattle.catalogue.specs.WellFormed.{WellFormed}
use Rattle.rules.specs.Axioms.{Axioms}
use Rattle.rules.specs.Occurrence.{Occurs}
use Rattle.layout.specs.Parts.{width, used, in_force, row_count}
use Rattle.store.specs.Work.{work_after}
use Rattle.store.specs.Written.{axiom_count, written}
use Rattle.change_contract.specs.Lists.{axioms_in, left_in, right_in, sides_in, edited}
use Rattle.lookups.specs.Listings.{Lists}
use Rattle.meaning.specs.Meaning.{KindUnder}
use Rattle.demands.specs.Sequences.{AfterCalls}
use Rattle.demands.specs.PublicCalls.{PublicCall, check, classify, change, lookup, listing, row, write, Buffers, Share, share, Returns}

-- "Refused first: a damaged catalogue, a buffer too short, a stray bit in a store, a concept number out of range, an axiom added twice or withdrawn when not
-- in force, more than 4,096 axioms, a lookup of a concept that no axiom in force uses." And of a change (document 02, request Four): "a list over 64 axioms
-- or not of whole ones", "an axiom twice in the two lists together".
pub data Fault : Type 0 where
  damaged_catalogue : Fault
  short_store : Fault
  short_work : (c : PublicCall) → Fault
  short_list : Fault
  short_output : Fault
  not_whole : (withdrawn added : List ℕ) → Fault
  twice : (list : List ℕ) → Fault
  stray_bit : Fault
  out_of_range : (names : List ℕ) → Fault
  added_twice : (added : List ℕ) → Fault
  not_in_force : (withdrawn : List ℕ) → Fault
  too_many_axioms : Fault
  no_room : (withdrawn added : List ℕ) → Fault
  unused : (names : List ℕ) → Fault

-- A list of more than 64 axioms, or not of whole ones.
abbrev pub NotWhole : List ℕ → Type 0
NotWhole list = (256 < length list) ⊎ ¬ (length list % 4 ≡ 0)

-- What each of them is, of a catalogue and the buffers lent.
abbrev pub Wrong : List ℕ → Buffers → Fault → Type 0
Wrong b u damaged_catalogue = ¬ (WellFormed b × (total b ≡ length b))
Wrong b u short_store = length u.store < used b
Wrong b u (short_work c) = length u.work < (share b c).taken
Wrong b u short_list = length u.list < 2 * concepts b
Wrong b u short_output = length u.output < length (written b (in_force b u.store))
Wrong b u (not_whole withdrawn added) = NotWhole withdrawn ⊎ NotWhole added
Wrong b u (twice list) =
    (j : ℕ) × (k : ℕ) × (j < k) × (k < axioms_in list) × (left_in list j ≡ left_in list k) × (right_in list j ≡ right_in list k)
Wrong b u stray_bit =
    (r : ℕ) × (i : ℕ) × (r < row_count b) × (concepts b ≤ i) × (i < 8 * width b) × (bit u.store (place (width b) r i) ≡ true)
Wrong b u (out_of_range names) = (c : ℕ) × Memᴰ c names × (concepts b ≤ c)
Wrong b u (added_twice added) = (k : ℕ) × (k < axioms_in added) × (in_force b u.store (left_in added k) (right_in added k) ≡ true)
Wrong b u (not_in_force withdrawn) = (k : ℕ) × (k < axioms_in withdrawn) × (in_force b u.store (left_in withdrawn k) (right_in withdrawn k) ≡ false)
Wrong b u too_many_axioms = 4096 < axiom_count b (in_force b u.store)
Wrong b u (no_room withdrawn added) = 4096 < axiom_count b (edited (in_force b u.store) withdrawn added)
Wrong b u (unused names) = (c : ℕ) × Memᴰ c names × ¬ (Occurs b (in_force b u.store) c)

-- "Each has its number": that of its question in documents 01 and 02. A damaged catalogue has that of one of the catalogue's
-- questions, 1 to 9, with the record at fault (catalogue's Checks).
abbrev pub refusal : List ℕ → Fault → Outcome
refusal b damaged_catalogue = checked b
refusal b short_store = refused 10 0
refusal b (short_work c) = refused 11 0
refusal b short_list = refused 12 0
refusal b short_output = refused 20 0
refusal b (not_whole withdrawn added) = refused 22 0
refusal b (twice list) = refused 23 0
refusal b stray_bit = refused 13 0
refusal b (out_of_range names) = refused 15 0
refusal b (added_twice added) = refused 16 0
refusal b (not_in_force withdrawn) = refused 18 0
refusal b too_many_axioms = refused 14 0
refusal b (no_room withdrawn added) = refused 17 0
refusal b (unused names) = refused 19 0

-- What a call can be refused for, in the order in which it asks (document 01, Questions; document 02, request Four).
abbrev pub read_faults : List ℕ → List Fault
read_faults names = stray_bit ∷ too_many_axioms ∷ out_of_range names ∷ unused names ∷ []

abbrev pub faults : PublicCall → List Fault
faults check = damaged_catalogue ∷ []
faults classify = damaged_catalogue ∷ short_store ∷ short_work classify ∷ []
faults (change withdrawn added) =
    damaged_catalogue ∷ short_store ∷ short_work (change withdrawn added) ∷ short_list ∷ not_whole withdrawn added ∷ twice (withdrawn ++ added) ∷ stray_bit ∷ too_many_axioms
    ∷ out_of_range (sides_in (withdrawn ++ added)) ∷ not_in_force withdrawn ∷ added_twice added ∷ no_room withdrawn added ∷ []
faults (lookup c d) = damaged_catalogue ∷ short_store ∷ read_faults (c ∷ d ∷ [])
faults (listing d) = damaged_catalogue ∷ short_store ∷ short_list ∷ read_faults (d ∷ [])
faults (row c) = damaged_catalogue ∷ short_store ∷ read_faults (c ∷ [])
faults write = damaged_catalogue ∷ short_store ∷ stray_bit ∷ too_many_axioms ∷ short_output ∷ []

-- Refused for the first of them that is there, by its number and record; accepted where none is.
pub data ByFirst (b : List ℕ) (u : Buffers) : List Fault → Outcome → Type 0 where
  none : ByFirst b u [] accepted
  here : {f : Fault} {fs : List Fault} {o : Outcome} → Wrong b u f → o ≡ refusal b f → ByFirst b u (f ∷ fs) o
  later : {f : Fault} {fs : List Fault} {o : Outcome} → ¬ (Wrong b u f) → ByFirst b u fs o → ByFirst b u (f ∷ fs) o

-- Every byte lent is as it was, save the call's share of the work space where the number is laid down to zero it.
pub record Kept (s : Share) (number : ℕ) (u v : Buffers) : Type 0 where
  pub store : v.store ≡ u.store
  pub work : v.work ≡ work_after s.zeroes s.taken number u.work
  pub list : v.list ≡ u.list
  pub output : v.output ≡ u.output

-- Demand 1 of a call that returned.
pub record RefusedFirst (b : List ℕ) (u : Buffers) (c : PublicCall) (o : Outcome) (v : Buffers) : Type 0 where
  -- "Refused first: .. Each has its number."
  pub by_first : ByFirst b u (faults c) o
  pub each : (before after : List Fault) (f : Fault) → faults c ≡ before ++ (f ∷ after) → ((g : Fault) → Memᴰ g before → ¬ (Wrong b u g)) → Wrong b u f
      → o ≡ refusal b f
  pub damaged : Wrong b u damaged_catalogue → (number : ℕ) × (at : ℕ) × (o ≡ refused number at) × Memᴰ number catalogue_numbers
  -- "And a refused call changes no byte it was lent, save work space where its number is laid down to zero it."
  pub keeps : (number at : ℕ) → o ≡ refused number at → Kept (share b c) number u v
  -- "All else is accepted, ends, and answers."
  pub all_else : ((f : Fault) → Memᴰ f (faults c) → ¬ (Wrong b u f)) → o ≡ accepted

-- An empty list: no kind that occurs lies under d.
abbrev pub EmptyTold : List ℕ → Axioms → List ℕ → Type 0
EmptyTold b F store = (d : ℕ) (list after : List ℕ) → Lists b d store list (Ok 0) after → (c : ℕ) → ¬ (KindUnder b F d c)

-- Demand 1.
pub record DemandOne : Type 0 where
  pub calls : (b : List ℕ) (u : Buffers) (c : PublicCall) (o : Outcome) (v : Buffers) → Returns b u c o v → RefusedFirst b u c o v
  -- "From a store as in demand 3, an empty list comes only when no kind that occurs meets the wish."
  pub empty_list : AfterCalls EmptyTold
