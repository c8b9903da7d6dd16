-- The public calls (document 01, What it covers; document 02, request Four) and check, as one family: each met its own contract, answered an outcome, and
-- left its buffers in some state.
use Rattle.std.specs.Prelude.{ℕ, ◌≡◌, Bool, List, Result}
use Rattle.std.specs.Borrow.{Bor}
use Rattle.catalogue.specs.declared.checks.Refusal.{Refusal}
use Rattle.catalogue.specs.Outcome.{Outcome}
use Rattle.layout.specs.Parts.{work_used}
use Rattle.store.specs.Work.{at_none}
use Rattle.classification.specs.Classified.{Classifies, outcome_of as classifyOutcome}
use Rattle.classification.specs.declared.Classified.{Classified}
use Rattle.change_contract.specs.Answers.{outcome_of as changeOutcome}
use Rattle.change_contract.specs.Edits.{Lent, lend, Edits}
use Rattle.change_contract.specs.declared.Changed.{Changed}
use Rattle.writing.specs.Write.{Writes, outcome_of as writeOutcome}
use Rattle.buffer_sizes.specs.Sizes.{Measures, outcome_of as checkOutcome}
use Rattle.buffer_sizes.specs.declared.Sizes.{Sizes}
use Rattle.lookups.specs.Answers.{looked_up, lookup_outcome}
use Rattle.lookups.specs.Listings.{Lists, list_outcome}
use Rattle.row_parts.specs.declared.Place.{Place}
use Rattle.row_parts.specs.Rows.{row_answer, HandsOut, row_outcome}

-- Check the catalogue, and say what it asks for; classify; withdraw the axioms of `withdrawn` and add those of `added`; look up (c, d); list the atomic kinds under
-- d; hand out the row of c; write the current catalogue.
pub data PublicCall : Type 0 where
  check : PublicCall
  classify : PublicCall
  change : (withdrawn added : List ℕ) → PublicCall
  lookup : (c d : ℕ) → PublicCall
  listing : (d : ℕ) → PublicCall
  row : (c : ℕ) → PublicCall
  write : PublicCall

-- ---- the buffers

-- Those that a call may be lent: store, work space, the list of a change or of a listing, and an output.
pub record Buffers : Type 0 where
  pub store : List ℕ
  pub work : List ℕ
  pub list : List ℕ
  pub output : List ℕ

abbrev pub buffers : (store work list output : List ℕ) → Buffers
buffers store work list output = record { store = store; work = work; list = list; output = output }

-- Those of a change, which is lent no output.
abbrev pub lent_of : Buffers → Lent
lent_of u = lend u.store u.work u.list

-- A call's share of the work space: how many bytes it takes, and the numbers at which a refusal leaves these zero.
pub record Share : Type 0 where
  pub taken : ℕ
  pub zeroes : ℕ → Bool

abbrev pub takes : List ℕ → PublicCall → ℕ
takes b check = 0
takes b classify = work_used b
takes b (change withdrawn added) = work_used b
takes b (lookup c d) = 0
takes b (listing d) = 0
takes b (row c) = 0
takes b write = 0

-- No number is laid down to zero it today.
abbrev pub share : List ℕ → PublicCall → Share
share b c = record { taken = takes b c; zeroes = at_none }

-- ---- a call that returned

-- With catalogue b a call was lent u, met its contract, answered an outcome, and left v. A buffer that a call is not lent, or is lent for reading only, is
-- the same in v.
pub data Returns (b : List ℕ) (u : Buffers) : PublicCall → Outcome → Buffers → Type 0 where
  measures : {a : Result Sizes Refusal} → Measures b a → Returns b u check (checkOutcome a) u
  classifies : {a : Result Classified Refusal} {store work : List ℕ} → Classifies b u.store u.work a store work
      → Returns b u classify (classifyOutcome a) (buffers store work u.list u.output)
  changes : {withdrawn added : List ℕ} {a : Result Changed Refusal} {v : Lent} → Edits b withdrawn added (lent_of u) a v
      → Returns b u (change withdrawn added) (changeOutcome a) (buffers v.store v.work v.list u.output)
  looks_up : {c d : ℕ} {a : Result Bool Refusal} → a ≡ looked_up b c d u.store → Returns b u (lookup c d) (lookup_outcome a) u
  lists : {d : ℕ} {a : Result ℕ Refusal} {list : List ℕ} → Lists b d u.store u.list a list
      → Returns b u (listing d) (list_outcome a) (buffers u.store u.work list u.output)
  hands_out : {c : ℕ} {a : Result Place Refusal} (store part : Bor (List ℕ)) → store.now ≡ u.store → HandsOut b c store part → a ≡ row_answer b c store.now
      → Returns b u (row c) (row_outcome a) u
  writes : {a : Result ℕ Refusal} {output : List ℕ} → Writes b u.store u.output a output
      → Returns b u write (writeOutcome a) (buffers u.store u.work u.list output)
