-- What the worked examples say of the calls classify, change, listing and write: of every exit that the contract allows.
use Rattle.std.specs.Prelude.{ℕ, ◌≤◌, ◌≡◌, List, ◌++◌, length, take, drop, Result, Ok, Err}
use Rattle.catalogue.specs.declared.checks.Refusal.{Refusal}
use Rattle.catalogue.specs.Verdicts.{refusal}
use Rattle.rules.specs.Axioms.{Axioms}
use Rattle.store.specs.Fresh.{Fresh}
use Rattle.classification.specs.Classified.{Classifies, classified}
use Rattle.classification.specs.declared.Classified.{Classified}
use Rattle.change_contract.specs.Edits.{Lent, Edits}
use Rattle.change_contract.specs.declared.Changed.{Changed}
use Rattle.lookups.specs.Listings.{Lists}
use Rattle.writing.specs.Write.{Writes}

-- Classify, lent a store and a work space of these lengths or more, whatever they hold, answers these counts and leaves these bytes in the
-- store's used part.
abbrev pub ClassifyGives : (b : List ℕ) (store_length work_length pairs links : ℕ) (part : List ℕ) → Type 0
ClassifyGives b store_length work_length pairs links part =
    (store work : List ℕ) (answer : Result Classified Refusal) (store' work' : List ℕ)
    → Classifies b store work answer store' work'
    → store_length ≤ length store
    → work_length ≤ length work
    → (answer ≡ Ok (classified pairs links)) × (take store_length store' ≡ part)

-- Classify refuses by this number and record, whatever it is lent, and every buffer keeps its bytes.
abbrev pub ClassifyRefuses : (b : List ℕ) (number at : ℕ) → Type 0
ClassifyRefuses b number at =
    (store work : List ℕ) (answer : Result Classified Refusal) (store' work' : List ℕ)
    → Classifies b store work answer store' work'
    → (answer ≡ Err (refusal number at)) × (store' ≡ store) × (work' ≡ work)

-- A change that withdraws the axioms of `withdrawn` and adds those of `added`, lent a store that is classified afresh from F, and a work space and a list of these
-- lengths or more: it answers these counts, leaves these bytes in front of the list, where the others stay, and the store classified afresh from G.
abbrev pub ChangeGives : (b withdrawn added : List ℕ) (F G : Axioms) (work_length list_length : ℕ) (given : Changed) (front : List ℕ) → Type 0
ChangeGives b withdrawn added F G work_length list_length given front =
    (u : Lent) (answer : Result Changed Refusal) (v : Lent)
    → Edits b withdrawn added u answer v
    → Fresh b F u.store
    → work_length ≤ length u.work
    → list_length ≤ length u.list
    → (answer ≡ Ok given) × Fresh b G v.store × (v.list ≡ front ++ drop (length front) u.list)

-- Listing under D, lent a list of this length or more, answers this count and leaves these bytes in front of the list; the others stay.
abbrev pub ListingGives : (b : List ℕ) (d : ℕ) (store : List ℕ) (list_length count : ℕ) (front : List ℕ) → Type 0
ListingGives b d store list_length count front =
    (list : List ℕ) (answer : Result ℕ Refusal) (list' : List ℕ)
    → Lists b d store list answer list'
    → list_length ≤ length list
    → (answer ≡ Ok count) × (list' ≡ front ++ drop (length front) list)

-- Write, lent an output of this length or more, answers the length and leaves this catalogue in front of the output; the other bytes stay.
abbrev pub WriteGives : (b store : List ℕ) (long : ℕ) (catalogue : List ℕ) → Type 0
WriteGives b store long catalogue =
    (output : List ℕ) (answer : Result ℕ Refusal) (output' : List ℕ)
    → Writes b store output answer output'
    → long ≤ length output
    → (answer ≡ Ok long) × (output' ≡ catalogue ++ drop long output)
