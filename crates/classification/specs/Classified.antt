-- Classify (document 01, Questions and Edits in a row): what it asks, what it answers, and what it leaves in the buffers that it is lent.
use Rattle.std.specs.Prelude.{ℕ, ◌≡◌, List, length, drop, replicate, Result, Ok, Err}
use Rattle.catalogue.specs.declared.checks.Refusal.{Refusal}
use Rattle.catalogue.specs.Outcome.{Outcome, accepted, refused}
use Rattle.catalogue.specs.Checks.{catalogue_checks}
use Rattle.catalogue.specs.WellFormed.{WellFormed}
use Rattle.rules.specs.Axioms.{catalogue_axioms}
use Rattle.rules.specs.Rules.{Closure}
use Rattle.rules.specs.Counts.{Size, Pairs, Links}
use Rattle.layout.specs.Parts.{used, work_used}
use Rattle.store.specs.Fresh.{Fresh}
use Rattle.store.specs.Checks.{ask_store, ask_work}
use Rattle.store.specs.Work.{zeroed, work_after, at_none}
use Rattle.classification.specs.declared.Classified.{Classified}

-- Questions 1 to 11 in order, of a catalogue and of a store and a work space of these lengths.
unfoldable pub classify_checks : List ℕ → (store_length work_length : ℕ) → Outcome
classify_checks b store_length work_length = catalogue_checks b (ask_store b store_length (ask_work b work_length accepted))

-- The counts of a store: p pairs and l links.
abbrev pub classified : (p l : ℕ) → Classified
classified p l = record { pairs = p; links = l }

-- `Ok c`: every question is answered yes; c has the counts. `Err e`: question `e.number` is answered no, and record `e.at` is at fault (0 where none is
-- named).
abbrev pub outcome_of : Result Classified Refusal → Outcome
outcome_of (Ok c) = accepted
outcome_of (Err e) = refused e.number e.at

abbrev pub pairs_of : Result Classified Refusal → ℕ
pairs_of (Ok c) = c.pairs
pairs_of (Err e) = 0

abbrev pub links_of : Result Classified Refusal → ℕ
links_of (Ok c) = c.links
links_of (Err e) = 0

-- Refused: number and record are answered, and every buffer keeps its bytes.
pub record Refuses (b : List ℕ) (number at : ℕ) (store work : List ℕ) (answer : Result Classified Refusal) (store' work' : List ℕ) : Type 0 where
  pub answers : outcome_of answer ≡ refused number at
  pub store_kept : store' ≡ store
  pub work_kept : work' ≡ work_after at_none (work_used b) number work

-- Accepted: the store is classified afresh from the catalogue's axioms, whatever it held, and the work space is zero; the bytes past their used parts
-- are kept. The answer holds the counts of pairs and of links.
pub record Accepts (b store work : List ℕ) (answer : Result Classified Refusal) (store' work' : List ℕ) : Type 0 where
  pub answers : outcome_of answer ≡ accepted
  pub pairs_counted : Size b (Pairs (Closure b (catalogue_axioms b))) (pairs_of answer)
  pub links_counted : Size b (Links (Closure b (catalogue_axioms b))) (links_of answer)
  pub fresh : Fresh b (catalogue_axioms b) store'
  pub store_rest : drop (used b) store' ≡ drop (used b) store
  pub work_zero : work' ≡ zeroed (work_used b) work

-- The same on used parts alone: what a store and a work space of just these lengths hold.
pub record UsedParts (b store work : List ℕ) : Type 0 where
  pub well_formed : WellFormed b
  pub store_long : length store ≡ used b
  pub work_long : length work ≡ work_used b

pub record Classifying (b : List ℕ) (counts : Classified) (store work : List ℕ) : Type 0 where
  pub pairs_counted : Size b (Pairs (Closure b (catalogue_axioms b))) counts.pairs
  pub links_counted : Size b (Links (Closure b (catalogue_axioms b))) counts.links
  pub fresh : Fresh b (catalogue_axioms b) store
  pub work_zero : work ≡ replicate (work_used b) 0

-- Classify.
pub record Classifies (b store work : List ℕ) (answer : Result Classified Refusal) (store' work' : List ℕ) : Type 0 where
  pub refuses : (number at : ℕ) → classify_checks b (length store) (length work) ≡ refused number at → Refuses b number at store work answer store' work'
  pub accepts : classify_checks b (length store) (length work) ≡ accepted → Accepts b store work answer store' work'
