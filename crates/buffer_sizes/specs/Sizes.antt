-- How many bytes a catalogue asks for (document 01, Store: n·w·(m + 2) and n·w·(m + 1); question 12: 2·n), and the most that write gives.
use Rattle.std.specs.Prelude.{ℕ, ◌+◌, ◌*◌, min, ◌≡◌, List, Result, Ok, Err}
use Rattle.catalogue.specs.Header.{concepts, axioms_at}
use Rattle.catalogue.specs.Outcome.{Outcome, accepted, refused}
use Rattle.catalogue.specs.Checks.{checked}
use Rattle.catalogue.specs.Verdicts.{refusal}
use Rattle.catalogue.specs.declared.checks.Refusal.{Refusal}
use Rattle.layout.specs.Parts.{used, work_used}
use Rattle.buffer_sizes.specs.declared.Sizes.{Sizes}

-- The most axioms that n concepts can have in force: one for each left and right side, and at most 4,096.
unfoldable pub most_axioms : ℕ → ℕ
most_axioms n = min (n * n) 4096

-- The most bytes that write gives: those before the axioms, and four for each axiom.
unfoldable pub most_written : List ℕ → ℕ
most_written b = axioms_at b + 4 * most_axioms (concepts b)

-- The sizes with four numbers.
abbrev pub needed : (store work list output : ℕ) → Sizes
needed s w l o = record { store = s; work = w; list = l; output = o }

-- `Ok s`: questions 1 to 9 are answered yes; s has the bytes that a store, a work space and a list take, and the most that write gives.
-- `Err e`: question `e.number` is answered no, and record `e.at` is at fault (0 where none is named).
abbrev pub outcome_of : Result Sizes Refusal → Outcome
outcome_of (Ok s) = accepted
outcome_of (Err e) = refused e.number e.at

-- The answer by the outcome of questions 1 to 9.
abbrev pub sizes_of : List ℕ → Outcome → Result Sizes Refusal
sizes_of b accepted = Ok (needed (used b) (work_used b) (2 * concepts b) (most_written b))
sizes_of b (refused number at) = Err (refusal number at)

-- What is answered.
abbrev pub Measures : List ℕ → Result Sizes Refusal → Type 0
Measures b r = r ≡ sizes_of b (checked b)
