-- What an edit answers: each case with the paper's number and values.
use Rattle.std.specs.Prelude.{ℕ, Result, Ok, Err}
use Rattle.catalogue.specs.Outcome.{Outcome, accepted, refused}
use Rattle.catalogue.specs.declared.checks.Refusal.{Refusal}
use Rattle.change_contract.specs.declared.Changed.{Changed}

-- The counts of an edit: d expressions are removed (over-deleted), r of them returned, g are gained, and t concepts are listed as touched.
abbrev pub changed : (d r g t : ℕ) → Changed
changed d r g t = record { removed = d; returned = r; gained = g; touched = t }

-- `Ok c`: every question is answered yes; c has the counts. `Err e`: question `e.number` is answered no, and record `e.at` is at fault (0 where none is
-- named).
abbrev pub outcome_of : Result Changed Refusal → Outcome
outcome_of (Ok c) = accepted
outcome_of (Err e) = refused e.number e.at

abbrev pub removed_of : Result Changed Refusal → ℕ
removed_of (Ok c) = c.removed
removed_of (Err e) = 0

abbrev pub returned_of : Result Changed Refusal → ℕ
returned_of (Ok c) = c.returned
returned_of (Err e) = 0

abbrev pub gained_of : Result Changed Refusal → ℕ
gained_of (Ok c) = c.gained
gained_of (Err e) = 0

abbrev pub touched_of : Result Changed Refusal → ℕ
touched_of (Ok c) = c.touched
touched_of (Err e) = 0
