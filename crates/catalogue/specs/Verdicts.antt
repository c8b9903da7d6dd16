-- The code's answers in the words of the checks.
use Rattle.std.specs.Prelude.{ℕ, Result, Ok, Err}
use Rattle.catalogue.specs.Outcome.{Outcome, accepted, refused}
use Rattle.catalogue.specs.declared.checks.Refusal.{Refusal}

-- `Ok`: every question is answered yes. `Err e`: question `e.number` is answered no, and record `e.at` is at fault (0 where none is named).
abbrev pub outcome_of : Result Unit Refusal → Outcome
outcome_of (Ok u) = accepted
outcome_of (Err e) = refused e.number e.at

-- The refusal with a number and a record.
abbrev pub refusal : ℕ → ℕ → Refusal
refusal n k = record { number = n; at = k }
