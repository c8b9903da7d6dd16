-- The answers of lookup: each case with the paper's number and value.
use Rattle.std.specs.Prelude.{ℕ, Bool, List, [], ◌∷◌, Result, Ok, Err}
use Rattle.catalogue.specs.Outcome.{Outcome, accepted, refused}
use Rattle.catalogue.specs.Verdicts.{refusal}
use Rattle.catalogue.specs.declared.checks.Refusal.{Refusal}
use Rattle.store.specs.Says.{says}
use Rattle.read_checks.specs.Checks.{read_checks}

-- `Ok true`: every question is answered yes, and the store says C⊑D. `Ok false`: every question is answered yes, and it does not.
-- `Err e`: question `e.number` is answered no, and record `e.at` is at fault (0 where none is named).
abbrev pub lookup_outcome : Result Bool Refusal → Outcome
lookup_outcome (Ok has) = accepted
lookup_outcome (Err e) = refused e.number e.at

-- The answer by the outcome of the questions.
abbrev pub looked : Outcome → Bool → Result Bool Refusal
looked accepted has = Ok has
looked (refused number at) has = Err (refusal number at)

-- Lookup of (C, D).
unfoldable pub looked_up : (b : List ℕ) (c d : ℕ) (store : List ℕ) → Result Bool Refusal
looked_up b c d store = looked (read_checks b (c ∷ d ∷ []) store) (says b store c d)
