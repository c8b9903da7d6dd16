-- What write promises (document 01, Questions, in order; Edits in a row: the catalogue with F as its axioms, count and total to match).
use Rattle.std.specs.Prelude.{ℕ, ◌≡◌, Bool, List, ◌++◌, length, drop, leb, Result, Ok, Err}
use Rattle.catalogue.specs.Outcome.{Outcome, accepted, refused, ask}
use Rattle.catalogue.specs.Checks.{catalogue_checks}
use Rattle.catalogue.specs.Verdicts.{refusal}
use Rattle.catalogue.specs.declared.checks.Refusal.{Refusal}
use Rattle.layout.specs.Parts.{in_force, spare_clear}
use Rattle.store.specs.Checks.{ask_store, ask_spare, ask_limit, axioms_in_limit}
use Rattle.store.specs.Written.{written}

-- 20: output long enough?
unfoldable pub output_fits : List ℕ → List ℕ → ℕ → Bool
output_fits b store long = leb (length (written b (in_force b store))) long

-- The questions after 9: 10, 13, 14, 20.
unfoldable pub store_checks : List ℕ → List ℕ → ℕ → Outcome
store_checks b store long =
    ask_store b (length store)
    (ask_spare (spare_clear b store)
    (ask_limit (axioms_in_limit b (in_force b store))
    (ask (output_fits b store long) 20 0
    accepted)))

-- All questions of write, in order.
unfoldable pub write_checks : List ℕ → List ℕ → ℕ → Outcome
write_checks b store long = catalogue_checks b (store_checks b store long)

-- What an answer says of the questions.
abbrev pub outcome_of : Result ℕ Refusal → Outcome
outcome_of (Ok k) = accepted
outcome_of (Err e) = refused e.number e.at

-- What write answers and leaves by the outcome of its questions. `Err (refusal n r)`: question n is answered no, record r at fault, and every byte stays.
-- `Ok k`: the catalogue with the axioms in force stands at the start of the output, k bytes long, and the bytes beyond it stay.
pub data ByOutcome (b store output : List ℕ) : Outcome → Result ℕ Refusal → List ℕ → Type 0 where
  wrote : {output' : List ℕ} → output' ≡ written b (in_force b store) ++ drop (length (written b (in_force b store))) output → ByOutcome b store output accepted (Ok (length (written b (in_force b store)))) output'
  stays : {number at : ℕ} → ByOutcome b store output (refused number at) (Err (refusal number at)) output

abbrev pub Writes : (b store output : List ℕ) → Result ℕ Refusal → List ℕ → Type 0
Writes b store output answer output' = ByOutcome b store output (write_checks b store (length output)) answer output'

abbrev pub WritesChecked : (b store output : List ℕ) → Result ℕ Refusal → List ℕ → Type 0
WritesChecked b store output answer output' = ByOutcome b store output (store_checks b store (length output)) answer output'
