-- A reply refuses as the call's questions do, with their number and record.
use Prim.Native.Nat.{ℕ}
use mathlib.Core.Path.{◌≡◌}
use mathlib.Core.List.{List, [], ◌∷◌}
use lib.ListN.{length}
use mathlib.Core.Bool.{Bool, true, false}
use Rattle.row_parts.specs.declared.Place.{Place}
use Rattle.std.proofs.Common.{Result, Ok, Err}
use Rattle.catalogue.specs.declared.checks.Refusal.{Refusal}
use Rattle.replies.specs.Answers.{Reply}
use Rattle.catalogue.specs.Outcome.{Outcome, accepted, refused}
use Rattle.catalogue.specs.Checks.{checked}
use Rattle.classification.specs.declared.Classified.{Classified}
use Rattle.classification.specs.Classified.{classify_checks, Classifies}
use Rattle.classification.proofs.Outcomes.{answer_outcome}
use Rattle.change_contract.specs.declared.Changed.{Changed}
use Rattle.change_contract.specs.Edits.{Lent, asked, Edits}
use Rattle.change_contract.proofs.Outcomes.{answer_outcome as edit-asked}
use Rattle.read_checks.specs.Checks.{read_checks, list_checks}
use Rattle.lookups.specs.Answers.{looked_up}
use Rattle.lookups.specs.Listings.{Lists}
use Rattle.row_parts.specs.Rows.{row_answer}
use Rattle.lookups.proofs.Outcomes.{lookup_outcome_lem as lookup-answer, list_outcome_lem as list-answer}
use Rattle.row_parts.proofs.Outcomes.{row_outcome_lem as row-answer}
use Rattle.writing.specs.Write.{ByOutcome}
use Rattle.writing.proofs.Outcomes.{answer_outcome as write-answer}
use Rattle.buffer_sizes.specs.declared.Sizes.{Sizes}
use Rattle.buffer_sizes.specs.Sizes.{Measures}
use Rattle.buffer_sizes.proofs.Answered.{answer_outcome as check-answer}
use Rattle.replies.specs.Check.{check_reply}
use Rattle.replies.specs.Classify.{classify_reply}
use Rattle.replies.specs.Change.{change_reply}
use Rattle.replies.specs.Lookups.{lookup_reply, list_reply, row_reply}
use Rattle.replies.specs.Write.{write_reply}

-- What a reply says of the questions.
abbrev pub outcome_of : Reply → Outcome
outcome_of (Ok entries) = accepted
outcome_of (Err e) = refused e.number e.at

pub check_outcome : (b : List ℕ) (call : Result Sizes Refusal) → Measures b call → outcome_of (check_reply call) ≡ checked b
check_outcome b (Ok s) p = check-answer b (Ok s) p
check_outcome b (Err e) p = check-answer b (Err e) p

pub classify_outcome : {b store work s w : List ℕ} (call : Result Classified Refusal) → Classifies b store work call s w
    → outcome_of (classify_reply call) ≡ classify_checks b (length store) (length work)
classify_outcome {b} {store} {work} {s} {w} (Ok c) p = answer_outcome b store work (Ok c) s w p
classify_outcome {b} {store} {work} {s} {w} (Err e) p = answer_outcome b store work (Err e) s w p

pub change_outcome : {b withdrawn added : List ℕ} {u v : Lent} (call : Result Changed Refusal) → Edits b withdrawn added u call v
    → outcome_of (change_reply call) ≡ asked b withdrawn added u
change_outcome {b} {withdrawn} {added} {u} {v} (Ok c) p = edit-asked b withdrawn added u (Ok c) v p
change_outcome {b} {withdrawn} {added} {u} {v} (Err e) p = edit-asked b withdrawn added u (Err e) v p

pub lookup_outcome_lem : (b : List ℕ) (c d : ℕ) (store : List ℕ) (call : Result Bool Refusal) → call ≡ looked_up b c d store
    → outcome_of (lookup_reply call) ≡ read_checks b (c ∷ d ∷ []) store
lookup_outcome_lem b c d store (Ok true) e = lookup-answer b c d store (Ok true) e
lookup_outcome_lem b c d store (Ok false) e = lookup-answer b c d store (Ok false) e
lookup_outcome_lem b c d store (Err x) e = lookup-answer b c d store (Err x) e

pub list_outcome_lem : {b : List ℕ} {d : ℕ} {store list list' : List ℕ} (call : Result ℕ Refusal) → Lists b d store list call list'
    → outcome_of (list_reply call) ≡ list_checks b (d ∷ []) store (length list)
list_outcome_lem (Ok count) p = list-answer (Ok count) p
list_outcome_lem (Err e) p = list-answer (Err e) p

pub row_outcome_lem : (b : List ℕ) (c : ℕ) (store : List ℕ) (call : Result Place Refusal) → call ≡ row_answer b c store
    → outcome_of (row_reply call) ≡ read_checks b (c ∷ []) store
row_outcome_lem b c store (Ok p) e = row-answer b c store (Ok p) e
row_outcome_lem b c store (Err x) e = row-answer b c store (Err x) e

pub write_outcome : {b store output output' : List ℕ} {o : Outcome} (call : Result ℕ Refusal) → ByOutcome b store output o call output'
    → outcome_of (write_reply call) ≡ o
write_outcome (Ok long) p = write-answer (Ok long) p
write_outcome (Err e) p = write-answer (Err e) p
