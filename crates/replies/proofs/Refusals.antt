-- The number that a call returns fits: that of the question is at most 99, and the record at most 4,096.
use Prim.Native.Nat.{ℕ, ◌<◌, ◌^◌}
use native.Mathlib.Omega.{arith}
use mathlib.Core.Path.{◌≡◌, refl, sym}
use mathlib.Core.List.{List, [], ◌∷◌}
use lib.Dec.{lit<}
use lib.ListN.{length}
use Rattle.std.proofs.Common.{Result, Ok, Err}
use Rattle.catalogue.specs.declared.checks.Refusal.{Refusal}
use Rattle.catalogue.specs.Outcome.{Outcome}
use Rattle.catalogue.specs.Checks.{checked}
use Rattle.catalogue.proofs.Refusals.{Small, small_checked}
use Rattle.classification.specs.declared.Classified.{Classified}
use Rattle.classification.specs.Classified.{Classifies}
use Rattle.classification.proofs.Refusals.{small_classify}
use Rattle.change_contract.specs.declared.Changed.{Changed}
use Rattle.change_contract.specs.Edits.{Lent, Edits}
use Rattle.change_contract.proofs.Refusals.{small_edit}
use Rattle.lookups.specs.Answers.{looked_up}
use Rattle.lookups.specs.Listings.{Lists}
use Rattle.row_parts.specs.Rows.{row_answer}
use Rattle.read_checks.proofs.Refusals.{small_read, small_list}
use Rattle.writing.specs.Write.{Writes}
use Rattle.writing.proofs.Refusals.{small_write}
use Rattle.buffer_sizes.specs.Sizes.{sizes_of}
use Rattle.replies.specs.Answers.{returned, Reply}
use Rattle.replies.specs.Check.{check_reply}
use Rattle.replies.specs.Classify.{classify_reply}
use Rattle.replies.specs.Change.{change_reply}
use Rattle.replies.specs.Lookups.{lookup_reply, list_reply, row_reply}
use Rattle.replies.specs.Write.{write_reply}
use Rattle.replies.proofs.Exporting.{exported_short, exported_long}
use Rattle.replies.proofs.Replies.{outcome_of, check_outcome, classify_outcome, change_outcome, lookup_outcome_lem, list_outcome_lem, row_outcome_lem, write_outcome}

reply_fits : {o : Outcome} (reply : Reply) → outcome_of reply ≡ o → Small o → returned reply < 2 ^ 64
reply_fits (Ok entries) e s = lit< tt
reply_fits (Err x) e s = omega (arith, s.small x.number x.at (sym e))

pub check_fits : (b : List ℕ) → returned (check_reply (sizes_of b (checked b))) < 2 ^ 64
check_fits b = reply_fits (check_reply (sizes_of b (checked b))) (check_outcome b (sizes_of b (checked b)) refl) (small_checked b)

pub classify_fits : {b store work s w : List ℕ} (call : Result Classified Refusal) → Classifies b store work call s w → returned (classify_reply call) < 2 ^ 64
classify_fits {b} {store} {work} call p = reply_fits (classify_reply call) (classify_outcome call p) (small_classify b (length store) (length work))

pub edit_fits : {b withdrawn added : List ℕ} {u v : Lent} (call : Result Changed Refusal) → Edits b withdrawn added u call v → returned (change_reply call) < 2 ^ 64
edit_fits {b} {withdrawn} {added} {u} call p = reply_fits (change_reply call) (change_outcome call p) (small_edit b withdrawn added u)

pub lookup_fits : (b : List ℕ) (c d : ℕ) (store : List ℕ) → returned (lookup_reply (looked_up b c d store)) < 2 ^ 64
lookup_fits b c d store = reply_fits (lookup_reply (looked_up b c d store)) (lookup_outcome_lem b c d store (looked_up b c d store) refl) (small_read b (c ∷ d ∷ []) store)

pub list_fits_lem : {b : List ℕ} {d : ℕ} {store list list' : List ℕ} (call : Result ℕ Refusal) → Lists b d store list call list' → returned (list_reply call) < 2 ^ 64
list_fits_lem {b} {d} {store} {list} call p = reply_fits (list_reply call) (list_outcome_lem call p) (small_list b (d ∷ []) store (length list))

pub row_fits : (b : List ℕ) (c : ℕ) (store : List ℕ) → returned (row_reply (row_answer b c store)) < 2 ^ 64
row_fits b c store = reply_fits (row_reply (row_answer b c store)) (row_outcome_lem b c store (row_answer b c store) refl) (small_read b (c ∷ []) store)

pub write_fits : (b store output : List ℕ) {call : Result ℕ Refusal} {output' : List ℕ} → Writes b store output call output' → returned (write_reply call) < 2 ^ 64
write_fits b store output {call} p = reply_fits (write_reply call) (write_outcome call p) (small_write b store (length output))

-- What the exported calls cite.
pub ruleset exporting = (exported_short, exported_long, check_fits, classify_fits, edit_fits, lookup_fits, list_fits_lem, row_fits, write_fits)
