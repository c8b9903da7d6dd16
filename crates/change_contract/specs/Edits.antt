-- One change with two lists (document 01, Changes, Questions, Edits in a row; document 02, request Four): axioms withdrawn from those in force and axioms
-- added to them, at once. What it asks, what it answers, and what it leaves in the buffers that it is lent.
use Rattle.std.specs.Prelude.{ℕ, ◌<◌, ◌≡◌, Bool, List, length, drop, Result}
use Rattle.catalogue.specs.declared.checks.Refusal.{Refusal}
use Rattle.catalogue.specs.Header.{concepts}
use Rattle.catalogue.specs.Outcome.{Outcome, accepted, refused}
use Rattle.derivation.specs.Decided.{Marked as Holding, Decides}
use Rattle.rules.specs.Rules.{Expression}
use Rattle.rules.specs.Changes.{OverDeleted, NewSet, ReturnedSet, GainedSet, TouchedPartition}
use Rattle.rules.specs.Counts.{Size}
use Rattle.layout.specs.Parts.{used, work_used, in_force, held, spare_clear}
use Rattle.store.specs.Written.{rising}
use Rattle.store.specs.Fresh.{Marked}
use Rattle.store.specs.Checks.{axioms_in_limit}
use Rattle.store.specs.Work.{zeroed, work_after, at_none}
use Rattle.number_lists.specs.Lists.{with_front}
use Rattle.change_contract.specs.declared.Changed.{Changed}
use Rattle.change_contract.specs.Answers.{outcome_of, removed_of, returned_of, gained_of, touched_of}
use Rattle.change_contract.specs.Lists.{edited}
use Rattle.change_contract.specs.Questions.{Lengths, change_checks}

-- ---- the sets

-- The names are exactly the members of T, all below n, rising: a test decides T, and they are those that pass.
pub record Members (n : ℕ) (T : ℕ → Type 0) (names : List ℕ) : Type 0 where
  pub test : ℕ → Bool
  pub decides : Decides test T
  pub within : (c : ℕ) → T c → c < n
  pub are : names ≡ rising test n

-- A change from F to G, of any held set H: the sizes of what is removed, returned and gained, and the touched concepts, broken or gained, which are listed.
pub record Effects (b : List ℕ) (F G : ℕ → ℕ → Bool) (H : Expression → Type 0) (names : List ℕ) (answer : Result Changed Refusal) : Type 0 where
  pub removed_counted : Size b (OverDeleted b F G H) (removed_of answer)
  pub returned_counted : Size b (ReturnedSet b F G H) (returned_of answer)
  pub gained_counted : Size b (GainedSet b F G H) (gained_of answer)
  pub listed : Members (concepts b) (TouchedPartition b F G H) names
  pub touched_counted : touched_of answer ≡ length names

-- ---- the bytes

-- The buffers that are lent.
pub record Lent : Type 0 where
  pub store : List ℕ
  pub work : List ℕ
  pub list : List ℕ

abbrev pub lend : (store work list : List ℕ) → Lent
lend store work list = record { store = store; work = work; list = list }

abbrev pub lengths : Lent → Lengths
lengths u = record { store = length u.store; work = length u.work; list = length u.list }

-- The questions of the buffers lent: the content of the store is read off its rows, right or not.
unfoldable pub asked : (b withdrawn added : List ℕ) → Lent → Outcome
asked b withdrawn added u = change_checks b withdrawn added (lengths u) (spare_clear b u.store) (axioms_in_limit b (in_force b u.store)) (in_force b u.store)

-- Refused: number and record are answered, and every buffer keeps its bytes.
pub record Refuses (b : List ℕ) (number at : ℕ) (u : Lent) (answer : Result Changed Refusal) (v : Lent) : Type 0 where
  pub answers : outcome_of answer ≡ refused number at
  pub store_kept : v.store ≡ u.store
  pub work_kept : v.work ≡ work_after at_none (work_used b) number u.work
  pub list_kept : v.list ≡ u.list

-- Accepted: the store marks the axioms after the change and the new set, for H the pairs and links that it held, right or not; the touched concepts stand
-- in front of the list, and the work space is zero. Bytes past the used parts and entries past the count are kept.
pub record Accepts (b withdrawn added : List ℕ) (u : Lent) (answer : Result Changed Refusal) (v : Lent) : Type 0 where
  pub answers : outcome_of answer ≡ accepted
  pub names : List ℕ
  pub effects : Effects b (in_force b u.store) (edited (in_force b u.store) withdrawn added) (Holding (held b u.store)) names answer
  pub marked : Marked b (edited (in_force b u.store) withdrawn added) (NewSet b (in_force b u.store) (edited (in_force b u.store) withdrawn added) (Holding (held b u.store))) v.store
  pub store_rest : drop (used b) v.store ≡ drop (used b) u.store
  pub work_zero : v.work ≡ zeroed (work_used b) u.work
  pub list_is : v.list ≡ with_front names u.list

-- A change that withdraws the axioms of `withdrawn` and adds those of `added`.
pub record Edits (b withdrawn added : List ℕ) (u : Lent) (answer : Result Changed Refusal) (v : Lent) : Type 0 where
  pub refuses : (number at : ℕ) → asked b withdrawn added u ≡ refused number at → Refuses b number at u answer v
  pub accepts : asked b withdrawn added u ≡ accepted → Accepts b withdrawn added u answer v
