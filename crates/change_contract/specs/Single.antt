-- One axiom in one list (document 02, request Four: "add and withdraw become one change with two lists"): document 01's add and withdraw, by its Changes
-- and its Questions.
use Rattle.std.specs.Prelude.{ℕ, ◌≡◌, Bool, not, List, [], ◌∷◌, ltb, length, drop, Result}
use Rattle.catalogue.specs.declared.checks.Refusal.{Refusal}
use Rattle.catalogue.specs.Words.{bytes_of}
use Rattle.catalogue.specs.Header.{concepts}
use Rattle.catalogue.specs.Outcome.{Outcome, accepted, refused, ask}
use Rattle.derivation.specs.Wordings as worded
use Rattle.derivation.specs.Decided.{Marked as Holding}
use Rattle.rules.specs.Axioms.{Axioms, added, withdrawn}
use Rattle.rules.specs.Rules.{Expression, EL, Permits, Closure}
use Rattle.rules.specs.Changes.{OverDeleted, BrokenPartition, NewSet, ReturnedSet, GainedSet, GainingPartition}
use Rattle.rules.specs.Counts.{Size}
use Rattle.layout.specs.Parts.{used, work_used, in_force, held, spare_clear}
use Rattle.store.specs.Written.{axiom_count}
use Rattle.store.specs.Fresh.{Marked, Fresh}
use Rattle.store.specs.Checks.{axioms_in_limit, ask_numbers}
use Rattle.store.specs.Work.{zeroed}
use Rattle.number_lists.specs.Lists.{with_front}
use Rattle.change_contract.specs.declared.Changed.{Changed}
use Rattle.change_contract.specs.Answers.{outcome_of, removed_of, returned_of, gained_of, touched_of}
use Rattle.change_contract.specs.Questions.{Lengths}
use Rattle.change_contract.specs.Edits.{Members, Lent, lengths, asked, Refuses}
use Rattle.change_contract.specs.Empty.{buffer_checks}

-- The list of the axiom (l, r) alone: four bytes, for numbers below 65,536.
abbrev pub one : (l r : ℕ) → List ℕ
one l r = bytes_of (l ∷ r ∷ [])

-- ---- questions

-- 1 to 15, of the axiom (l, r), and then the rest.
unfoldable pub number_checks : (b : List ℕ) (l r : ℕ) → Lengths → (clear few : Bool) → Outcome → Outcome
number_checks b l r lent clear few rest = buffer_checks b lent clear few (ask_numbers b (l ∷ r ∷ []) rest)

-- "add 1 to 17": 16, not yet in force? 17, fewer than 4,096 in force?
unfoldable pub add_checks : (b : List ℕ) (l r : ℕ) → Lengths → (clear few : Bool) → Axioms → Outcome
add_checks b l r lent clear few F =
    number_checks b l r lent clear few
    (ask (not (F l r)) 16 0
    (ask (ltb (axiom_count b F) 4096) 17 0
    accepted))

-- "withdraw 1 to 15 and 18": 18, in force?
unfoldable pub withdraw_checks : (b : List ℕ) (l r : ℕ) → Lengths → (clear few : Bool) → Axioms → Outcome
withdraw_checks b l r lent clear few F = number_checks b l r lent clear few (ask (F l r) 18 0 accepted)

-- Of the buffers lent.
unfoldable pub add_asked : (b : List ℕ) (l r : ℕ) → Lent → Outcome
add_asked b l r u = add_checks b l r (lengths u) (spare_clear b u.store) (axioms_in_limit b (in_force b u.store)) (in_force b u.store)

unfoldable pub withdraw_asked : (b : List ℕ) (l r : ℕ) → Lent → Outcome
withdraw_asked b l r u = withdraw_checks b l r (lengths u) (spare_clear b u.store) (axioms_in_limit b (in_force b u.store)) (in_force b u.store)

-- ---- what is answered and left

-- An accepted call: the store marks the axioms G and the set S, the names stand in front of the list, and the work space is zero.
pub record Leaves (b : List ℕ) (G : ℕ → ℕ → Bool) (S : Expression → Type 0) (names : List ℕ) (u : Lent) (answer : Result Changed Refusal) (v : Lent) : Type 0 where
  pub answers : outcome_of answer ≡ accepted
  pub marked : Marked b G S v.store
  pub store_rest : drop (used b) v.store ≡ drop (used b) u.store
  pub work_zero : v.work ≡ zeroed (work_used b) u.work
  pub list_is : v.list ≡ with_front names u.list
  pub touched_counted : touched_of answer ≡ length names

-- ---- add

-- The axiom (l, r) added to F, of any held set H: S is document 01's new set, removed and returned are 0 ("for an addition the first two are 0"), and
-- the names are "the partitions that gained".
pub record AddEffects (b : List ℕ) (l r : ℕ) (F : ℕ → ℕ → Bool) (H S : Expression → Type 0) (names : List ℕ) (answer : Result Changed Refusal) : Type 1 where
  pub as_worded : worded.Add (EL b) (Permits b F) (Permits b (added F l r)) H S
  pub none_removed : removed_of answer ≡ 0
  pub none_returned : returned_of answer ≡ 0
  pub gained_counted : Size b (GainedSet b F (added F l r) H) (gained_of answer)
  pub listed : Members (concepts b) (GainingPartition b F (added F l r) H) names

pub record AcceptsAdd (b : List ℕ) (l r : ℕ) (u : Lent) (answer : Result Changed Refusal) (v : Lent) : Type 1 where
  pub names : List ℕ
  pub effects : AddEffects b l r (in_force b u.store) (Holding (held b u.store)) (Holding (held b v.store)) names answer
  pub leaves : Leaves b (added (in_force b u.store) l r) (NewSet b (in_force b u.store) (added (in_force b u.store) l r) (Holding (held b u.store))) names u answer v

-- A change with (l, r) alone in the second list is document 01's add, of any store.
pub record AsAdd (b : List ℕ) (l r : ℕ) (u : Lent) (answer : Result Changed Refusal) (v : Lent) : Type 1 where
  pub asks : asked b [] (one l r) u ≡ add_asked b l r u
  pub refuses : (number at : ℕ) → add_asked b l r u ≡ refused number at → Refuses b number at u answer v
  pub accepts : add_asked b l r u ≡ accepted → AcceptsAdd b l r u answer v

-- ---- withdraw

-- The axiom (l, r) withdrawn from F, of any held set H: what is over-deleted is document 01's, and so is S, the new set.
pub record WithdrawEffects (b : List ℕ) (l r : ℕ) (F : ℕ → ℕ → Bool) (H S : Expression → Type 0) (answer : Result Changed Refusal) : Type 1 where
  pub as_worded : worded.Withdraw (EL b) (Permits b F) (Permits b (withdrawn F l r)) H (OverDeleted b F (withdrawn F l r) H) S
  pub removed_counted : Size b (OverDeleted b F (withdrawn F l r) H) (removed_of answer)
  pub returned_counted : Size b (ReturnedSet b F (withdrawn F l r) H) (returned_of answer)
  pub gained_counted : Size b (GainedSet b F (withdrawn F l r) H) (gained_of answer)

-- From a store that is classified afresh from F nothing is gained, and the names are "the broken ones". (A wrong store's list has what gained as well.)
pub record FreshWithdrawal (b : List ℕ) (l r : ℕ) (F : ℕ → ℕ → Bool) (names : List ℕ) (answer : Result Changed Refusal) : Type 0 where
  pub none_gained : gained_of answer ≡ 0
  pub listed : Members (concepts b) (BrokenPartition b F (withdrawn F l r) (Closure b F)) names

pub record AcceptsWithdraw (b : List ℕ) (l r : ℕ) (u : Lent) (answer : Result Changed Refusal) (v : Lent) : Type 1 where
  pub names : List ℕ
  pub effects : WithdrawEffects b l r (in_force b u.store) (Holding (held b u.store)) (Holding (held b v.store)) answer
  pub fresh : (F : Axioms) → Fresh b F u.store → FreshWithdrawal b l r F names answer
  pub leaves : Leaves b (withdrawn (in_force b u.store) l r) (NewSet b (in_force b u.store) (withdrawn (in_force b u.store) l r) (Holding (held b u.store))) names u answer v

-- A change with (l, r) alone in the first list is document 01's withdraw, of any store, the list of a wrong one apart.
pub record AsWithdraw (b : List ℕ) (l r : ℕ) (u : Lent) (answer : Result Changed Refusal) (v : Lent) : Type 1 where
  pub asks : asked b (one l r) [] u ≡ withdraw_asked b l r u
  pub refuses : (number at : ℕ) → withdraw_asked b l r u ≡ refused number at → Refuses b number at u answer v
  pub accepts : withdraw_asked b l r u ≡ accepted → AcceptsWithdraw b l r u answer v
