-- What W10 says of a change where 4,096 axioms are in force.
use Rattle.std.specs.Prelude.{ℕ, ◌*◌, ◌≤◌, ◌≡◌, Bool, true, false, List, [], ◌++◌, length, Result, Err}
use Rattle.catalogue.specs.declared.checks.Refusal.{Refusal}
use Rattle.catalogue.specs.Header.{concepts}
use Rattle.catalogue.specs.Outcome.{accepted}
use Rattle.catalogue.specs.Checks.{checked}
use Rattle.catalogue.specs.Verdicts.{refusal}
use Rattle.layout.specs.Parts.{used, work_used, in_force, spare_clear}
use Rattle.store.specs.Written.{axiom_count}
use Rattle.store.specs.Checks.{numbers_below}
use Rattle.change_contract.specs.Lists.{sides_in, edited}
use Rattle.change_contract.specs.Questions.{is_whole, none_twice}
use Rattle.change_contract.specs.Answers.{outcome_of}
use Rattle.change_contract.specs.Edits.{Lent, Edits}
use Rattle.change_contract.specs.Single.{one}
use Rattle.change_contract.specs.declared.Changed.{Changed}

-- A change is lent what questions 1 to 15, 22 and 23 ask for, with 4,096 axioms in force.
pub record Full (b withdrawn added : List ℕ) (u : Lent) : Type 0 where
  pub catalogue : checked b ≡ accepted
  pub store_long : used b ≤ length u.store
  pub work_long : work_used b ≤ length u.work
  pub list_long : 2 * concepts b ≤ length u.list
  pub withdrawn_whole : is_whole (length withdrawn) ≡ true
  pub added_whole : is_whole (length added) ≡ true
  pub once : none_twice (withdrawn ++ added) ≡ true
  pub clear : spare_clear b u.store ≡ true
  pub full : axiom_count b (in_force b u.store) ≡ 4096
  pub numbers : numbers_below b (sides_in (withdrawn ++ added)) ≡ true

-- A change, lent these buffers, refuses by this number, and every buffer keeps its bytes.
abbrev pub ChangeRefuses : (b withdrawn added : List ℕ) (u : Lent) (number : ℕ) → Type 0
ChangeRefuses b withdrawn added u number =
    (answer : Result Changed Refusal) (v : Lent)
    → Edits b withdrawn added u answer v
    → (answer ≡ Err (refusal number 0)) × (v ≡ u)

-- A change, lent these buffers, is accepted; in force are then those that were, without the one list's and with the other's, 4,096 again.
abbrev pub ChangeKeepsFull : (b withdrawn added : List ℕ) (u : Lent) → Type 0
ChangeKeepsFull b withdrawn added u =
    (answer : Result Changed Refusal) (v : Lent)
    → Edits b withdrawn added u answer v
    → (outcome_of answer ≡ accepted) × (in_force b v.store ≡ edited (in_force b u.store) withdrawn added) × (axiom_count b (in_force b v.store) ≡ 4096)

-- Where 4,096 are in force, adding one axiom is refused by this number if it is in force, or is not.
abbrev pub FullRefuses : (there : Bool) (number : ℕ) → Type 0
FullRefuses there number =
    (b : List ℕ) (l r : ℕ) (u : Lent)
    → Full b [] (one l r) u
    → in_force b u.store l r ≡ there
    → ChangeRefuses b [] (one l r) u number

-- Where 4,096 are in force, one of them out and a new one in is accepted.
abbrev pub FullMoves : Type 0
FullMoves =
    (b : List ℕ) (l r l' r' : ℕ) (u : Lent)
    → Full b (one l r) (one l' r') u
    → in_force b u.store l r ≡ true
    → in_force b u.store l' r' ≡ false
    → ChangeKeepsFull b (one l r) (one l' r') u

-- Buffers that show that this is met: 4,096 axioms are in force in the store, this one among them or not, and adding it is refused by the number.
pub record MeetsFull (b : List ℕ) (l r : ℕ) (u : Lent) (there : Bool) (number : ℕ) : Type 0 where
  pub full : Full b [] (one l r) u
  pub there_is : in_force b u.store l r ≡ there
  pub refuses : ChangeRefuses b [] (one l r) u number

-- The same for a change with one out and one in.
pub record MeetsMove (b : List ℕ) (l r l' r' : ℕ) (u : Lent) : Type 0 where
  pub full : Full b (one l r) (one l' r') u
  pub there : in_force b u.store l r ≡ true
  pub not_there : in_force b u.store l' r' ≡ false
  pub keeps : ChangeKeepsFull b (one l r) (one l' r') u
