-- Two empty lists (document 02, request Four): "empty allowed", and "two empty lists change no pair or link".
use Rattle.std.specs.Prelude.{ℕ, ◌<◌, ◌≡◌, Bool, List, drop, get_or, Result, Ok}
use Rattle.catalogue.specs.declared.checks.Refusal.{Refusal}
use Rattle.catalogue.specs.Outcome.{Outcome}
use Rattle.catalogue.specs.Checks.{catalogue_checks}
use Rattle.rules.specs.Rules.{Expression}
use Rattle.layout.specs.Parts.{used, work_used, in_force, held}
use Rattle.store.specs.Checks.{ask_store, ask_work, ask_list, ask_spare, ask_limit}
use Rattle.store.specs.Work.{zeroed}
use Rattle.change_contract.specs.declared.Changed.{Changed}
use Rattle.change_contract.specs.Questions.{Lengths}
use Rattle.change_contract.specs.Edits.{Lent}
use Rattle.change_contract.specs.Answers.{changed}

-- 1 to 14, of the catalogue and the buffers alone, and then the rest: two empty lists are asked no more.
unfoldable pub buffer_checks : (b : List ℕ) → Lengths → (clear few : Bool) → Outcome → Outcome
buffer_checks b lent clear few rest =
    catalogue_checks b
    (ask_store b lent.store
    (ask_work b lent.work
    (ask_list b lent.list
    (ask_spare clear
    (ask_limit few
    rest)))))

-- What they leave of any store, right or wrong: nothing is removed, returned, gained or touched; every pair, link and axiom stays, and so does the list;
-- the work space is zero. A store of bytes stays whole.
pub record Unchanged (b : List ℕ) (u : Lent) (answer : Result Changed Refusal) (v : Lent) : Type 0 where
  pub answers : answer ≡ Ok (changed 0 0 0 0)
  pub held_same : (e : Expression) → held b v.store e ≡ held b u.store e
  pub axioms_same : (c d : ℕ) → in_force b v.store c d ≡ in_force b u.store c d
  pub store_rest : drop (used b) v.store ≡ drop (used b) u.store
  pub work_zero : v.work ≡ zeroed (work_used b) u.work
  pub list_same : v.list ≡ u.list
  pub store_same : ((i : ℕ) → i < used b → get_or u.store i 0 < 256) → v.store ≡ u.store
