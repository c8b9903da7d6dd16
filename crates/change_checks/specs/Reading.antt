-- Lists of axioms as 22 asks for them, and what is asked of each axiom.
use Rattle.std.specs.Prelude.{ℕ, ◌≤◌, ◌%◌, ◌≡◌, Bool, not, ◌&&◌, List, ltb, length}
use Rattle.rules.specs.Axioms.{Axioms}
use Rattle.change_contract.specs.Lists.{left_in, right_in}

-- A list as 22 asks for it.
pub record Whole (list : List ℕ) : Type 0 where
  pub few : length list ≤ 256
  pub whole : length list % 4 ≡ 0

-- A side of axiom k of a list is no concept, of n.
unfoldable pub is_beyond : ℕ → List ℕ → ℕ → Bool
is_beyond n list k = not (ltb (left_in list k) n && ltb (right_in list k) n)

-- Axiom k of a list is not in force, where F is; and it is.
unfoldable pub is_absent : Axioms → List ℕ → ℕ → Bool
is_absent F list k = not (F (left_in list k) (right_in list k))

unfoldable pub is_present : Axioms → List ℕ → ℕ → Bool
is_present F list k = F (left_in list k) (right_in list k)
