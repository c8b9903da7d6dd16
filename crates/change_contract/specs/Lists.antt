-- Lists of axioms as bytes (document 02, request Four): four for each, as in the catalogue, left and then right, low byte first. And the axioms in force
-- after a change with two such lists.
use Rattle.std.specs.Prelude.{ℕ, zero, suc, ◌+◌, ◌*◌, ◌/◌, ◌≡◌, not, ◌&&◌, ◌||◌, List, [], ◌∷◌, ◌++◌, eqb, length}
use Rattle.rows.specs.Bits.{some_below}
use Rattle.catalogue.specs.Words.{word}
use Rattle.catalogue.specs.declared.records.Axiom.{Axiom}
use Rattle.rules.specs.Axioms.{Axioms}

-- How many axioms a list has, and the sides of axiom k, by its two numbers as they stand.
unfoldable pub axioms_in : List ℕ → ℕ
axioms_in list = length list / 4

unfoldable pub left_in : List ℕ → ℕ → ℕ
left_in list k = word list (4 * k)

unfoldable pub right_in : List ℕ → ℕ → ℕ
right_in list k = word list (4 * k + 2)

-- The axiom (c, d) is one of the first k.
unfoldable pub among : List ℕ → ℕ → Axioms
among list k c d = some_below (λ j. eqb (left_in list j) c && eqb (right_in list j) d) k

-- The axioms of a list.
unfoldable pub listed : List ℕ → Axioms
listed list c d = among list (axioms_in list) c d

-- Both sides of the first k axioms, and of all.
unfoldable pub sides_below : List ℕ → ℕ → List ℕ
sides_below list zero = []
sides_below list (suc k) = sides_below list k ++ (left_in list k ∷ right_in list k ∷ [])

unfoldable pub sides_in : List ℕ → List ℕ
sides_in list = sides_below list (axioms_in list)

-- The axioms in force after a change: F loses the one list's axioms and gains the other's.
unfoldable pub edited : Axioms → (withdrawn added : List ℕ) → Axioms
edited F withdrawn added c d = (F c d && not (listed withdrawn c d)) || listed added c d

-- Axiom k of a list, read.
pub record ReadAt (list : List ℕ) (k : ℕ) (a : Axiom) : Type 0 where
  pub left_is : a.left ≡ left_in list k
  pub right_is : a.right ≡ right_in list k
