-- The square of 16 by 16 marks that keeps role reach (document 01, Rules), and the squares on the way to it.
use Rattle.std.specs.Prelude.{ℕ, ◌<◌, ◌≡◌, ◌⊎◌, ◌↔◌, Bool, true, false, ◌&&◌, ◌||◌, List, [], length, get_or}
use Rattle.catalogue.specs.Records.{within, around}
use Rattle.structure.specs.Reach.{Reach}

-- A row of marks for each role. Above this crate a square is read by `mark` alone.
abbrev pub Square : Type 0
Square = List (List Bool)

-- The mark of roles r and s.
abbrev pub mark : Square → ℕ → ℕ → Bool
mark square r s = get_or (get_or square r []) s false

-- Role r is role s, or lies within it by one of the first k inclusions.
abbrev pub Included : List ℕ → ℕ → ℕ → ℕ → Type 0
Included b k r s = (r ≡ s) ⊎ ((j : ℕ) × (j < k) × (within b j ≡ r) × (around b j ≡ s))

-- Sixteen rows of sixteen marks.
pub record Sized (square : Square) : Type 0 where
  pub rows : length square ≡ 16
  pub row : (r : ℕ) → r < 16 → length (get_or square r []) ≡ 16

-- A square that marks exactly the roles r and s of a relation.
pub record MarksExactly (P : ℕ → ℕ → Type 0) (square : Square) : Type 0 where
  pub exact : (r s : ℕ) → r < 16 → s < 16 → (mark square r s ≡ true) ↔ P r s

-- The mark of roles r and s once role k may stand between them.
abbrev pub mark_through : ℕ → Square → ℕ → ℕ → Bool
mark_through k square r s = mark square r s || (mark square r k && mark square k s)

-- The marks of next are those of square with role k between.
abbrev pub Through : ℕ → Square → Square → Type 0
Through k square next = (r s : ℕ) → r < 16 → s < 16 → mark next r s ≡ mark_through k square r s

-- A square that marks exactly role reach.
abbrev pub Closed : List ℕ → Square → Type 0
Closed b square = MarksExactly (Reach b) square
