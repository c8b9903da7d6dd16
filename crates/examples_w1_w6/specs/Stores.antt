-- Stores of W1 and W3, byte by byte (document 01, Examples): rows of axioms, of pairs, and of links by first concept and role.
use Rattle.std.specs.Prelude.{ℕ, List, [], ◌∷◌}

-- W1's store, classified afresh.
unfoldable pub w1_store : List ℕ
w1_store =
    16 ∷ 32 ∷ 0 ∷ 0 ∷ 0 ∷ 0 ∷ 8 ∷
    89 ∷ 34 ∷ 4 ∷ 8 ∷ 88 ∷ 32 ∷ 72 ∷
    2 ∷ 0 ∷ 4 ∷ 0 ∷ 4 ∷ 0 ∷ 0 ∷ 0 ∷ 0 ∷ 0 ∷ 0 ∷ 0 ∷ 2 ∷ 0 ∷ 4 ∷ 0 ∷ 4 ∷ 0 ∷ 0 ∷ 0 ∷ 4 ∷ []

-- The same after (1, 5) is withdrawn: W3's store.
unfoldable pub w3_store : List ℕ
w3_store =
    16 ∷ 0 ∷ 0 ∷ 0 ∷ 0 ∷ 0 ∷ 8 ∷
    17 ∷ 2 ∷ 4 ∷ 8 ∷ 16 ∷ 0 ∷ 72 ∷
    2 ∷ 0 ∷ 0 ∷ 0 ∷ 0 ∷ 0 ∷ 0 ∷ 0 ∷ 0 ∷ 0 ∷ 0 ∷ 0 ∷ 2 ∷ 0 ∷ 0 ∷ 0 ∷ 0 ∷ 0 ∷ 0 ∷ 0 ∷ 4 ∷ []
