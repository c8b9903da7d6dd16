-- W7's store, byte by byte (document 01, Examples): rows of axioms, and of pairs.
use Rattle.std.specs.Prelude.{ℕ, List, [], ◌∷◌}

-- W7's store: no roles, and so no rows of links.
unfoldable pub w7_store : List ℕ
w7_store = 2 ∷ 4 ∷ 2 ∷ 7 ∷ 6 ∷ 6 ∷ []
