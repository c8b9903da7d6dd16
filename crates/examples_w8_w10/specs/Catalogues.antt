-- W8's catalogue, number by number.
use Rattle.std.specs.Prelude.{ℕ, List, [], ◌∷◌}
use Rattle.catalogue.specs.Words.{bytes_of}

-- W8: W1's concepts and its composition, and no axioms.
unfoldable pub w8 : List ℕ
unfolding bytes_of
w8 =
    bytes_of (
    68 ∷ 7 ∷ 3 ∷ 0 ∷ 1 ∷ 0 ∷ 20 ∷ 62 ∷ 62 ∷ 68 ∷
    0 ∷ 0 ∷ 0 ∷ 0 ∷ 0 ∷ 0 ∷ 0 ∷ 0 ∷ 0 ∷ 0 ∷ 0 ∷ 0 ∷ 3 ∷ 0 ∷ 1 ∷ 3 ∷ 1 ∷ 2 ∷ 3 ∷ 2 ∷ 2 ∷
    0 ∷ 1 ∷ 2 ∷ [])
