-- W7's catalogue, number by number.
use Rattle.std.specs.Prelude.{ℕ, List, [], ◌∷◌}
use Rattle.catalogue.specs.Words.{bytes_of}

-- W7: three atomic concepts, no roles; axioms (0,1), (1,2), (2,1).
unfoldable pub w7 : List ℕ
unfolding bytes_of
w7 =
    bytes_of (
    50 ∷ 3 ∷ 0 ∷ 0 ∷ 0 ∷ 3 ∷ 20 ∷ 38 ∷ 38 ∷ 38 ∷
    0 ∷ 0 ∷ 0 ∷ 0 ∷ 0 ∷ 0 ∷ 0 ∷ 0 ∷ 0 ∷
    0 ∷ 1 ∷ 1 ∷ 2 ∷ 2 ∷ 1 ∷ [])
