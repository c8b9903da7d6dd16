-- The catalogues of document 001's examples, number by number.
use Rattle.std.specs.Prelude.{ℕ, List, [], ◌∷◌}
use Rattle.catalogue.specs.Words.{bytes_of}

-- Document 001, Example 1: atomic A 0, B 1, C 2; roles R 0, H 1, S 2, R within H; 3 ∃R.B, 4 ∃H.B, 5 ∃S.A, 6 ∃S.C; axioms A⊑∃R.B,
-- B⊑∃S.A, ∃H.B⊑C, ∃S.C⊑C.
unfoldable pub example1 : List ℕ
unfolding bytes_of
example1 =
    bytes_of (
    82 ∷ 7 ∷ 3 ∷ 1 ∷ 0 ∷ 4 ∷ 20 ∷ 62 ∷ 66 ∷ 66 ∷
    0 ∷ 0 ∷ 0 ∷ 0 ∷ 0 ∷ 0 ∷ 0 ∷ 0 ∷ 0 ∷ 3 ∷ 0 ∷ 1 ∷ 3 ∷ 1 ∷ 1 ∷ 3 ∷ 2 ∷ 0 ∷ 3 ∷ 2 ∷ 2 ∷
    0 ∷ 1 ∷
    0 ∷ 3 ∷ 1 ∷ 5 ∷ 4 ∷ 2 ∷ 6 ∷ 2 ∷ [])

-- Document 001, Example 4: atomic A 0, B 1, C 2; role R 0; 3 ∃R.B, 4 ∃R.C; axioms A⊑∃R.B, B⊑C, C⊑B, ∃R.C⊑∃R.C.
unfoldable pub example4 : List ℕ
unfolding bytes_of
example4 =
    bytes_of (
    66 ∷ 5 ∷ 1 ∷ 0 ∷ 0 ∷ 4 ∷ 20 ∷ 50 ∷ 50 ∷ 50 ∷
    0 ∷ 0 ∷ 0 ∷ 0 ∷ 0 ∷ 0 ∷ 0 ∷ 0 ∷ 0 ∷ 3 ∷ 0 ∷ 1 ∷ 3 ∷ 0 ∷ 2 ∷
    0 ∷ 3 ∷ 1 ∷ 2 ∷ 2 ∷ 1 ∷ 4 ∷ 4 ∷ [])
