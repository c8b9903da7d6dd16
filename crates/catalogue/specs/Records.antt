-- The records of the four sections (document 01, Catalogue bytes).
use Rattle.std.specs.Prelude.{ℕ, ◌+◌, ◌*◌, List}
use Rattle.catalogue.specs.Words.{word}
use Rattle.catalogue.specs.Header.{inclusions_at, compositions_at, axioms_at}

-- Concept i, six bytes, the first at 20: kind (0 atomic, 1 top, 2 conjunction, 3 existential), first, second.
unfoldable pub kind : List ℕ → ℕ → ℕ
kind b i = word b (20 + 6 * i)

unfoldable pub first : List ℕ → ℕ → ℕ
first b i = word b (20 + 6 * i + 2)

unfoldable pub second : List ℕ → ℕ → ℕ
second b i = word b (20 + 6 * i + 4)

-- Inclusion k, four bytes: the role `within` lies within the role `around`.
unfoldable pub within : List ℕ → ℕ → ℕ
within b k = word b (inclusions_at b + 4 * k)

unfoldable pub around : List ℕ → ℕ → ℕ
around b k = word b (inclusions_at b + 4 * k + 2)

-- Composition k, six bytes: roles s1, s2 and their result s.
unfoldable pub role1 : List ℕ → ℕ → ℕ
role1 b k = word b (compositions_at b + 6 * k)

unfoldable pub role2 : List ℕ → ℕ → ℕ
role2 b k = word b (compositions_at b + 6 * k + 2)

unfoldable pub result : List ℕ → ℕ → ℕ
result b k = word b (compositions_at b + 6 * k + 4)

-- Axiom k, four bytes: concepts left and right.
unfoldable pub left : List ℕ → ℕ → ℕ
left b k = word b (axioms_at b + 4 * k)

unfoldable pub right : List ℕ → ℕ → ℕ
right b k = word b (axioms_at b + 4 * k + 2)
