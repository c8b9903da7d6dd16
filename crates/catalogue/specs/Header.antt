-- The header: ten numbers in twenty bytes (document 01, Catalogue bytes).
use Rattle.std.specs.Prelude.{ℕ, List}
use Rattle.catalogue.specs.Words.{word}

-- The total length, and the five counts.
unfoldable pub total : List ℕ → ℕ
total b = word b 0

unfoldable pub concepts : List ℕ → ℕ
concepts b = word b 2

unfoldable pub roles : List ℕ → ℕ
roles b = word b 4

unfoldable pub inclusions : List ℕ → ℕ
inclusions b = word b 6

unfoldable pub compositions : List ℕ → ℕ
compositions b = word b 8

unfoldable pub axioms : List ℕ → ℕ
axioms b = word b 10

-- The offsets of the four sections.
unfoldable pub concepts_at : List ℕ → ℕ
concepts_at b = word b 12

unfoldable pub inclusions_at : List ℕ → ℕ
inclusions_at b = word b 14

unfoldable pub compositions_at : List ℕ → ℕ
compositions_at b = word b 16

unfoldable pub axioms_at : List ℕ → ℕ
axioms_at b = word b 18
