-- Parts of a concept (document 01, Rules: a concept occurs if it is a side, or a part of a concept that occurs).
use Rattle.std.specs.Prelude.{ℕ, ◌≡◌, List}
use Rattle.catalogue.specs.Records.{kind, first, second}

-- Part b i j: j is a part of record i, one step down: a conjunct, or the concept of an existential.
pub data Part (b : List ℕ) (i : ℕ) : ℕ → Type 0 where
  first_conjunct : kind b i ≡ 2 → Part b i (first b i)
  second_conjunct : kind b i ≡ 2 → Part b i (second b i)
  filler : kind b i ≡ 3 → Part b i (second b i)

-- Contains b i j: j is record i itself, or is contained in a part of it.
pub data Contains (b : List ℕ) : ℕ → ℕ → Type 0 where
  itself : {i : ℕ} → Contains b i i
  inner : {i k j : ℕ} → Part b i k → Contains b k j → Contains b i j
