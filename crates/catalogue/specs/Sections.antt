-- What questions 2 and 4 give: the sections stand one after the other, and fill the catalogue.
use Rattle.std.specs.Prelude.{ℕ, ◌+◌, ◌*◌, ◌≡◌, List, length}
use Rattle.catalogue.specs.Header.{concepts, inclusions, compositions, axioms, concepts_at, inclusions_at, compositions_at, axioms_at}

pub record Sections (b : List ℕ) : Type 0 where
  pub concepts_start : concepts_at b ≡ 20
  pub inclusions_start : inclusions_at b ≡ 20 + 6 * concepts b
  pub compositions_start : compositions_at b ≡ inclusions_at b + 4 * inclusions b
  pub axioms_start : axioms_at b ≡ compositions_at b + 6 * compositions b
  pub whole : length b ≡ axioms_at b + 4 * axioms b
