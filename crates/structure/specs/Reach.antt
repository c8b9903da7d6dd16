-- Role reach (document 01, Rules: R⊑*S): the reflexive, transitive closure of the inclusions.
use Rattle.std.specs.Prelude.{ℕ, ◌<◌, List}
use Rattle.catalogue.specs.Header.{inclusions}
use Rattle.catalogue.specs.Records.{within, around}

pub data Reach (b : List ℕ) : ℕ → ℕ → Type 0 where
  here : {r : ℕ} → Reach b r r
  up : {s : ℕ} (k : ℕ) → k < inclusions b → Reach b (around b k) s → Reach b (within b k) s
