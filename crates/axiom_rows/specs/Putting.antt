-- The catalogue's axioms in a table of rows.
use Rattle.std.specs.Prelude.{ℕ, ◌≡◌, ◌||◌, List, ◌++◌, length, drop}
use Rattle.rules.specs.Axioms.{catalogue_axioms}
use Rattle.layout.specs.declared.Shape.{Shape}
use Rattle.layout.specs.Layout.{table, table_length}

-- What was marked, and each axiom of the catalogue.
abbrev pub MarksAxioms : List ℕ → Shape → (rows rows' : List ℕ) → Type 0
MarksAxioms b s rows rows' = (c d : ℕ) → table s rows' c d ≡ (table s rows c d || catalogue_axioms b c d)

-- The catalogue's axioms, and no others, in the first rows of a store; what comes after them stays. A table has the same rows.
pub record PutsAxioms (b : List ℕ) (s : Shape) (store store' rows : List ℕ) : Type 0 where
  pub axioms : (c d : ℕ) → table s rows c d ≡ catalogue_axioms b c d
  pub rows_long : length rows ≡ table_length s
  pub store_is : store' ≡ rows ++ drop (table_length s) store
