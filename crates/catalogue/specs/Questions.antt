-- Questions about a catalogue, and how they are asked in order.
use Rattle.std.specs.Prelude.{ℕ, Bool, List, [], ◌∷◌}
use Rattle.catalogue.specs.Header.{concepts, inclusions, compositions, axioms}
use Rattle.catalogue.specs.Outcome.{Outcome, ask, ask_each}

-- The sections, and how many records each has.
pub data Section : Type 0 where
  in_concepts : Section
  in_inclusions : Section
  in_compositions : Section
  in_axioms : Section

abbrev pub count_of : Section → List ℕ → ℕ
count_of in_concepts b = concepts b
count_of in_inclusions b = inclusions b
count_of in_compositions b = compositions b
count_of in_axioms b = axioms b

-- A question by its number: asked once of the whole catalogue, or of each record of a section.
pub data Question : Type 0 where
  once : (number : ℕ) (right : List ℕ → Bool) → Question
  each : (number : ℕ) (section : Section) (right : List ℕ → ℕ → Bool) → Question

unfoldable pub number_of : Question → ℕ
number_of (once number right) = number
number_of (each number section right) = number

-- Questions in order, each over all its records before the next, and then the rest.
unfoldable pub ask_all : List Question → List ℕ → Outcome → Outcome
ask_all [] b rest = rest
ask_all (once number right ∷ qs) b rest = ask (right b) number 0 (ask_all qs b rest)
ask_all (each number section right ∷ qs) b rest = ask_each (right b) (count_of section b) number (ask_all qs b rest)
