-- Acceptance by questions 1 to 9 gives what reading and copying a catalogue's numbers require of it.
use Prim.Native.Nat.{ℕ, ◌+◌, ◌*◌, ◌≤◌}
use native.Mathlib.Omega.{arith}
use mathlib.Core.Path.{◌≡◌}
use mathlib.Core.List.{List}
use lib.ListN.{length}
use Rattle.catalogue.specs.Header.{concepts, inclusions, compositions, axioms, axioms_at}
use Rattle.catalogue.specs.Outcome.{accepted}
use Rattle.catalogue.specs.Checks.{checked}
use Rattle.catalogue.specs.WellFormed.{WellFormed}
use Rattle.catalogue.proofs.Accepted.{accepted_well_formed}

-- How many numbers the records before the axioms have, and the axioms.
abbrev pub record_numbers : List ℕ → ℕ
record_numbers b = 3 * concepts b + 2 * inclusions b + 3 * compositions b

abbrev pub axiom_numbers : List ℕ → ℕ
axiom_numbers b = 2 * axioms b

-- They fill the catalogue from the header to its end.
pub records_end : (b : List ℕ) → checked b ≡ accepted → axioms_at b ≡ 20 + 2 * record_numbers b
records_end b e = let w : WellFormed b = accepted_well_formed e in omega (arith, w.inclusions_start, w.compositions_start, w.axioms_start)

pub records_within : (b : List ℕ) → checked b ≡ accepted → 20 + 2 * record_numbers b ≤ length b
records_within b e = let w : WellFormed b = accepted_well_formed e in omega (arith, records_end b e, w.whole)

pub axioms_end : (b : List ℕ) → checked b ≡ accepted → length b ≡ axioms_at b + 2 * axiom_numbers b
axioms_end b e = let w : WellFormed b = accepted_well_formed e in omega (arith, w.whole)
