-- What the readers require, from a well-formed catalogue: one law for each.
use Prim.Native.Nat.{ℕ, ◌+◌, ◌*◌, ◌≤◌, ◌<◌}
use native.Mathlib.Omega.{arith}
use mathlib.Core.List.{List}
use lib.ListN.{length}
use Rattle.catalogue.specs.Header.{concepts, inclusions, compositions, axioms, inclusions_at, compositions_at, axioms_at}
use Rattle.catalogue.specs.WellFormed.{WellFormed}

-- The header, which every count's reader requires.
pub header_within : {b : List ℕ} → WellFormed b → 20 ≤ length b
header_within f = omega arith

-- A record of each section.
pub concept_within : {b : List ℕ} {i : ℕ} → WellFormed b → i < concepts b → 26 + 6 * i ≤ length b
concept_within f l = omega arith

pub inclusion_within : {b : List ℕ} {k : ℕ} → WellFormed b → k < inclusions b → (20 ≤ length b) × (inclusions_at b + 4 * k + 4 ≤ length b)
inclusion_within f l = omega arith

pub composition_within : {b : List ℕ} {k : ℕ} → WellFormed b → k < compositions b → (20 ≤ length b) × (compositions_at b + 6 * k + 6 ≤ length b)
composition_within f l = omega arith

pub axiom_within : {b : List ℕ} {k : ℕ} → WellFormed b → k < axioms b → (20 ≤ length b) × (axioms_at b + 4 * k + 4 ≤ length b)
axiom_within f l = omega arith
