-- Acceptance by questions 1 to 9 gives all that the functions of this crate require of a catalogue:
-- `close_roles` and `contains` ask a well-formed one, `reaches` roles below 16.
use Prim.Native.Nat.{ℕ, ◌<◌}
use native.Mathlib.Omega.{arith}
use mathlib.Core.Path.{◌≡◌, sym, ap, ◌∙◌}
use mathlib.Core.List.{List}
use Rattle.std.proofs.Common.{Result, Ok}
use Rattle.catalogue.specs.Header.{roles}
use Rattle.catalogue.specs.Outcome.{accepted}
use Rattle.catalogue.specs.Checks.{checked}
use Rattle.catalogue.specs.WellFormed.{WellFormed}
use Rattle.catalogue.specs.Verdicts.{outcome_of}
use Rattle.catalogue.specs.declared.checks.Refusal.{Refusal}
use Rattle.catalogue.proofs.Accepted.{accepted_well_formed}

-- A catalogue that the check accepts is well-formed.
pub verdict_well_formed : {b : List ℕ} {u : Unit} (v : Result Unit Refusal) → outcome_of v ≡ checked b → v ≡ Ok u → WellFormed b
verdict_well_formed v e a = accepted_well_formed (sym e ∙ ap outcome_of a)

-- Every role of the catalogue has its place in the square.
pub role_below : (b : List ℕ) {r : ℕ} → checked b ≡ accepted → r < roles b → r < 16
role_below b e h = let w : WellFormed b = accepted_well_formed e in omega (arith, w.roles_limit)
