-- `buffer_sizes::measure` meets its contract: questions 1 to 9, and then the four numbers.
use Prim.Native.Nat.{ℕ}
use native.Mathlib.Omega.{arith}
use mathlib.Core.Path.{◌≡◌, sym, ap, ◌∙◌}
use mathlib.Core.List.{List}
use Rattle.std.proofs.Common.{Result, Ok}
use Rattle.catalogue.specs.Checks.{checked}
use Rattle.catalogue.specs.Verdicts.{outcome_of}
use Rattle.catalogue.specs.WellFormed.{WellFormed}
use Rattle.catalogue.specs.declared.checks.Refusal.{Refusal}
use Rattle.catalogue.proofs.Accepted.{accepted_well_formed}
use Rattle.catalogue.proofs.Bounds.{header_within}
use Rattle.buffer_sizes.proofs.measure.Goals as goal

-- Where the questions accept.
well_formed : (b : List ℕ) {r : Result Unit Refusal} {u : Unit} → outcome_of r ≡ checked b → r ≡ Ok u → WellFormed b
well_formed b e is = accepted_well_formed (sym e ∙ ap outcome_of is)

pub used-requires : goal.used-requires
used-requires c = well_formed _ c.check.ensures c.in_ok-check.was

pub work_used-requires : goal.work_used-requires
work_used-requires c = well_formed _ c.check.ensures c.in_ok-check.was

pub concepts-requires : goal.concepts-requires
concepts-requires c = header_within (well_formed _ c.check.ensures c.in_ok-check.was)

pub overflow_mul-result : goal.overflow_mul-result
overflow_mul-result c =
    let wf = well_formed _ c.check.ensures c.in_ok-check.was in
    omega (arith, c.concepts.ensures, wf.concepts_limit)

pub most_written-requires : goal.most_written-requires
most_written-requires c = well_formed _ c.check.ensures c.in_ok-check.was
