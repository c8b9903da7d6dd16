-- `row_answer` meets its contract: one concept is named twice, which asks nothing more.
use Prim.Native.Nat.{ℕ}
use mathlib.Core.Path.{◌≡◌, sym, ap, ◌∙◌}
use mathlib.Core.List.{List, [], ◌∷◌}
use Rattle.std.proofs.Common.{Result, Ok}
use Rattle.catalogue.specs.Verdicts.{outcome_of}
use Rattle.catalogue.specs.declared.checks.Refusal.{Refusal}
use Rattle.read_checks.specs.Checks.{read_checks, Named}
use Rattle.read_checks.proofs.Acceptance.{read_named, named_one, read_twice}
use Rattle.row_parts.proofs.row_answer.Goals as goal

-- Where the questions accept.
ready : (b : List ℕ) (c : ℕ) (store : List ℕ) {r : Result Unit Refusal} {u : Unit}
    → outcome_of r ≡ read_checks b (c ∷ c ∷ []) store → r ≡ Ok u → Named b (c ∷ []) store
ready b c store e is = read_named b (c ∷ []) store (sym (read_twice b c store) ∙ sym e ∙ ap outcome_of is)

pub of-s-requires : goal.of-s-requires
of-s-requires c = (ready _ _ _ c.check_reading.ensures c.in_ok-check_reading.was).clear.sized.well_formed

pub pair_offset-requires : goal.pair_offset-requires
pair_offset-requires c =
    let m = ready _ _ _ c.check_reading.ensures c.in_ok-check_reading.was in
    (m.clear.sized.well_formed, named_one _ _ _ m)
