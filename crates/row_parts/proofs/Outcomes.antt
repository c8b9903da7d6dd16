-- What an answer to a row asked for says of its questions.
use Prim.Native.Nat.{ℕ}
use mathlib.Core.Path.{◌≡◌, refl, ap, ◌∙◌}
use mathlib.Core.List.{List, [], ◌∷◌}
use Rattle.std.proofs.Common.{Result}
use Rattle.catalogue.specs.Outcome.{Outcome, accepted, refused}
use Rattle.catalogue.specs.declared.checks.Refusal.{Refusal}
use Rattle.read_checks.specs.Checks.{read_checks}
use Rattle.row_parts.specs.Rows.{row_outcome, handed, row_answer}
use Rattle.row_parts.specs.declared.Place.{Place}

handed_outcome : (o : Outcome) (offset size : ℕ) → row_outcome (handed o offset size) ≡ o
handed_outcome accepted offset size = refl
handed_outcome (refused number at) offset size = refl

pub row_outcome_lem : (b : List ℕ) (c : ℕ) (store : List ℕ) (a : Result Place Refusal) → a ≡ row_answer b c store → row_outcome a ≡ read_checks b (c ∷ []) store
unfolding row_answer
row_outcome_lem b c store a e = ap row_outcome e ∙ handed_outcome _ _ _
