-- Demand 2 of a store that classify left: it holds just what the rules derive from the catalogue's axioms, and a yes or a no from it means what the
-- models say.
use Prim.Native.Nat.{ℕ}
use mathlib.Core.Path.{◌≡◌}
use mathlib.Core.Logic.{◌↔◌}
use mathlib.Core.Bool.{true, false}
use mathlib.Core.List.{List}
use lib.ListN.{length}
use Rattle.std.proofs.Common.{Result}
use Rattle.catalogue.specs.declared.checks.Refusal.{Refusal}
use Rattle.catalogue.specs.Outcome.{accepted}
use Rattle.rules.specs.Axioms.{catalogue_axioms}
use Rattle.rules.specs.Occurrence.{Occurs}
use Rattle.rules.specs.Rules.{Expression, pair, Closure}
use Rattle.rules.specs.Models.{Entails, Refuted}
use Rattle.rules.proofs.Axioms.{catalogue_in_range}
use Rattle.rules.proofs.DemandTwo.{demand_two_closure}
use Rattle.layout.specs.Parts.{held}
use Rattle.classification.specs.declared.Classified.{Classified}
use Rattle.classification.specs.Classified.{classify_checks, Classifies}
use Rattle.classification.proofs.Checks.{accepted_fits}

module _ (b store work : List ℕ) (a : Result Classified Refusal) (s w : List ℕ) (c : Classifies b store work a s w) (ok : classify_checks b (length store) (length work) ≡ accepted) where
  -- The store holds just the expressions that the rules derive.
  pub holds_derived : (e : Expression) → (held b s e ≡ true) ↔ Closure b (catalogue_axioms b) e
  holds_derived = (c.accepts ok).fresh.set

  -- For two concepts that occur: yes exactly where the first lies within the second in every interpretation, and no exactly where one shows otherwise.
  pub demand_two : (x y : ℕ) → Occurs b (catalogue_axioms b) x → Occurs b (catalogue_axioms b) y
      → ((held b s (pair x y) ≡ true) ↔ Entails b (catalogue_axioms b) x y) × ((held b s (pair x y) ≡ false) ↔ Refuted b (catalogue_axioms b) x y)
  demand_two =
      let wf = (accepted_fits b (length store) (length work) ok).well_formed in
      demand_two_closure b (catalogue_axioms b) (held b s) wf (catalogue_in_range b wf) holds_derived
