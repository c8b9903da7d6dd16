-- Demand 2: what a store holds and what the answers from it mean, after an accepted classify, and after any list of calls as in demand 3. The call that asks
-- gets the catalogue that the list got (document 01, Edits in a row), and what it answers is said by the axioms then in force.
use Rattle.std.specs.Prelude.{ℕ, ◌≡◌, Bool, true, ◌↔◌, ◌⊎◌, List, Result, Ok, false}
use Rattle.std.specs.Borrow.{Bor}
use Rattle.catalogue.specs.declared.checks.Refusal.{Refusal}
use Rattle.catalogue.specs.Outcome.{accepted}
use Rattle.rules.specs.Axioms.{Axioms, catalogue_axioms}
use Rattle.rules.specs.Occurrence.{Occurs}
use Rattle.rules.specs.Rules.{Expression, Closure}
use Rattle.rules.specs.Models.{Entails, Refuted}
use Rattle.layout.specs.Parts.{in_force, held}
use Rattle.store.specs.Written.{written}
use Rattle.classification.specs.Classified.{Classifies, outcome_of}
use Rattle.classification.specs.declared.Classified.{Classified}
use Rattle.writing.specs.Write.{Writes}
use Rattle.lookups.specs.Answers.{looked_up}
use Rattle.lookups.specs.Listings.{kinds_under, Lists}
use Rattle.row_parts.specs.declared.Place.{Place}
use Rattle.row_parts.specs.Rows.{row_answer, HandsOut}
use Rattle.meaning.specs.Meaning.{LookupMeans, ListingFinds, RowMeans}
use Rattle.meaning.specs.Atomic.{AtomicMeans}
use Rattle.demands.specs.Sequences.{EachFront, AfterCalls}
use Rattle.demands.specs.WriteBack.{WritesOut}

-- A store, by the axioms F in force.
pub record Meant (b : List ℕ) (F : ℕ → ℕ → Bool) (store : List ℕ) : Type 0 where
  -- "The store holds just the expressions that the EL+ rules derive from the axioms in force."
  pub axioms : (c d : ℕ) → in_force b store c d ≡ F c d
  pub holds : (e : Expression) → (held b store e ≡ true) ↔ Closure b F e
  -- "For two concepts that occur in them, the answer from that store is yes if the first lies within the second in every finite interpretation satisfying
  -- these axioms and the role axioms, and no if one interpretation shows otherwise."
  pub yes_means : (c d : ℕ) → Occurs b F c → Occurs b F d → (looked_up b c d store ≡ Ok true) ↔ Entails b F c d
  pub no_means : (c d : ℕ) → Occurs b F c → Occurs b F d → (looked_up b c d store ≡ Ok false) ↔ Refuted b F c d
  pub answers : (c d : ℕ) → Occurs b F c → Occurs b F d → (looked_up b c d store ≡ Ok true) ⊎ (looked_up b c d store ≡ Ok false)
  -- Every lookup, with 15 and 19 exactly where they are due.
  pub lookups : (c d : ℕ) (r : Result Bool Refusal) → r ≡ looked_up b c d store → LookupMeans b F c d r
  -- A listing names exactly the atomic kinds that occur and lie under D, rising.
  pub listings : (d : ℕ) (list : List ℕ) (r : Result ℕ Refusal) (after : List ℕ) → Lists b d store list r after
      → ListingFinds b F d (kinds_under b d store) list r after
  -- The bits of a row handed out say the same.
  pub rows : (c : ℕ) (lent part : Bor (List ℕ)) (r : Result Place Refusal) → lent.now ≡ store → HandsOut b c lent part → r ≡ row_answer b c lent.now
      → RowMeans b F c r part.now
  -- Every atomic kind occurs: its yes and no mean what they say, a listing under it has it, and 19 is left for tops and composites (document 02, Two).
  pub atomics : AtomicMeans b F store
  -- Write gives the catalogue with these axioms.
  pub writes : (output : List ℕ) (r : Result ℕ Refusal) (output' : List ℕ) → Writes b store output r output' → WritesOut (written b F) output r output'

-- "After classification": the catalogue's axioms are in force.
abbrev pub AfterClassify : (List ℕ → Axioms → List ℕ → Type 0) → Type 0
AfterClassify P =
    (b store work : List ℕ) (a : Result Classified Refusal) (store' work' : List ℕ) → Classifies b store work a store' work' → outcome_of a ≡ accepted
    → EachFront b store' (P b (catalogue_axioms b))

-- Demand 2.
pub record DemandTwo : Type 0 where
  pub classified : AfterClassify Meant
  pub edited : AfterCalls Meant
