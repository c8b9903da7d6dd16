-- A catalogue that is accepted, with a store that is classified afresh: an accepted classify leaves it, and every call after it rests on it.
use Prim.Native.Nat.{ℕ, ◌≤◌}
use native.Mathlib.Omega.{arith}
use mathlib.Core.Path.{◌≡◌, sym, ◌∙◌}
use mathlib.Core.Bool.{Bool}
use mathlib.Core.List.{List, ◌++◌}
use lib.ListN.{length, take, length-take}
use lib.Seq.{take-take}
use Rattle.std.proofs.Common.{Result}
use Rattle.catalogue.specs.declared.checks.Refusal.{Refusal}
use Rattle.catalogue.specs.Outcome.{accepted}
use Rattle.catalogue.specs.Checks.{checked}
use Rattle.catalogue.specs.WellFormed.{WellFormed}
use Rattle.catalogue.proofs.Outcomes.{followed-both}
use Rattle.catalogue.proofs.Passed.{checks_followed}
use Rattle.rules.specs.Axioms.{Axioms, InRange, catalogue_axioms}
use Rattle.rules.specs.Rules.{Closure}
use Rattle.rules.proofs.Axioms.{catalogue_in_range}
use Rattle.layout.specs.Parts.{used}
use Rattle.store.specs.Fresh.{Fresh}
use Rattle.store.specs.Written.{axiom_count}
use Rattle.store.proofs.AxiomCounts.{catalogue_count}
use Rattle.store.proofs.Stored.{marked-used, marked_append}
use Rattle.classification.specs.Classified.{classify_checks, Classifies}
use Rattle.classification.specs.declared.Classified.{Classified}
use Rattle.classification.proofs.Checks.{accepted_fits}

-- Catalogue b is accepted, and the store is classified afresh from F, at most 4,096 axioms: what lookup, listing, row, write and change ask of it.
pub record FreshStore (b : List ℕ) (F : ℕ → ℕ → Bool) (store : List ℕ) : Type 0 where
  pub catalogue : checked b ≡ accepted
  pub well_formed : WellFormed b
  pub range : InRange b F
  pub few : axiom_count b F ≤ 4096
  pub fresh : Fresh b F store

checked-first : (b : List ℕ) (store_length work_length : ℕ) → classify_checks b store_length work_length ≡ accepted → checked b ≡ accepted
unfolding classify_checks
checked-first b store_length work_length ok = (followed-both (checked b) _ (checks_followed b _ ∙ ok)).0

-- What an accepted classify leaves.
pub classify_leaves : (b store work : List ℕ) (answer : Result Classified Refusal) (store' work' : List ℕ) → Classifies b store work answer store' work'
    → classify_checks b (length store) (length work) ≡ accepted → FreshStore b (catalogue_axioms b) store'
classify_leaves b store work answer store' work' call ok =
    let wf : WellFormed b = (accepted_fits b _ _ ok).well_formed in
    record {
      catalogue = checked-first b _ _ ok;
      well_formed = wf;
      range = catalogue_in_range b wf;
      few = omega (arith, catalogue_count b wf, wf.axioms_limit);
      fresh = (call.accepts ok).fresh;
    }

-- ---- a part of a store, and more than it

-- The rest of the store changes nothing.
pub fresh_append : (b : List ℕ) (F : Axioms) (xs ys : List ℕ) → FreshStore b F xs → FreshStore b F (xs ++ ys)
fresh_append b F xs ys u =
    record {
      catalogue = u.catalogue;
      well_formed = u.well_formed;
      range = u.range;
      few = u.few;
      fresh = marked_append b F (Closure b F) xs ys u.fresh;
    }

-- A front that is long enough is as fresh as the store.
pub fresh_front : (b : List ℕ) (F : Axioms) (store : List ℕ) (k : ℕ) → used b ≤ length (take k store) → FreshStore b F store → FreshStore b F (take k store)
fresh_front b F store k long u =
    record {
      catalogue = u.catalogue;
      well_formed = u.well_formed;
      range = u.range;
      few = u.few;
      fresh = marked-used b F (Closure b F) store (take k store) (sym (take-take (used b) k store (omega (arith, length-take k store)))) long u.fresh;
    }
