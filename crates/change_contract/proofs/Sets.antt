-- Sets held alike: a change has the same effects on them, and a store that marks the one marks the other.
use Prim.Native.Nat.{ℕ}
use mathlib.Core.Logic.Iff
use mathlib.Core.Logic.{◌↔◌, inl, inr}
use mathlib.Core.List.{List}
use Rattle.std.proofs.Common.{Result}
use Rattle.catalogue.specs.declared.checks.Refusal.{Refusal}
use Rattle.catalogue.specs.Header.{concepts}
use Rattle.rules.specs.Axioms.{Axioms}
use Rattle.rules.specs.Rules.{Expression, EL, Permits}
use Rattle.rules.specs.Changes.{OverDeleted, NewSet, ReturnedSet, GainedSet, GainingPartition, TouchedPartition}
use Rattle.rules.proofs.Changes.{over_same, broken_same, after_same}
use Rattle.rules.proofs.Counts.{size_same}
use Rattle.store.specs.Fresh.{Marked}
use Rattle.change_contract.specs.declared.Changed.{Changed}
use Rattle.change_contract.specs.Answers.{removed_of, returned_of, gained_of}
use Rattle.change_contract.specs.Edits.{Effects}
use Rattle.change_contract.proofs.Members.{members_same}

pub marked_same : (b : List ℕ) (F : Axioms) (S T : Expression → Type 0) (store : List ℕ) → ((e : Expression) → S e ↔ T e) → Marked b F S store → Marked b F T store
marked_same b F S T store same p =
    record {
      long = p.long;
      axioms = p.axioms;
      set = λ e. Iff.trans (p.set e) (same e);
      spare = p.spare;
      bytes = p.bytes;
    }

module _ (b : List ℕ) (F G : Axioms) (H K : Expression → Type 0) (same : (e : Expression) → H e ↔ K e) where
  gaining_same : (c : ℕ) → GainingPartition b F G H c → GainingPartition b F G K c
  gaining_same c (e, g, p) = (e, (after_same (EL b) (Permits b F) (Permits b G) H K same g.0, λ k. g.1 ((same e).1 k)), p)

  touched_same : (c : ℕ) → TouchedPartition b F G H c → TouchedPartition b F G K c
  touched_same c (inl o) = inl (broken_same (EL b) (Permits b F) (Permits b G) H K same o)
  touched_same c (inr g) = inr (gaining_same c g)

module _ (b : List ℕ) (F G : Axioms) (H K : Expression → Type 0) (same : (e : Expression) → H e ↔ K e) where
  back : (e : Expression) → K e ↔ H e
  back e = ((same e).1, (same e).0)

  removed_same : (e : Expression) → OverDeleted b F G H e ↔ OverDeleted b F G K e
  removed_same e = (over_same (EL b) (Permits b F) (Permits b G) H K same, over_same (EL b) (Permits b F) (Permits b G) K H back)

  pub new_set_same : (e : Expression) → NewSet b F G H e ↔ NewSet b F G K e
  new_set_same e = (after_same (EL b) (Permits b F) (Permits b G) H K same, after_same (EL b) (Permits b F) (Permits b G) K H back)

  returned_same : (e : Expression) → ReturnedSet b F G H e ↔ ReturnedSet b F G K e
  returned_same e = (λ x. ((removed_same e).0 x.0, (new_set_same e).0 x.1), λ x. ((removed_same e).1 x.0, (new_set_same e).1 x.1))

  gained_same : (e : Expression) → GainedSet b F G H e ↔ GainedSet b F G K e
  gained_same e = (λ x. ((new_set_same e).0 x.0, λ k. x.1 ((same e).1 k)), λ x. ((new_set_same e).1 x.0, λ h. x.1 ((same e).0 h)))

  pub effects_same : (names : List ℕ) (a : Result Changed Refusal) → Effects b F G H names a → Effects b F G K names a
  effects_same names a p =
      record {
        removed_counted = size_same b (OverDeleted b F G H) (OverDeleted b F G K) (removed_of a) removed_same p.removed_counted;
        returned_counted = size_same b (ReturnedSet b F G H) (ReturnedSet b F G K) (returned_of a) returned_same p.returned_counted;
        gained_counted = size_same b (GainedSet b F G H) (GainedSet b F G K) (gained_of a) gained_same p.gained_counted;
        listed =
            members_same (concepts b) (TouchedPartition b F G H) (TouchedPartition b F G K) names (λ c. (touched_same b F G H K same c, touched_same b F G K H back c))
            p.listed;
        touched_counted = p.touched_counted;
      }
