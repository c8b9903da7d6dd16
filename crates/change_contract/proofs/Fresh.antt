-- A change of a store that is classified afresh leaves one that is classified afresh from the axioms after the change; its counts and its list are those
-- of the least set.
use Prim.Native.Nat.{ℕ}
use mathlib.Core.Path.{◌≡◌, sym, subst}
use mathlib.Core.Logic.Iff
use mathlib.Core.List.{List}
use Rattle.std.proofs.Common.{Result}
use Rattle.catalogue.specs.declared.checks.Refusal.{Refusal}
use Rattle.catalogue.specs.Outcome.{accepted}
use Rattle.derivation.specs.Decided.{Marked as Holding}
use Rattle.rules.specs.Axioms.{Axioms}
use Rattle.rules.specs.Rules.{Closure}
use Rattle.rules.specs.Changes.{NewSet}
use Rattle.rules.proofs.Changes.{change_closure}
use Rattle.layout.specs.Parts.{in_force, held}
use Rattle.store.specs.Fresh.{Fresh}
use Rattle.store.proofs.Checks.{marked-axioms}
use Rattle.change_contract.specs.declared.Changed.{Changed}
use Rattle.change_contract.specs.Lists.{edited}
use Rattle.change_contract.specs.Edits.{Effects, Lent, asked, Edits}
use Rattle.change_contract.proofs.Checks.{Accepted, edit_accepted}
use Rattle.change_contract.proofs.Sets.{marked_same, new_set_same, effects_same}

module _ (b withdrawn added : List ℕ) (u : Lent) (a : Result Changed Refusal) (v : Lent) (p : Edits b withdrawn added u a v) (ok : asked b withdrawn added u ≡ accepted)
    (F : Axioms) (fresh : Fresh b F u.store) where
  own : in_force b u.store ≡ F
  own = marked-axioms b F u.store fresh

  held_least : Fresh b (in_force b u.store) u.store
  held_least = subst (λ (G : Axioms). Fresh b G u.store) (sym own) fresh

  pub edit_fresh : Fresh b (edited F withdrawn added) v.store
  edit_fresh =
      let F' = in_force b u.store in
      let G = edited F' withdrawn added in
      let H = Holding (held b u.store) in
      let c : Accepted b withdrawn added u = edit_accepted b withdrawn added u ok in
      subst (λ (E : Axioms). Fresh b (edited E withdrawn added) v.store) own
      (marked_same b G (NewSet b F' G H) (Closure b G) v.store
      (λ e. Iff.trans (new_set_same b F' G H (Closure b F') held_least.set e) (change_closure b F' G c.well_formed c.range c.after_range e))
      (p.accepts ok).marked)

  pub edit_effects : Effects b F (edited F withdrawn added) (Closure b F) (p.accepts ok).names a
  edit_effects =
      let F' = in_force b u.store in
      subst (λ (E : Axioms). Effects b E (edited E withdrawn added) (Closure b E) (p.accepts ok).names a) own
      (effects_same b F' (edited F' withdrawn added) (Holding (held b u.store)) (Closure b F') held_least.set (p.accepts ok).names a (p.accepts ok).effects)
