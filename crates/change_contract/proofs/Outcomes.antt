-- What an answer of a change says of its checks, and the two ways that a change ends: refused with every buffer as it was, and accepted. From a store that is
-- classified afresh it is enough that the counts, the list and the store after are those of the least sets.
use Prim.Native.Nat.{ℕ}
use mathlib.Core.Path.{◌≡◌, refl, sym, subst, ◌∙◌}
use mathlib.Core.Logic.Iff
use mathlib.Core.Logic.{◌↔◌}
use mathlib.Core.Bool.{Bool}
use mathlib.Core.List.{List}
use lib.ListN.{drop}
use Rattle.std.proofs.Common.{Result, Err}
use Rattle.catalogue.specs.declared.checks.Refusal.{Refusal}
use Rattle.catalogue.specs.Outcome.{Outcome, accepted, refused}
use Rattle.catalogue.specs.Verdicts.{refusal}
use Rattle.catalogue.proofs.Outcomes.{never_both}
use Rattle.derivation.specs.Decided.{Marked as Holding}
use Rattle.rules.specs.Axioms.{Axioms}
use Rattle.rules.specs.Rules.{Expression, Closure}
use Rattle.rules.specs.Changes.{NewSet}
use Rattle.rules.proofs.Changes.{change_closure}
use Rattle.layout.specs.Parts.{used, work_used, in_force, held}
use Rattle.store.specs.Fresh.{Fresh}
use Rattle.store.specs.Work.{zeroed}
use Rattle.store.proofs.Checks.{marked-axioms}
use Rattle.store.proofs.Work.{work_stays}
use Rattle.number_lists.specs.Lists.{with_front}
use Rattle.change_contract.specs.declared.Changed.{Changed}
use Rattle.change_contract.specs.Lists.{edited}
use Rattle.change_contract.specs.Answers.{outcome_of}
use Rattle.change_contract.specs.Edits.{Effects, Lent, asked, Accepts, Edits}
use Rattle.change_contract.proofs.Checks.{Accepted, edit_accepted}
use Rattle.change_contract.proofs.Sets.{marked_same, new_set_same, effects_same}

module _ (b withdrawn added : List ℕ) (u : Lent) where
  -- The answer's outcome is that of the checks.
  pub answer_outcome : (a : Result Changed Refusal) (v : Lent) → Edits b withdrawn added u a v → outcome_of a ≡ asked b withdrawn added u
  answer_outcome a v p = go (asked b withdrawn added u) refl
    where
      go : (o : Outcome) → asked b withdrawn added u ≡ o → outcome_of a ≡ asked b withdrawn added u
      go accepted e = (p.accepts e).answers ∙ sym e
      go (refused number at) e = (p.refuses number at e).answers ∙ sym e

  pub ends_refused : (number at : ℕ) → asked b withdrawn added u ≡ refused number at → Edits b withdrawn added u (Err (refusal number at)) u
  ends_refused number at e =
      record {
        refuses = λ n i q. record { answers = sym e ∙ q; store_kept = refl; work_kept = sym (work_stays (work_used b) n u.work); list_kept = refl };
        accepts = λ q. absurd (never_both (asked b withdrawn added u) q e);
      }

  pub ends_accepted : (a : Result Changed Refusal) (v : Lent) → asked b withdrawn added u ≡ accepted → Accepts b withdrawn added u a v → Edits b withdrawn added u a v
  ends_accepted a v e p = record { refuses = λ n i q. absurd (never_both (asked b withdrawn added u) e q); accepts = λ q. p }

-- From a fresh store to a fresh store.
pub record FreshEnd (b withdrawn added : List ℕ) (F : ℕ → ℕ → Bool) (u : Lent) (names : List ℕ) (a : Result Changed Refusal) (v : Lent) : Type 0 where
  pub answers : outcome_of a ≡ accepted
  pub effects : Effects b F (edited F withdrawn added) (Closure b F) names a
  pub fresh : Fresh b (edited F withdrawn added) v.store
  pub store_rest : drop (used b) v.store ≡ drop (used b) u.store
  pub work_zero : v.work ≡ zeroed (work_used b) u.work
  pub list_is : v.list ≡ with_front names u.list

module _ (b withdrawn added : List ℕ) (F : Axioms) (u : Lent) (names : List ℕ) (a : Result Changed Refusal) (v : Lent) (fresh : Fresh b F u.store) (ok : asked b withdrawn added u ≡ accepted) where
  accepts_own : F ≡ in_force b u.store → FreshEnd b withdrawn added F u names a v → Accepts b withdrawn added u a v
  accepts_own own end =
      let F' = in_force b u.store in
      let G = edited F' withdrawn added in
      let H = Holding (held b u.store) in
      let c : Accepted b withdrawn added u = edit_accepted b withdrawn added u ok in
      let least : (e : Expression) → Closure b F' e ↔ H e =
      let p : Fresh b F' u.store = subst (λ (E : Axioms). Fresh b E u.store) own fresh in λ e. ((p.set e).1, (p.set e).0)
      in
      let q : FreshEnd b withdrawn added F' u names a v = subst (λ (E : Axioms). FreshEnd b withdrawn added E u names a v) own end in
      record {
        answers = q.answers;
        names = names;
        effects = effects_same b F' G (Closure b F') H least names a q.effects;
        marked =
            marked_same b G (Closure b G) (NewSet b F' G H) v.store
            (λ e.
            let back = change_closure b F' G c.well_formed c.range c.after_range e in
            Iff.trans (back.1, back.0) (new_set_same b F' G (Closure b F') H least e))
            q.fresh;
        store_rest = q.store_rest;
        work_zero = q.work_zero;
        list_is = q.list_is;
      }

  pub ends_fresh : FreshEnd b withdrawn added F u names a v → Edits b withdrawn added u a v
  ends_fresh end = ends_accepted b withdrawn added u a v ok (accepts_own (sym (marked-axioms b F u.store fresh)) end)
