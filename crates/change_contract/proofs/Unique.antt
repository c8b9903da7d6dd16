-- A change leaves one outcome: two exits at equal entries are equal, the answer and every lent byte.
use Prim.Native.Nat.{ℕ}
use native.Mathlib.Omega.{arith}
use mathlib.Core.Path.{◌≡◌, refl, sym, ap, ap₂, ◌∙◌}
use mathlib.Core.List.{List, ◌++◌}
use lib.ListN.{length, take-append-drop}
use Rattle.std.proofs.Common.{Result, Ok, Err}
use Rattle.catalogue.specs.declared.checks.Refusal.{Refusal}
use Rattle.catalogue.specs.Header.{concepts}
use Rattle.catalogue.specs.Outcome.{Outcome, accepted, refused}
use Rattle.catalogue.specs.Verdicts.{refusal}
use Rattle.derivation.specs.Decided.{Marked as Holding}
use Rattle.rules.specs.Axioms.{Axioms}
use Rattle.rules.specs.Rules.{Expression}
use Rattle.rules.specs.Changes.{OverDeleted, NewSet, ReturnedSet, GainedSet, TouchedPartition}
use Rattle.rules.proofs.Counts.{size_unique}
use Rattle.layout.specs.Parts.{used, in_force, held}
use Rattle.store.proofs.Fresh.{marked_unique}
use Rattle.number_lists.specs.Lists.{with_front}
use Rattle.change_contract.specs.declared.Changed.{Changed}
use Rattle.change_contract.specs.Lists.{edited}
use Rattle.change_contract.specs.Answers.{outcome_of, removed_of, returned_of, gained_of, touched_of, changed}
use Rattle.change_contract.specs.Edits.{Effects, Lent, lend, asked, Edits}
use Rattle.change_contract.proofs.Checks.{edit_accepted}
use Rattle.change_contract.proofs.Members.{members_unique}

-- An answer is decided by its outcome and its four counts.
pub refused_answer : (a : Result Changed Refusal) {number at : ℕ} → outcome_of a ≡ refused number at → a ≡ Err (refusal number at)
refused_answer (Ok c) e = let z : ◌≡◌ {A = ℕ} 0 1 = cc in absurd (omega arith)
refused_answer (Err r) {number} {at} e =
    let n : r.number ≡ number = cc in
    let k : r.at ≡ at = cc in
    ap₂ (λ (x y : ℕ). Err (refusal x y)) n k

pub accepted_answer : (a : Result Changed Refusal) {removed returned gained touched : ℕ} → outcome_of a ≡ accepted → removed_of a ≡ removed → returned_of a ≡ returned → gained_of a ≡ gained
    → touched_of a ≡ touched → a ≡ Ok (changed removed returned gained touched)
accepted_answer (Ok c) e p q r s = simp (← p, ← q, ← r, ← s)
accepted_answer (Err x) e p q r s = let z : ◌≡◌ {A = ℕ} 0 1 = cc in absurd (omega arith)

-- The effects leave one list of names, and one of each count.
module _ (b : List ℕ) (F G : Axioms) (H : Expression → Type 0) (names names' : List ℕ) (a a' : Result Changed Refusal) (p : Effects b F G H names a) (q : Effects b F G H names' a') where
  names_unique : names ≡ names'
  names_unique = members_unique (concepts b) (TouchedPartition b F G H) names names' p.listed q.listed

  pub effects_unique : outcome_of a ≡ accepted → outcome_of a' ≡ accepted → (a ≡ a') × (names ≡ names')
  effects_unique e e' =
      let removed = size_unique b (OverDeleted b F G H) (removed_of a) (removed_of a') p.removed_counted q.removed_counted in
      let returned = size_unique b (ReturnedSet b F G H) (returned_of a) (returned_of a') p.returned_counted q.returned_counted in
      let gained = size_unique b (GainedSet b F G H) (gained_of a) (gained_of a') p.gained_counted q.gained_counted in
      let touched : touched_of a ≡ touched_of a' = p.touched_counted ∙ ap length names_unique ∙ sym q.touched_counted in
      (accepted_answer a e removed returned gained touched ∙ sym (accepted_answer a' e' refl refl refl refl), names_unique)

-- Buffers are the same where each of them is.
pub same_buffers : {u v : Lent} → u.store ≡ v.store → u.work ≡ v.work → u.list ≡ v.list → u ≡ v
same_buffers {u} {v} s w t = ap₂ (λ (x y : List ℕ). lend x y u.list) s w ∙ ap (lend v.store v.work) t

module _ (b withdrawn added : List ℕ) (u : Lent) (a a' : Result Changed Refusal) (v v' : Lent) (p : Edits b withdrawn added u a v) (q : Edits b withdrawn added u a' v') where
  unique_by : (o : Outcome) → asked b withdrawn added u ≡ o → (a ≡ a') × (v ≡ v')
  unique_by (refused number at) e =
      let x = p.refuses number at e in
      let y = q.refuses number at e in (
        refused_answer a x.answers ∙ sym (refused_answer a' y.answers),
        same_buffers (x.store_kept ∙ sym y.store_kept) (x.work_kept ∙ sym y.work_kept) (x.list_kept ∙ sym y.list_kept),
      )
  unique_by accepted e =
      let x = p.accepts e in
      let y = q.accepts e in
      let F = in_force b u.store in
      let G = edited F withdrawn added in
      let H = Holding (held b u.store) in
      let (same, names) = effects_unique b F G H x.names y.names a a' x.effects y.effects x.answers y.answers in
      let front = marked_unique b G (NewSet b F G H) v.store v'.store (edit_accepted b withdrawn added u e).well_formed x.marked y.marked in (
        same,
        same_buffers
            (sym (take-append-drop (used b) v.store) ∙ ap₂ ◌++◌ front (x.store_rest ∙ sym y.store_rest) ∙ take-append-drop (used b) v'.store)
            (x.work_zero ∙ sym y.work_zero)
            (x.list_is ∙ ap (λ (ns : List ℕ). with_front ns u.list) names ∙ sym y.list_is),
      )

  pub edit_unique : (a ≡ a') × (v ≡ v')
  edit_unique = unique_by (asked b withdrawn added u) refl
