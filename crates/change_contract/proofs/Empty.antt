-- Two empty lists are asked 1 to 14 alone, and change no pair or link, whatever the store.
use Prim.Native.Nat.{ℕ}
use mathlib.Core.Path.{◌≡◌, refl, sym, ap, ap₂, subst, ◌∙◌}
use mathlib.Core.Logic.Iff
use mathlib.Core.Logic.{◌↔◌, inl, inr}
use mathlib.Core.Bool.{Bool, true}
use mathlib.Core.List.Memᴰ
use mathlib.Core.List.{List, [], ◌∷◌, ◌++◌}
use lib.ListN.{length, take-append-drop}
use Rattle.std.proofs.Common.{Result, Ok}
use Rattle.booleans.proofs.Booleans.{agree}
use Rattle.rows.specs.Bits.{some_below}
use Rattle.catalogue.specs.declared.checks.Refusal.{Refusal}
use Rattle.catalogue.specs.Words.{bytes_of}
use Rattle.catalogue.specs.Header.{concepts}
use Rattle.catalogue.specs.Outcome.{Outcome, accepted, ask}
use Rattle.catalogue.specs.Checks.{catalogue_checks}
use Rattle.catalogue.proofs.Outcomes.{ask_yes}
use Rattle.derivation.specs.Decided.{Marked as Holding}
use Rattle.derivation.specs.Finite.{each}
use Rattle.derivation.proofs.Change.{over_none, unchanged}
use Rattle.rules.specs.Axioms.{Axioms}
use Rattle.rules.specs.Rules.{Expression, EL, Permits}
use Rattle.rules.specs.Changes.{OverDeleted, NewSet, ReturnedSet, GainedSet, TouchedPartition}
use Rattle.rules.proofs.Counts.{size_unique, empty_size}
use Rattle.layout.specs.Parts.{used, in_force, held, spare_clear}
use Rattle.store.specs.Fresh.{Marked}
use Rattle.store.specs.Checks.{axioms_in_limit, ask_store, ask_work, ask_list, ask_spare, ask_limit, ask_numbers}
use Rattle.store.proofs.Fresh.{marked_unique}
use Rattle.number_lists.specs.Lists.{with_front}
use Rattle.change_contract.specs.declared.Changed.{Changed}
use Rattle.change_contract.specs.Answers.{outcome_of, removed_of, returned_of, gained_of, changed}
use Rattle.change_contract.specs.Lists.{axioms_in, sides_below, sides_in, edited}
use Rattle.change_contract.specs.Questions.{Lengths, is_whole, none_twice, all_in_force, none_in_force, ask_whole, ask_twice, ask_in_force, ask_new, ask_room, length_checks, axiom_checks, content_checks, change_checks}
use Rattle.change_contract.specs.Edits.{Members, Effects, Lent, lengths, asked, Edits}
use Rattle.change_contract.specs.Empty.{buffer_checks, Unchanged}
use Rattle.change_contract.proofs.Rests.{ask_rest}
use Rattle.change_contract.proofs.Lists.{lacking_none, having_none, edited_steps}
use Rattle.change_contract.proofs.Checks.{Accepted, edit_accepted}
use Rattle.change_contract.proofs.Members.{member_exact}
use Rattle.change_contract.proofs.Sets.{marked_same}
use Rattle.change_contract.proofs.Unique.{accepted_answer}

-- ---- the axioms and the questions

pub none_edited : (F : Axioms) → edited F [] [] ≡ F
unfolding axioms_in
none_edited F = edited_steps F [] [] ∙ having_none _ [] ∙ lacking_none F []

-- 22, 23, 15, 18 and 16 are answered yes, and 17 as well, where 14 is.
pub empty_asks : (b : List ℕ) (lent : Lengths) (clear few : Bool) (F : Axioms) → (few ≡ true → axioms_in_limit b F ≡ true)
    → change_checks b [] [] lent clear few F ≡ buffer_checks b lent clear few accepted
unfolding change_checks length_checks content_checks axiom_checks buffer_checks ask_whole ask_twice ask_limit ask_numbers ask_in_force ask_new ask_room is_whole none_twice all_in_force none_in_force axioms_in sides_in sides_below some_below each ask
empty_asks b lent clear few F limit =
    ap (λ (o : Outcome). catalogue_checks b (ask_store b lent.store (ask_work b lent.work (ask_list b lent.list (ask_spare clear o)))))
    (ap (λ (G : Axioms). ask_limit few (ask_room b G accepted)) (none_edited F) ∙ ask_rest few 14 0 (λ e. ask_yes 17 0 accepted (limit e)))

pub empty_asked : (b : List ℕ) (u : Lent) → asked b [] [] u ≡ buffer_checks b (lengths u) (spare_clear b u.store) (axioms_in_limit b (in_force b u.store)) accepted
unfolding asked
empty_asked b u = empty_asks b (lengths u) (spare_clear b u.store) _ (in_force b u.store) (λ e. e)

-- ---- nothing changes

-- A set without members has no names.
none_named : (n : ℕ) (T : ℕ → Type 0) (names : List ℕ) → Members n T names → ((c : ℕ) → ¬ (T c)) → names ≡ []
none_named n T [] p none = refl
none_named n T (c ∷ names) p none = absurd (none c ((member_exact n T (c ∷ names) p c).0 (Memᴰ.head refl)))

-- Where the axioms in force stay, of any held set.
module _ (b : List ℕ) (F : Axioms) (H : Expression → Type 0) where
  none_over : (e : Expression) → ¬ (OverDeleted b F F H e)
  none_over e = over_none (EL b) (Permits b F) (Permits b F) H (λ i p. p)

  pub new_set_held : (e : Expression) → NewSet b F F H e ↔ H e
  new_set_held = unchanged (EL b) (Permits b F) (Permits b F) H (λ i. Iff.rfl)

  none_gained : (e : Expression) → ¬ (GainedSet b F F H e)
  none_gained e g = g.1 ((new_set_held e).0 g.0)

  none_touched : (c : ℕ) → ¬ (TouchedPartition b F F H c)
  none_touched c (inl o) = none_over o.0 o.1
  none_touched c (inr g) = none_gained g.0 g.1

  pub no_effects : (names : List ℕ) (a : Result Changed Refusal) → outcome_of a ≡ accepted → Effects b F F H names a → (a ≡ Ok (changed 0 0 0 0)) × (names ≡ [])
  no_effects names a ok p =
      let named : names ≡ [] = none_named (concepts b) (TouchedPartition b F F H) names p.listed none_touched in (
        accepted_answer a ok
            (size_unique b (OverDeleted b F F H) (removed_of a) 0 p.removed_counted (empty_size b (OverDeleted b F F H) none_over))
            (size_unique b (ReturnedSet b F F H) (returned_of a) 0 p.returned_counted (empty_size b (ReturnedSet b F F H) (λ e o. none_over e o.0)))
            (size_unique b (GainedSet b F F H) (gained_of a) 0 p.gained_counted (empty_size b (GainedSet b F F H) none_gained))
            (p.touched_counted ∙ ap length named),
        named,
      )

front_none : (list : List ℕ) → with_front [] list ≡ list
unfolding with_front bytes_of
front_none list = refl

module _ (b : List ℕ) (u : Lent) (a : Result Changed Refusal) (v : Lent) (p : Edits b [] [] u a v) (ok : asked b [] [] u ≡ accepted) where
  abbrev F : Axioms
  F = in_force b u.store

  abbrev H : Expression → Type 0
  H = Holding (held b u.store)

  marks : Marked b F H v.store
  marks =
      marked_same b F (NewSet b F F H) H v.store (new_set_held b F H)
      (subst (λ (G : Axioms). Marked b G (NewSet b F G H) v.store) (none_edited F) (p.accepts ok).marked)

  pub empty_unchanged : Unchanged b u a v
  empty_unchanged =
      let x = p.accepts ok in
      let c : Accepted b [] [] u = edit_accepted b [] [] u ok in
      let (answers, named) = no_effects b F H x.names a x.answers (subst (λ (G : Axioms). Effects b F G H x.names a) (none_edited F) x.effects) in
      record {
        answers = answers;
        held_same = λ e. agree (held b v.store e) (held b u.store e) (marks.set e).0 (marks.set e).1;
        axioms_same = marks.axioms;
        store_rest = x.store_rest;
        work_zero = x.work_zero;
        list_same = x.list_is ∙ ap (λ (names : List ℕ). with_front names u.list) named ∙ front_none u.list;
        store_same = λ bytes.
            let before : Marked b F H u.store = record { long = c.store_fits; axioms = λ c d. refl; set = λ e. Iff.rfl; spare = c.clear; bytes = bytes } in
            sym (take-append-drop (used b) v.store)
            ∙ ap₂ ◌++◌ (marked_unique b F H v.store u.store c.well_formed marks before) x.store_rest
            ∙ take-append-drop (used b) u.store;
      }
