-- What a change answers and leaves: from the counts and the touched concepts of a change of the least set, and with 4,096 axioms in force.
use Prim.Native.Nat.{ℕ, ◌*◌, ◌≤◌}
use native.Mathlib.Omega.{arith}
use mathlib.Core.Path.{◌≡◌, refl, sym, ap, ap₂, fun_ext, ◌∙◌}
use mathlib.Core.Bool.{true, false, ◌&&◌}
use mathlib.Core.Logic.{inl, inr, ⊎_elim}
use mathlib.Core.List.{List, [], ◌∷◌, ◌++◌}
use lib.ListN.{length, drop}
use borrow.Author.Tests.{le-leb}
use Rattle.std.proofs.Common.{Result}
use Rattle.booleans.proofs.Booleans.{agree, and_left, by_bool, not-both}
use Rattle.rows.specs.Bits.{some_below}
use Rattle.catalogue.specs.declared.checks.Refusal.{Refusal}
use Rattle.catalogue.specs.Words.{bytes_of}
use Rattle.catalogue.specs.Header.{concepts}
use Rattle.catalogue.specs.Outcome.{Outcome, accepted, refused, ask}
use Rattle.catalogue.specs.Checks.{checked}
use Rattle.catalogue.proofs.Outcomes.{ask_yes, ask_accepted}
use Rattle.catalogue.proofs.Passed.{after_accepted}
use Rattle.rules.specs.Axioms.{Axioms, InRange}
use Rattle.rules.specs.Rules.{Closure}
use Rattle.rules.specs.Changes.{OverDeleted, ReturnedSet, GainedSet, TouchedPartition}
use Rattle.rules.proofs.Counts.{size_unique}
use Rattle.layout.specs.Parts.{used, work_used}
use Rattle.store.specs.Written.{numbered, axiom_count}
use Rattle.store.specs.Fresh.{Fresh}
use Rattle.store.specs.Checks.{every, store_fits, work_fits, list_fits, axioms_in_limit, numbers_below, ask_store, ask_work, ask_list, ask_spare, ask_limit, ask_numbers}
use Rattle.number_lists.specs.Lists.{with_front}
use Rattle.change_contract.specs.Lists.{axioms_in, among, listed, sides_below, sides_in, edited}
use Rattle.change_contract.specs.Questions.{Lengths, is_whole, repeats, none_twice, all_in_force, none_in_force, ask_whole, ask_twice, ask_in_force, ask_new, ask_room, length_checks, axiom_checks, content_checks, change_checks}
use Rattle.change_contract.specs.Answers.{removed_of, returned_of, gained_of, changed}
use Rattle.change_contract.specs.Edits.{Lent, lengths, asked, Edits}
use Rattle.change_contract.specs.declared.Changed as edit
use Rattle.change_contract.proofs.Lists.{whole_long, listed_exact, edited_exact, edited_in_range, in_force_at}
use Rattle.change_contract.proofs.Checks.{asked_by_axioms}
use Rattle.change_contract.proofs.Members.{members_unique}
use Rattle.change_contract.proofs.Unique.{accepted_answer}
use Rattle.change_contract.proofs.Fresh.{edit_fresh, edit_effects}
use Rattle.change_contract.proofs.Empty.{empty_unchanged}
use Rattle.examples_common.specs.Calls.{ChangeGives}
use Rattle.examples_common.specs.Entries.{Changed}
use Rattle.examples_common.specs.Computed.{closure_of}

-- Two bytes to a number.
length_bytes_of : (names : List ℕ) → length (bytes_of names) ≡ 2 * length names
unfolding bytes_of
length_bytes_of [] = refl
length_bytes_of (c ∷ names) = omega (arith, length_bytes_of names)

-- ---- from a change of the least set

-- What a change asks of its lists and of the axioms in force F: 22, 23, and 15 to 18.
-- It unfolds all that it computes with.
unfoldable pub lists_asked : (b withdrawn added : List ℕ) → Axioms → Outcome
unfolding closure_of numbered axiom_count every axioms_in_limit ask ask_spare ask_limit ask_numbers sides_below sides_in is_whole repeats none_twice all_in_force none_in_force ask_whole ask_twice ask_in_force ask_new ask_room axiom_checks content_checks
lists_asked b withdrawn added F = ask_whole (length withdrawn) (length added) (content_checks b withdrawn added true true F)

asked_lists : (b withdrawn added : List ℕ) (F : Axioms) → lists_asked b withdrawn added F ≡ ask_whole (length withdrawn) (length added) (content_checks b withdrawn added true true F)
unfolding lists_asked
asked_lists b withdrawn added F = refl

-- On a catalogue that is accepted and with enough bytes lent, no more is asked.
pub asked_of_lists : (b withdrawn added : List ℕ) (F : Axioms) (long : Lengths) (o : Outcome) → lists_asked b withdrawn added F ≡ o → checked b ≡ accepted → used b ≤ long.store → work_used b ≤ long.work
    → 2 * concepts b ≤ long.list → change_checks b withdrawn added long true true F ≡ o
unfolding change_checks length_checks ask_store ask_work ask_list store_fits work_fits list_fits
asked_of_lists b withdrawn added F long o asks catalogue store_long work_long list_long =
    after_accepted b _ catalogue
    ∙ ask_yes 10 0 _ (le-leb _ _ store_long)
    ∙ ask_yes 11 0 _ (le-leb _ _ work_long)
    ∙ ask_yes 12 0 _ (le-leb _ _ list_long)
    ∙ sym (asked_lists b withdrawn added F)
    ∙ asks

-- All of it answered yes.
module _ (b withdrawn added : List ℕ) (F : Axioms) (asks : lists_asked b withdrawn added F ≡ accepted) where
  pub changed_in_range : InRange b F → InRange b (edited F withdrawn added)
  unfolding ask ask_whole content_checks ask_twice ask_spare ask_limit ask_numbers
  changed_in_range range =
      let whole = ask_accepted (is_whole (length withdrawn) && is_whole (length added)) 22 0 _ (sym (asked_lists b withdrawn added F) ∙ asks) in
      let once = ask_accepted (none_twice (withdrawn ++ added)) 23 0 _ whole.1 in
      let numbers = ask_accepted (numbers_below b (sides_in (withdrawn ++ added))) 15 0 _ once.1 in
      edited_in_range b withdrawn added (whole_long (length withdrawn) (and_left (is_whole (length withdrawn)) (is_whole (length added)) whole.0)).1 numbers.0 F range

  -- So a change is accepted, lent a store that is fresh for F and enough bytes.
  module _ (catalogue : checked b ≡ accepted) (few : axiom_count b F ≤ 4096) where
    pub change_asked : (u : Lent) → Fresh b F u.store → work_used b ≤ length u.work → 2 * concepts b ≤ length u.list → asked b withdrawn added u ≡ accepted
    change_asked u fresh work_long list_long =
        asked_by_axioms b F withdrawn added u fresh few ∙ asked_of_lists b withdrawn added F (lengths u) accepted asks catalogue fresh.long work_long list_long

    pub change_gives : (x y z : ℕ) (broken gaining touched : List ℕ) → Changed b F (edited F withdrawn added) x y z broken gaining touched
        → ChangeGives b withdrawn added F (edited F withdrawn added) (work_used b) (2 * concepts b) (changed x y z (length touched)) (bytes_of touched)
    unfolding with_front
    change_gives x y z broken gaining touched c u a v p fresh work_long list_long =
        let G = edited F withdrawn added in
        let H = Closure b F in
        let ok = change_asked u fresh work_long list_long in
        let e = edit_effects b withdrawn added u a v p ok F fresh in
        let same : (p.accepts ok).names ≡ touched = members_unique (concepts b) (TouchedPartition b F G H) (p.accepts ok).names touched e.listed c.touched_right in (
          accepted_answer a (p.accepts ok).answers
              (size_unique b (OverDeleted b F G H) (removed_of a) x e.removed_counted c.removed-right)
              (size_unique b (ReturnedSet b F G H) (returned_of a) y e.returned_counted c.returned-right)
              (size_unique b (GainedSet b F G H) (gained_of a) z e.gained_counted c.gained-right)
              (e.touched_counted ∙ ap length same),
          edit_fresh b withdrawn added u a v p ok F fresh,
          (p.accepts ok).list_is
              ∙ ap (λ (ns : List ℕ). with_front ns u.list) same
              ∙ ap (λ (k : ℕ). bytes_of touched ++ drop k u.list) (sym (length_bytes_of touched)),
        )

-- ---- empty lists, and lists put back

none_listed : (c d : ℕ) → listed [] c d ≡ false
unfolding listed among axioms_in some_below
none_listed c d = refl

-- Where nothing is added, what is in force was.
was_in_force : (F : Axioms) (withdrawn : List ℕ) (c d : ℕ) → edited F withdrawn [] c d ≡ true → F c d ≡ true
was_in_force F withdrawn c d e = ⊎_elim (λ (f, n). f) (λ h. absurd (not-both h (none_listed c d))) ((edited_exact F withdrawn [] c d).0 e)

-- Two empty lists leave a store that is classified afresh as it was.
pub empty_keeps : (b : List ℕ) (F : Axioms) (u : Lent) (a : Result edit.Changed Refusal) (v : Lent) → Edits b [] [] u a v → Fresh b F u.store → v.store ≡ u.store
empty_keeps b F u a v p fresh = go (asked b [] [] u) refl
  where
    go : (o : Outcome) → asked b [] [] u ≡ o → v.store ≡ u.store
    go (refused number at) e = (p.refuses number at e).store_kept
    go accepted e = (empty_unchanged b u a v p e).store_same fresh.bytes

-- What was in force, withdrawn and then added, is in force as before.
pub put_back : (F : Axioms) (list : List ℕ) → all_in_force F list ≡ true → edited (edited F list []) [] list ≡ F
put_back F list there =
    fun_ext (λ c. fun_ext (λ d.
    agree (edited (edited F list []) [] list c d) (F c d)
    (λ e. ⊎_elim (λ (g, n). was_in_force F list c d g) (on_it c d) ((edited_exact (edited F list []) [] list c d).0 e))
    (λ f.
    (edited_exact (edited F list []) [] list c d).1
    (by_bool (listed list c d)
    inr
    (λ out. inl ((edited_exact F list [] c d).1 (inl (f, λ h. not-both h out)), λ h. not-both h (none_listed c d)))))))
  where
    on_it : (c d : ℕ) → listed list c d ≡ true → F c d ≡ true
    on_it c d h =
        let (j, l, x, y) = (listed_exact list c d).0 h in
        sym (ap₂ F x y) ∙ in_force_at F list there j l
