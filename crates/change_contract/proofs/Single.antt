-- One axiom in one list is document 01's add or withdraw: axioms, questions, and what is answered and left.
use Prim.Native.Nat.{ℕ}
use native.Mathlib.Nat.{mod-add-div}
use native.Mathlib.Omega.{arith}
use mathlib.Core.Path.{◌≡◌, ap, ap₂, subst, ◌∙◌}
use mathlib.Core.Logic.{inl}
use mathlib.Core.Bool.{Bool, true, not, or-false, not-not}
use mathlib.Core.List.{List, [], ◌∷◌}
use lib.Dec.{leb, ltb}
use borrow.Author.Tests.{leb-true, le-leb, ltb-true, lt-ltb, not-true}
use Rattle.std.proofs.Common.{Result}
use Rattle.booleans.proofs.Booleans.{agree}
use Rattle.rows.specs.Bits.{some_below}
use Rattle.catalogue.specs.declared.checks.Refusal.{Refusal}
use Rattle.catalogue.specs.Words.{word, bytes_of}
use Rattle.catalogue.specs.Header.{concepts}
use Rattle.catalogue.specs.Outcome.{Outcome, accepted, ask}
use Rattle.catalogue.specs.Checks.{catalogue_checks}
use Rattle.catalogue.specs.WellFormed.{WellFormed}
use Rattle.catalogue.proofs.Outcomes.{ask_yes}
use Rattle.derivation.specs.Decided.{Marked as Holding}
use Rattle.rules.specs.Axioms.{Axioms, InRange, added, withdrawn}
use Rattle.rules.specs.Rules.{EL, Permits, Closure}
use Rattle.rules.specs.Changes.{OverDeleted, BrokenPartition, NewSet, ReturnedSet, GainedSet, GainingPartition, TouchedPartition}
use Rattle.rules.proofs.Axioms.{added_exact, withdrawn_exact, withdrawn_in_range}
use Rattle.rules.proofs.Changes.{add_as_worded, addition_removes_none, addition_touches, withdraw_as_worded, withdrawal_gains_none, withdrawal_touches}
use Rattle.rules.proofs.Counts.{size_unique, empty_size}
use Rattle.layout.specs.Parts.{in_force, held, spare_clear}
use Rattle.store.specs.Written.{axiom_count}
use Rattle.store.specs.Fresh.{Marked, Fresh}
use Rattle.store.specs.Checks.{axioms_in_limit, numbers_below, ask_store, ask_work, ask_list, ask_spare, ask_limit, ask_numbers}
use Rattle.store.proofs.AxiomCounts.{added_count, withdrawn_count}
use Rattle.store.proofs.Checks.{two_numbers, axioms_few, few_axioms, marked-axioms}
use Rattle.change_contract.specs.declared.Changed.{Changed}
use Rattle.change_contract.specs.Answers.{removed_of, returned_of, gained_of}
use Rattle.change_contract.specs.Lists.{axioms_in, left_in, right_in, among, sides_below, sides_in, edited}
use Rattle.change_contract.specs.Questions.{Lengths, is_whole, repeats, none_twice, all_in_force, none_in_force, ask_whole, ask_twice, ask_in_force, ask_new, ask_room, length_checks, axiom_checks, content_checks, change_checks}
use Rattle.change_contract.specs.Edits.{Effects, Lent, lengths, asked, Accepts, Edits}
use Rattle.change_contract.specs.Empty.{buffer_checks}
use Rattle.change_contract.specs.Single.{one, number_checks, add_checks, withdraw_checks, add_asked, withdraw_asked, Leaves, AcceptsAdd, AsAdd, FreshWithdrawal, AcceptsWithdraw, AsWithdraw}
use Rattle.change_contract.proofs.Lists.{lacking, lacking_none, lacking_step, having_none, having_step, edited_steps}
use Rattle.change_contract.proofs.Rests.{ask_rest}
use Rattle.change_contract.proofs.Checks.{Accepted, edit_accepted}
use Rattle.change_contract.proofs.Members.{members_same}
use Rattle.change_contract.proofs.Fresh.{edit_effects}
use Rattle.change_contract.proofs.Wordings.{add_same, withdraw_same}

-- ---- the axioms

one_left : (l r : ℕ) → left_in (one l r) 0 ≡ l
unfolding left_in word bytes_of
one_left l r = mod-add-div l 256

one_right : (l r : ℕ) → right_in (one l r) 0 ≡ r
unfolding right_in word bytes_of
one_right l r = mod-add-div r 256

pub one_withdrawn : (F : Axioms) (l r : ℕ) → edited F (one l r) [] ≡ withdrawn F l r
unfolding axioms_in bytes_of
one_withdrawn F l r =
    edited_steps F (one l r) []
    ∙ having_none _ []
    ∙ lacking_step F (one l r) 0
    ∙ ap (λ (G : Axioms). withdrawn G (left_in (one l r) 0) (right_in (one l r) 0)) (lacking_none F (one l r))
    ∙ ap₂ (withdrawn F) (one_left l r) (one_right l r)

pub one_added : (F : Axioms) (l r : ℕ) → edited F [] (one l r) ≡ added F l r
unfolding axioms_in bytes_of
one_added F l r =
    edited_steps F [] (one l r)
    ∙ having_step (lacking F [] 0) (one l r) 0
    ∙ ap (λ (G : Axioms). added G (left_in (one l r) 0) (right_in (one l r) 0)) (having_none (lacking F [] 0) (one l r) ∙ lacking_none F [])
    ∙ ap₂ (added F) (one_left l r) (one_right l r)

-- ---- the questions

one_sides : (l r : ℕ) → sides_in (one l r) ≡ (l ∷ r ∷ [])
unfolding sides_in sides_below axioms_in bytes_of
one_sides l r = ap₂ (λ (x y : ℕ). x ∷ y ∷ []) (one_left l r) (one_right l r)

pub one_new : (F : Axioms) (l r : ℕ) → none_in_force F (one l r) ≡ not (F l r)
unfolding none_in_force some_below axioms_in bytes_of
one_new F l r = ap not (or-false (F (left_in (one l r) 0) (right_in (one l r) 0)) ∙ ap₂ F (one_left l r) (one_right l r))

pub one_in_force : (F : Axioms) (l r : ℕ) → all_in_force F (one l r) ≡ F l r
unfolding all_in_force some_below axioms_in bytes_of
one_in_force F l r =
    ap not (or-false (not (F (left_in (one l r) 0) (right_in (one l r) 0))))
    ∙ not-not (F (left_in (one l r) 0) (right_in (one l r) 0))
    ∙ ap₂ F (one_left l r) (one_right l r)

module _ (b : List ℕ) (F : Axioms) (l r : ℕ) (numbers : numbers_below b (l ∷ r ∷ []) ≡ true) where
  -- At most 4,096 with a new one: fewer than 4,096 without.
  room_for_one : not (F l r) ≡ true → axioms_in_limit b (added F l r) ≡ ltb (axiom_count b F) 4096
  unfolding axioms_in_limit
  room_for_one lacks =
      let (hl, hr) = two_numbers b l r numbers in
      let count = added_count b F l r hl hr (not-true (F l r) lacks) in
      let before = axiom_count b F in
      let after = axiom_count b (added F l r) in
      agree (leb after 4096) (ltb before 4096)
      (λ e. lt-ltb before 4096 (omega (arith, count, leb-true after 4096 e)))
      (λ e. le-leb after 4096 (omega (arith, count, ltb-true before 4096 e)))

  -- One less of at most 4,096.
  room_after_one : F l r ≡ true → axioms_in_limit b F ≡ true → axioms_in_limit b (withdrawn F l r) ≡ true
  room_after_one there few =
      let (hl, hr) = two_numbers b l r numbers in
      few_axioms b (withdrawn F l r) (omega (arith, withdrawn_count b F l r hl hr there, axioms_few b F few))

module _ (b : List ℕ) (l r : ℕ) (lent : Lengths) (clear few : Bool) (F : Axioms) where
  pub one_add_asks : change_checks b [] (one l r) lent clear few F ≡ add_checks b l r lent clear few F
  unfolding change_checks length_checks content_checks axiom_checks add_checks number_checks buffer_checks ask_whole ask_twice ask_numbers ask_in_force ask_new ask_room is_whole none_twice repeats among all_in_force axioms_in bytes_of some_below ask
  one_add_asks =
      ap (λ (o : Outcome). catalogue_checks b (ask_store b lent.store (ask_work b lent.work (ask_list b lent.list (ask_spare clear (ask_limit few o))))))
      (ap (λ (names : List ℕ). ask_numbers b names (ask_new F (one l r) (ask_room b (edited F [] (one l r)) accepted))) (one_sides l r)
      ∙ ask_rest (numbers_below b (l ∷ r ∷ [])) 15 0
      (λ numbers.
      ap (λ (t : Bool). ask t 16 0 (ask_room b (edited F [] (one l r)) accepted)) (one_new F l r)
      ∙ ask_rest (not (F l r)) 16 0
      (λ lacks. ap (λ (t : Bool). ask t 17 0 accepted) (ap (axioms_in_limit b) (one_added F l r) ∙ room_for_one b F l r numbers lacks))))

  -- 17 is answered yes where 14 is.
  pub one_withdraw_asks : (few ≡ true → axioms_in_limit b F ≡ true) → change_checks b (one l r) [] lent clear few F ≡ withdraw_checks b l r lent clear few F
  unfolding change_checks length_checks content_checks axiom_checks withdraw_checks number_checks buffer_checks ask_whole ask_twice ask_limit ask_numbers ask_in_force ask_new ask_room is_whole none_twice repeats among none_in_force axioms_in bytes_of some_below ask
  one_withdraw_asks limit =
      ap (λ (o : Outcome). catalogue_checks b (ask_store b lent.store (ask_work b lent.work (ask_list b lent.list (ask_spare clear o)))))
      (ask_rest few 14 0
      (λ limited.
      ap (λ (names : List ℕ). ask_numbers b names (ask_in_force F (one l r) (ask_room b (edited F (one l r) []) accepted))) (one_sides l r)
      ∙ ask_rest (numbers_below b (l ∷ r ∷ [])) 15 0
      (λ numbers.
      ap (λ (t : Bool). ask t 18 0 (ask_room b (edited F (one l r) []) accepted)) (one_in_force F l r)
      ∙ ask_rest (F l r) 18 0 (λ there. ask_yes 17 0 accepted (ap (axioms_in_limit b) (one_withdrawn F l r) ∙ room_after_one b F l r numbers there (limit limited))))))

module _ (b : List ℕ) (l r : ℕ) (u : Lent) where
  one_add_asked : asked b [] (one l r) u ≡ add_asked b l r u
  unfolding asked add_asked
  one_add_asked = one_add_asks b l r (lengths u) (spare_clear b u.store) _ (in_force b u.store)

  one_withdraw_asked : asked b (one l r) [] u ≡ withdraw_asked b l r u
  unfolding asked withdraw_asked
  one_withdraw_asked = one_withdraw_asks b l r (lengths u) (spare_clear b u.store) _ (in_force b u.store) (λ e. e)

-- ---- what is answered and left

-- An accepted change, where G is in force afterwards.
module _ (b withdrawn added : List ℕ) (u : Lent) (a : Result Changed Refusal) (v : Lent) (x : Accepts b withdrawn added u a v) (G : Axioms) (same : edited (in_force b u.store) withdrawn added ≡ G) where
  effects_to : Effects b (in_force b u.store) G (Holding (held b u.store)) x.names a
  effects_to = subst (λ (E : Axioms). Effects b (in_force b u.store) E (Holding (held b u.store)) x.names a) same x.effects

  leaves_to : Leaves b G (NewSet b (in_force b u.store) G (Holding (held b u.store))) x.names u a v
  leaves_to =
      record {
        answers = x.answers;
        marked = subst (λ (E : Axioms). Marked b E (NewSet b (in_force b u.store) E (Holding (held b u.store))) v.store) same x.marked;
        store_rest = x.store_rest;
        work_zero = x.work_zero;
        list_is = x.list_is;
        touched_counted = x.effects.touched_counted;
      }

-- One axiom added.
module _ (b : List ℕ) (l r : ℕ) (u : Lent) (a : Result Changed Refusal) (v : Lent) (p : Edits b [] (one l r) u a v) where
  accepts_add : asked b [] (one l r) u ≡ accepted → AcceptsAdd b l r u a v
  accepts_add ok =
      let F = in_force b u.store in
      let G = added F l r in
      let H = Holding (held b u.store) in
      let c : Accepted b [] (one l r) u = edit_accepted b [] (one l r) u ok in
      let x = p.accepts ok in
      let e : Effects b F G H x.names a = effects_to b [] (one l r) u a v x G (one_added F l r) in
      let left : Leaves b G (NewSet b F G H) x.names u a v = leaves_to b [] (one l r) u a v x G (one_added F l r) in
      let after : InRange b G = subst (InRange b) (one_added F l r) c.after_range in
      let grows : (c d : ℕ) → F c d ≡ true → G c d ≡ true = λ c d f. (added_exact F l r c d).1 (inl f) in
      let none = addition_removes_none b F G c.well_formed c.range after grows H in
      record {
        names = x.names;
        effects =
            record {
              as_worded =
                  add_same (EL b) (Permits b F) (Permits b G) H (NewSet b F G H) (Holding (held b v.store)) (λ y. ((left.marked.set y).1, (left.marked.set y).0))
                  (add_as_worded b F G c.well_formed c.range after grows H);
              none_removed = size_unique b (OverDeleted b F G H) (removed_of a) 0 e.removed_counted (empty_size b (OverDeleted b F G H) none);
              none_returned = size_unique b (ReturnedSet b F G H) (returned_of a) 0 e.returned_counted (empty_size b (ReturnedSet b F G H) (λ y o. none y o.0));
              gained_counted = e.gained_counted;
              listed =
                  members_same (concepts b) (TouchedPartition b F G H) (GainingPartition b F G H) x.names
                  (addition_touches b F G c.well_formed c.range after grows H) e.listed;
            };
        leaves = left;
      }

  pub one_as_add : AsAdd b l r u a v
  one_as_add =
      record {
        asks = one_add_asked b l r u;
        refuses = λ number at e. p.refuses number at (one_add_asked b l r u ∙ e);
        accepts = λ e. accepts_add (one_add_asked b l r u ∙ e);
      }

-- One axiom withdrawn.
module _ (b : List ℕ) (l r : ℕ) (u : Lent) (a : Result Changed Refusal) (v : Lent) (p : Edits b (one l r) [] u a v) where
  shrinks : (F : Axioms) (c d : ℕ) → withdrawn F l r c d ≡ true → F c d ≡ true
  shrinks F c d e = ((withdrawn_exact F l r c d).0 e).0

  withdraws_fresh : (ok : asked b (one l r) [] u ≡ accepted) (F : Axioms) → Fresh b F u.store → FreshWithdrawal b l r F (p.accepts ok).names a
  withdraws_fresh ok F fresh =
      let G = withdrawn F l r in
      let wf : WellFormed b = (edit_accepted b (one l r) [] u ok).well_formed in
      let range : InRange b F = subst (InRange b) (marked-axioms b F u.store fresh) (edit_accepted b (one l r) [] u ok).range in
      let after : InRange b G = withdrawn_in_range b F l r range in
      let e : Effects b F G (Closure b F) (p.accepts ok).names a =
      subst (λ (E : Axioms). Effects b F E (Closure b F) (p.accepts ok).names a) (one_withdrawn F l r) (edit_effects b (one l r) [] u a v p ok F fresh)
      in
      record {
        none_gained =
            size_unique b (GainedSet b F G (Closure b F)) (gained_of a) 0 e.gained_counted
            (empty_size b (GainedSet b F G (Closure b F)) (withdrawal_gains_none b F G wf range after (shrinks F)));
        listed =
            members_same (concepts b) (TouchedPartition b F G (Closure b F)) (BrokenPartition b F G (Closure b F)) (p.accepts ok).names
            (withdrawal_touches b F G wf range after (shrinks F)) e.listed;
      }

  accepts_withdraw : asked b (one l r) [] u ≡ accepted → AcceptsWithdraw b l r u a v
  accepts_withdraw ok =
      let F = in_force b u.store in
      let G = withdrawn F l r in
      let H = Holding (held b u.store) in
      let c : Accepted b (one l r) [] u = edit_accepted b (one l r) [] u ok in
      let x = p.accepts ok in
      let e : Effects b F G H x.names a = effects_to b (one l r) [] u a v x G (one_withdrawn F l r) in
      let left : Leaves b G (NewSet b F G H) x.names u a v = leaves_to b (one l r) [] u a v x G (one_withdrawn F l r) in
      record {
        names = x.names;
        effects =
            record {
              as_worded =
                  withdraw_same (EL b) (Permits b F) (Permits b G) H (NewSet b F G H) (Holding (held b v.store)) (λ y. ((left.marked.set y).1, (left.marked.set y).0))
                  (OverDeleted b F G H)
                  (withdraw_as_worded b F G c.well_formed c.range (withdrawn_in_range b F l r c.range) (shrinks F) H);
              removed_counted = e.removed_counted;
              returned_counted = e.returned_counted;
              gained_counted = e.gained_counted;
            };
        fresh = withdraws_fresh ok;
        leaves = left;
      }

  pub one_as_withdraw : AsWithdraw b l r u a v
  one_as_withdraw =
      record {
        asks = one_withdraw_asked b l r u;
        refuses = λ number at e. p.refuses number at (one_withdraw_asked b l r u ∙ e);
        accepts = λ e. accepts_withdraw (one_withdraw_asked b l r u ∙ e);
      }
