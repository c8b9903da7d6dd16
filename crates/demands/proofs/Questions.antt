-- A call's questions are answered in order: the first no is the first fault that is there.
use Prim.Native.Nat.{ℕ, ◌+◌, ◌-◌, ◌*◌, ◌%◌, ◌≤◌, ◌<◌}
use native.Mathlib.Omega.{arith}
use mathlib.Core.Path.{◌≡◌, refl, sym, subst, ◌∙◌}
use mathlib.Core.Bool.{Bool, true, false, not, ◌&&◌}
use mathlib.Core.Logic.{◌⊎◌, inl, inr, ⊎_elim}
use mathlib.Core.List.{List, [], ◌∷◌, ◌++◌, Memᴰ}
use lib.Dec.{leb, ltb, eqb}
use lib.ListN.{length}
use borrow.Author.Tests.{leb-true, leb-false, ltb-true, ltb-false, eq-eqb, not-true, not-false}
use Rattle.booleans.proofs.Booleans.{by_bool, not-both, not_true_false, and_left, and_right, and_both}
use Rattle.rows.specs.Bits.{bit, place}
use Rattle.rows.proofs.Counting.{some_which, none_below}
use Rattle.derivation.proofs.Finite.{each_true}
use Rattle.catalogue.specs.Header.{concepts}
use Rattle.catalogue.specs.Outcome.{Outcome, accepted, refused, ask}
use Rattle.catalogue.specs.Checks.{checked, catalogue_checks}
use Rattle.catalogue.specs.WellFormed.{WellFormed}
use Rattle.catalogue.proofs.Outcomes.{never_both}
use Rattle.catalogue.proofs.Passed.{after_accepted, after_refused}
use Rattle.catalogue.proofs.Accepted.{accepted_well_formed, well_formed_accepted, accepted_total}
use Rattle.rules.specs.Axioms.{Axioms}
use Rattle.rules.specs.Occurrence.{occurs}
use Rattle.rules.proofs.Occurrence.{occurs_exact}
use Rattle.layout.specs.Parts.{width, used, work_used, in_force, row_count, set_from, spare_clear}
use Rattle.layout.proofs.StoreRows.{spare_clear_lem, in_force_range}
use Rattle.store.specs.Checks.{every, store_fits, work_fits, list_fits, axioms_in_limit}
use Rattle.store.specs.Checks.{ask_store, ask_work, ask_list, ask_spare, ask_limit, ask_numbers}
use Rattle.store.specs.Written.{axiom_count, written}
use Rattle.classification.specs.Classified.{classify_checks}
use Rattle.change_contract.specs.Lists.{axioms_in, left_in, right_in, sides_in, edited}
use Rattle.change_contract.specs.Questions.{is_whole, repeats, none_twice, all_in_force, none_in_force, ask_whole, ask_twice, ask_in_force, ask_new, ask_room}
use Rattle.change_contract.specs.Questions.{length_checks, axiom_checks, content_checks as changeContent, change_checks}
use Rattle.change_contract.specs.Edits.{asked}
use Rattle.change_contract.proofs.Lists.{among_exact, whole_long, in_force_at, new_at_lem}
use Rattle.writing.specs.Write.{output_fits, store_checks, write_checks}
use Rattle.read_checks.specs.Checks.{ask_occurs, open_checks, content_checks, read_checks, list_checks}
use Rattle.demands.specs.PublicCalls.{PublicCall, check, classify, change, listing, write, Buffers, lent_of, takes}
use Rattle.demands.specs.DemandOne.{Fault, damaged_catalogue, short_store, short_work, short_list, short_output, not_whole, twice, stray_bit, out_of_range}
use Rattle.demands.specs.DemandOne.{added_twice, not_in_force, too_many_axioms, no_room, unused, NotWhole, Wrong, refusal, read_faults, faults, ByFirst, none, here, later}

-- ---- tests

not_short : (need long : ℕ) → leb need long ≡ true → ¬ (long < need)
not_short need long e l = let m : need ≤ long = leb-true need long e in omega arith

one_fails : (test : ℕ → Bool) (names : List ℕ) → every test names ≡ false → (c : ℕ) × Memᴰ c names × (test c ≡ false)
unfolding every
one_fails test [] e = absurd (not-both refl e)
one_fails test (x ∷ names) e =
    by_bool (test x)
    (λ t. let (c, m, n) = one_fails test names (rw t at e) in (c, Memᴰ.tail m, n))
    (λ n. (x, Memᴰ.head refl, n))

-- A list that is not whole, one of two that is not, and a list that is.
not_whole_lem : (list : List ℕ) → is_whole (length list) ≡ false → NotWhole list
unfolding is_whole
not_whole_lem list e =
    by_bool (leb (length list) 256) (λ t. inr (λ z. not-both (and_both (leb (length list) 256) (eqb (length list % 4) 0) t (eq-eqb (length list % 4) 0 z)) e))
    (λ f. inl (leb-false (length list) 256 f))

one_not_whole : (withdrawn added : List ℕ) → (is_whole (length withdrawn) && is_whole (length added)) ≡ false → NotWhole withdrawn ⊎ NotWhole added
one_not_whole withdrawn added e =
    by_bool (is_whole (length withdrawn)) (λ t. inr (not_whole_lem added (not_true_false _ (λ s. not-both (and_both (is_whole (length withdrawn)) (is_whole (length added)) t s) e))))
    (λ f. inl (not_whole_lem withdrawn f))

whole : (list : List ℕ) → is_whole (length list) ≡ true → ¬ (NotWhole list)
whole list e n = let (short, parts) = whole_long (length list) e in ⊎_elim (λ l. omega arith) (λ z. z parts) n

-- A spare bit that is set.
stray : (b store : List ℕ) → spare_clear b store ≡ false
    → (r : ℕ) × (i : ℕ) × (r < row_count b) × (concepts b ≤ i) × (i < 8 * width b) × (bit store (place (width b) r i) ≡ true)
unfolding spare_clear set_from
stray b store e =
    let (r, lr, some) = some_which (set_from (width b) (concepts b) store) (row_count b) (not-false _ e) in
    let (k, lk, set) = some_which (λ k. bit store (place (width b) r (concepts b + k))) (8 * width b - concepts b) some in
    (r, concepts b + k, lr, omega arith, omega arith, set)

-- ---- one question, and then the rest

module _ (b : List ℕ) (u : Buffers) where
  step : (f : Fault) {fs : List Fault} (t : Bool) (number : ℕ) {rest : Outcome} → refusal b f ≡ refused number 0 → (t ≡ false → Wrong b u f)
      → (t ≡ true → ¬ (Wrong b u f)) → (t ≡ true → ByFirst b u fs rest) → ByFirst b u (f ∷ fs) (ask t number 0 rest)
  unfolding ask
  step f true number e fails passes rest = later (passes refl) (rest refl)
  step f false number e fails passes rest = here (fails refl) (sym e)

  ask_catalogue : {fs : List Fault} (rest : Outcome) → (checked b ≡ accepted → ByFirst b u fs rest) → ByFirst b u (damaged_catalogue ∷ fs) (catalogue_checks b rest)
  ask_catalogue {fs} rest more = go (checked b) refl
    where
      go : (o : Outcome) → checked b ≡ o → ByFirst b u (damaged_catalogue ∷ fs) (catalogue_checks b rest)
      go accepted e =
          subst (ByFirst b u (damaged_catalogue ∷ fs)) (sym (after_accepted b rest e))
          (later {f = damaged_catalogue} (λ n. n (accepted_well_formed e, accepted_total b e)) (more e))
      go (refused number at) e = here {f = damaged_catalogue} (λ (w, t). never_both _ (well_formed_accepted w t) e) (after_refused b rest e ∙ sym e)

  module _ {fs : List Fault} (rest : Outcome) where
    store_asked : (store_fits b (length u.store) ≡ true → ByFirst b u fs rest) → ByFirst b u (short_store ∷ fs) (ask_store b (length u.store) rest)
    unfolding ask_store store_fits
    store_asked more = step short_store (leb (used b) (length u.store)) 10 refl (leb-false _ _) (not_short _ _) more

    work_asked : (c : PublicCall) → takes b c ≡ work_used b → ByFirst b u fs rest → ByFirst b u (short_work c ∷ fs) (ask_work b (length u.work) rest)
    unfolding ask_work work_fits
    work_asked c e more =
        subst (λ (n : ℕ). ByFirst b u (short_work c ∷ fs) (ask (leb n (length u.work)) 11 0 rest)) e
        (step (short_work c) (leb (takes b c) (length u.work)) 11 refl (leb-false _ _) (not_short _ _) (λ _. more))

    list_asked : ByFirst b u fs rest → ByFirst b u (short_list ∷ fs) (ask_list b (length u.list) rest)
    unfolding ask_list list_fits
    list_asked more = step short_list (leb (2 * concepts b) (length u.list)) 12 refl (leb-false _ _) (not_short _ _) (λ _. more)

    spare_asked : (spare_clear b u.store ≡ true → ByFirst b u fs rest) → ByFirst b u (stray_bit ∷ fs) (ask_spare (spare_clear b u.store) rest)
    unfolding ask_spare
    spare_asked more =
        step stray_bit (spare_clear b u.store) 13 refl (stray b u.store)
        (λ e (r, i, lr, low, high, set). not-both set (spare_clear_lem b u.store e r i lr low high)) more

    limit_asked : ByFirst b u fs rest → ByFirst b u (too_many_axioms ∷ fs) (ask_limit (axioms_in_limit b (in_force b u.store)) rest)
    unfolding ask_limit axioms_in_limit
    limit_asked more = step too_many_axioms (leb (axiom_count b (in_force b u.store)) 4096) 14 refl (leb-false _ _) (not_short _ _) (λ _. more)

    numbers_asked : (names : List ℕ) → ByFirst b u fs rest → ByFirst b u (out_of_range names ∷ fs) (ask_numbers b names rest)
    unfolding ask_numbers
    numbers_asked names more =
        let below : ℕ → Bool = λ c. ltb c (concepts b) in
        step (out_of_range names) (every below names) 15 refl
        (λ e. let (c, m, n) = one_fails below names e in (c, m, ltb-false c (concepts b) n))
        (λ e (c, m, l). let p : c < concepts b = ltb-true c (concepts b) (each_true below names e c m) in omega arith)
        (λ _. more)

    whole_asked : (withdrawn added : List ℕ) → ByFirst b u fs rest → ByFirst b u (not_whole withdrawn added ∷ fs) (ask_whole (length withdrawn) (length added) rest)
    unfolding ask_whole
    whole_asked withdrawn added more =
        let first = is_whole (length withdrawn) in
        let second = is_whole (length added) in
        step (not_whole withdrawn added) (first && second) 22 refl (one_not_whole withdrawn added)
        (λ e n. ⊎_elim (whole withdrawn (and_left first second e)) (whole added (and_right first second e)) n)
        (λ _. more)

    twice_asked : (list : List ℕ) → ByFirst b u fs rest → ByFirst b u (twice list ∷ fs) (ask_twice list rest)
    unfolding ask_twice none_twice repeats
    twice_asked list more =
        step (twice list) (none_twice list) 23 refl
        (λ e.
        let (k, lk, t) = some_which (repeats list) (axioms_in list) (not-false _ e) in
        let (j, lj, x, y) = (among_exact list k (left_in list k) (right_in list k)).0 t in
        (j, k, lj, lk, x, y))
        (λ e (j, k, lj, lk, x, y).
        not-both ((among_exact list k (left_in list k) (right_in list k)).1 (j, lj, x, y)) (none_below (repeats list) (axioms_in list) k (not-true _ e) lk))
        (λ _. more)

    in_force_asked : (withdrawn : List ℕ) → ByFirst b u fs rest → ByFirst b u (not_in_force withdrawn ∷ fs) (ask_in_force (in_force b u.store) withdrawn rest)
    unfolding ask_in_force all_in_force
    in_force_asked withdrawn more =
        let F : Axioms = in_force b u.store in
        step (not_in_force withdrawn) (all_in_force F withdrawn) 18 refl
        (λ e. let (k, l, t) = some_which (λ k. not (F (left_in withdrawn k) (right_in withdrawn k))) (axioms_in withdrawn) (not-false _ e) in (k, l, not-true _ t))
        (λ e (k, l, n). not-both (in_force_at F withdrawn e k l) n)
        (λ _. more)

    new_asked : (added : List ℕ) → ByFirst b u fs rest → ByFirst b u (added_twice added ∷ fs) (ask_new (in_force b u.store) added rest)
    unfolding ask_new none_in_force
    new_asked added more =
        let F : Axioms = in_force b u.store in
        step (added_twice added) (none_in_force F added) 16 refl
        (λ e. some_which (λ k. F (left_in added k) (right_in added k)) (axioms_in added) (not-false _ e))
        (λ e (k, l, t). not-both t (new_at_lem F added e k l))
        (λ _. more)

    room_asked : (withdrawn added : List ℕ) → ByFirst b u fs rest → ByFirst b u (no_room withdrawn added ∷ fs) (ask_room b (edited (in_force b u.store) withdrawn added) rest)
    unfolding ask_room axioms_in_limit
    room_asked withdrawn added more =
        step (no_room withdrawn added) (leb (axiom_count b (edited (in_force b u.store) withdrawn added)) 4096) 17 refl (leb-false _ _) (not_short _ _) (λ _. more)

    output_asked : ByFirst b u fs rest → ByFirst b u (short_output ∷ fs) (ask (output_fits b u.store (length u.output)) 20 0 rest)
    unfolding output_fits
    output_asked more =
        step short_output (leb (length (written b (in_force b u.store))) (length u.output)) 20 refl (leb-false _ _) (not_short _ _) (λ _. more)

    -- 19 is put to a catalogue that is accepted and to a store without a stray bit.
    occurs-asked : WellFormed b → spare_clear b u.store ≡ true → (names : List ℕ) → ByFirst b u fs rest
        → ByFirst b u (unused names ∷ fs) (ask_occurs (occurs b (in_force b u.store)) names rest)
    unfolding ask_occurs
    occurs-asked wf clear names more =
        let F : Axioms = in_force b u.store in
        let exact = occurs_exact b F wf (in_force_range b u.store clear) in
        step (unused names) (every (occurs b F) names) 19 refl
        (λ e. let (c, m, n) = one_fails (occurs b F) names e in (c, m, λ o. not-both ((exact c).1 o) n))
        (λ e (c, m, n). n ((exact c).0 (each_true (occurs b F) names e c m)))
        (λ _. more)

  -- ---- each call

  pub check_asked : ByFirst b u (faults check) (checked b)
  unfolding checked
  check_asked = ask_catalogue accepted (λ _. none)

  pub classify_asked : ByFirst b u (faults classify) (classify_checks b (length u.store) (length u.work))
  unfolding classify_checks
  classify_asked = ask_catalogue _ (λ _. store_asked _ (λ _. work_asked _ classify refl none))

  pub change_asked : (withdrawn added : List ℕ) → ByFirst b u (faults (change withdrawn added)) (asked b withdrawn added (lent_of u))
  unfolding asked change_checks length_checks changeContent axiom_checks
  change_asked withdrawn added =
      let axioms = in_force_asked _ withdrawn (new_asked _ added (room_asked _ withdrawn added none)) in
      let content = twice_asked _ (withdrawn ++ added) (spare_asked _ (λ _. limit_asked _ (numbers_asked _ (sides_in (withdrawn ++ added)) axioms))) in
      ask_catalogue _ (λ _. store_asked _ (λ _. work_asked _ (change withdrawn added) refl (list_asked _ (whole_asked _ withdrawn added content))))

  content_asked : WellFormed b → (names : List ℕ) → ByFirst b u (read_faults names) (content_checks b names u.store)
  unfolding content_checks
  content_asked wf names = spare_asked _ (λ clear. limit_asked _ (numbers_asked _ names (occurs-asked _ wf clear names none)))

  pub read_asked : (names : List ℕ) → ByFirst b u (damaged_catalogue ∷ short_store ∷ read_faults names) (read_checks b names u.store)
  unfolding read_checks open_checks
  read_asked names = ask_catalogue _ (λ e. store_asked _ (λ _. content_asked (accepted_well_formed e) names))

  pub listing-asked : (d : ℕ) → ByFirst b u (faults (listing d)) (list_checks b (d ∷ []) u.store (length u.list))
  unfolding list_checks open_checks
  listing-asked d = ask_catalogue _ (λ e. store_asked _ (λ _. list_asked _ (content_asked (accepted_well_formed e) (d ∷ []))))

  pub write_asked : ByFirst b u (faults write) (write_checks b u.store (length u.output))
  unfolding write_checks store_checks
  write_asked = ask_catalogue _ (λ _. store_asked _ (λ _. spare_asked _ (λ _. limit_asked _ (output_asked _ none))))
