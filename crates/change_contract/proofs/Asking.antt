-- The questions of a change, in groups and one after another: what acceptance says, the ways to a refusal, and what they are of a store that marks F.
use Prim.Native.Nat.{ℕ, ◌≤◌}
use mathlib.Core.Path.{◌≡◌, ap, ap₂, ◌∙◌}
use mathlib.Core.Bool.{Bool, true, false, ◌&&◌}
use mathlib.Core.List.{List, ◌++◌}
use lib.ListN.{length}
use Rattle.booleans.proofs.Booleans.{and_left, and_right, and_both}
use Rattle.catalogue.specs.Outcome.{Outcome, accepted, refused, followed}
use Rattle.catalogue.specs.Checks.{checked}
use Rattle.catalogue.proofs.Outcomes.{ask_yes, ask_no, ask_accepted, followed-ask, followed-both}
use Rattle.catalogue.proofs.Passed.{checks_followed, after_accepted, after_refused}
use Rattle.rules.specs.Axioms.{Axioms}
use Rattle.rules.specs.Rules.{Expression}
use Rattle.layout.specs.Parts.{in_force, spare_clear}
use Rattle.store.specs.Written.{axiom_count}
use Rattle.store.specs.Fresh.{Marked}
use Rattle.store.specs.Checks.{store_fits, work_fits, list_fits, axioms_in_limit, numbers_below, ask_store, ask_work, ask_list, ask_spare, ask_limit, ask_numbers}
use Rattle.store.proofs.Checks.{marked-axioms, marked_limit}
use Rattle.change_contract.specs.Lists.{sides_in, edited}
use Rattle.change_contract.specs.Questions.{Lengths, is_whole, none_twice, all_in_force, none_in_force, ask_whole, ask_twice, ask_in_force, ask_new, ask_room, length_checks, axiom_checks, content_checks, change_checks}

-- ---- 10 to 12 and 22

pub lengths_followed : (b : List ℕ) (withdrawn added : ℕ) (lent : Lengths) (rest : Outcome) → followed (length_checks b withdrawn added lent accepted) rest ≡ length_checks b withdrawn added lent rest
unfolding length_checks ask_store ask_work ask_list ask_whole followed
lengths_followed b withdrawn added lent rest =
    followed-ask (store_fits b lent.store) 10 0 _ rest
    ∙ ap (λ (o : Outcome). ask_store b lent.store o)
    (followed-ask (work_fits b lent.work) 11 0 _ rest
    ∙ ap (λ (o : Outcome). ask_work b lent.work o)
    (followed-ask (list_fits b lent.list) 12 0 _ rest
    ∙ ap (λ (o : Outcome). ask_list b lent.list o)
    (followed-ask (is_whole withdrawn && is_whole added) 22 0 accepted rest)))

-- All of them answered yes.
pub record Fit (b : List ℕ) (withdrawn added : ℕ) (lent : Lengths) : Type 0 where
  pub store_fits : store_fits b lent.store ≡ true
  pub work_fits : work_fits b lent.work ≡ true
  pub list_fits_lem : list_fits b lent.list ≡ true
  pub withdrawn_whole : is_whole withdrawn ≡ true
  pub added_whole : is_whole added ≡ true

module _ (b : List ℕ) (withdrawn added : ℕ) (lent : Lengths) (rest : Outcome) where
  pub fit_rest : Fit b withdrawn added lent → length_checks b withdrawn added lent rest ≡ rest
  unfolding length_checks ask_store ask_work ask_list ask_whole
  fit_rest p =
      ask_yes 10 0 _ p.store_fits
      ∙ ask_yes 11 0 _ p.work_fits
      ∙ ask_yes 12 0 _ p.list_fits_lem
      ∙ ask_yes 22 0 _ (and_both (is_whole withdrawn) (is_whole added) p.withdrawn_whole p.added_whole)

  pub rest_fit : length_checks b withdrawn added lent rest ≡ accepted → Fit b withdrawn added lent × (rest ≡ accepted)
  unfolding length_checks ask_store ask_work ask_list ask_whole
  rest_fit e =
      let ten = ask_accepted (store_fits b lent.store) 10 0 _ e in
      let eleven = ask_accepted (work_fits b lent.work) 11 0 _ ten.1 in
      let twelve = ask_accepted (list_fits b lent.list) 12 0 _ eleven.1 in
      let whole = ask_accepted (is_whole withdrawn && is_whole added) 22 0 rest twelve.1 in (
        record {
          store_fits = ten.0;
          work_fits = eleven.0;
          list_fits_lem = twelve.0;
          withdrawn_whole = and_left (is_whole withdrawn) (is_whole added) whole.0;
          added_whole = and_right (is_whole withdrawn) (is_whole added) whole.0;
        },
        whole.1,
      )

-- ---- up to 15

-- All of them answered yes.
pub record Passed (b withdrawn added : List ℕ) (lent : Lengths) (clear few : Bool) : Type 0 where
  pub catalogue : checked b ≡ accepted
  pub fit : Fit b (length withdrawn) (length added) lent
  pub once : none_twice (withdrawn ++ added) ≡ true
  pub spare_clear : clear ≡ true
  pub limit_kept : few ≡ true
  pub numbers : numbers_below b (sides_in (withdrawn ++ added)) ≡ true

module _ (b withdrawn added : List ℕ) (lent : Lengths) (clear few : Bool) (F : Axioms) where
  -- The rest is asked where they are, and only there.
  pub passed_rest : Passed b withdrawn added lent clear few → change_checks b withdrawn added lent clear few F ≡ axiom_checks b withdrawn added F
  unfolding change_checks content_checks ask_twice ask_spare ask_limit ask_numbers
  passed_rest p =
      after_accepted b _ p.catalogue
      ∙ fit_rest b (length withdrawn) (length added) lent _ p.fit
      ∙ ask_yes 23 0 _ p.once
      ∙ ask_yes 13 0 _ p.spare_clear
      ∙ ask_yes 14 0 _ p.limit_kept
      ∙ ask_yes 15 0 _ p.numbers

  pub rest_passed : change_checks b withdrawn added lent clear few F ≡ accepted → Passed b withdrawn added lent clear few × (axiom_checks b withdrawn added F ≡ accepted)
  unfolding change_checks content_checks ask_twice ask_spare ask_limit ask_numbers
  rest_passed e =
      let nine = followed-both (checked b) _ (checks_followed b _ ∙ e) in
      let lengths = rest_fit b (length withdrawn) (length added) lent _ nine.1 in
      let once = ask_accepted (none_twice (withdrawn ++ added)) 23 0 _ lengths.1 in
      let thirteen = ask_accepted clear 13 0 _ once.1 in
      let fourteen = ask_accepted few 14 0 _ thirteen.1 in
      let fifteen = ask_accepted (numbers_below b (sides_in (withdrawn ++ added))) 15 0 _ fourteen.1 in (
        record {
          catalogue = nine.0;
          fit = lengths.0;
          once = once.0;
          spare_clear = thirteen.0;
          limit_kept = fourteen.0;
          numbers = fifteen.0;
        },
        fifteen.1,
      )

  -- A catalogue that is refused, and a store that is too short.
  pub refused_catalogue : {number at : ℕ} → checked b ≡ refused number at → change_checks b withdrawn added lent clear few F ≡ refused number at
  unfolding change_checks
  refused_catalogue e = after_refused b _ e

  pub refused_store : checked b ≡ accepted → store_fits b lent.store ≡ false → change_checks b withdrawn added lent clear few F ≡ refused 10 0
  unfolding change_checks length_checks ask_store
  refused_store catalogue e = after_accepted b _ catalogue ∙ ask_no 10 0 _ e

-- ---- 18, 16 and 17

module _ (b withdrawn added : List ℕ) (F : Axioms) where
  pub axioms_pass : all_in_force F withdrawn ≡ true → none_in_force F added ≡ true → axioms_in_limit b (edited F withdrawn added) ≡ true → axiom_checks b withdrawn added F ≡ accepted
  unfolding axiom_checks ask_in_force ask_new ask_room
  axioms_pass there out room = ask_yes 18 0 _ there ∙ ask_yes 16 0 _ out ∙ ask_yes 17 0 accepted room

  pub pass_axioms : axiom_checks b withdrawn added F ≡ accepted → (all_in_force F withdrawn ≡ true) × (none_in_force F added ≡ true) × (axioms_in_limit b (edited F withdrawn added) ≡ true)
  unfolding axiom_checks ask_in_force ask_new ask_room
  pass_axioms e =
      let eighteen = ask_accepted (all_in_force F withdrawn) 18 0 _ e in
      let sixteen = ask_accepted (none_in_force F added) 16 0 _ eighteen.1 in
      let seventeen = ask_accepted (axioms_in_limit b (edited F withdrawn added)) 17 0 accepted sixteen.1 in
      (eighteen.0, sixteen.0, seventeen.0)

  -- A withdrawn axiom that is not in force: 18. Else an added one that is: 16. Else too many afterwards: 17.
  pub refused_absent : all_in_force F withdrawn ≡ false → axiom_checks b withdrawn added F ≡ refused 18 0
  unfolding axiom_checks ask_in_force
  refused_absent e = ask_no 18 0 _ e

  pub refused_in_force : all_in_force F withdrawn ≡ true → none_in_force F added ≡ false → axiom_checks b withdrawn added F ≡ refused 16 0
  unfolding axiom_checks ask_in_force ask_new
  refused_in_force there e = ask_yes 18 0 _ there ∙ ask_no 16 0 _ e

  pub refused_full : all_in_force F withdrawn ≡ true → none_in_force F added ≡ true → axioms_in_limit b (edited F withdrawn added) ≡ false → axiom_checks b withdrawn added F ≡ refused 17 0
  unfolding axiom_checks ask_in_force ask_new ask_room
  refused_full there out e = ask_yes 18 0 _ there ∙ ask_yes 16 0 _ out ∙ ask_no 17 0 accepted e

-- ---- read off a store

-- Of a store that marks F, at most 4,096 axioms, the checks are those of lengths, lists and F.
pub changes_by_axioms : {S : Expression → Type 0} (b : List ℕ) (F : Axioms) (store : List ℕ) → Marked b F S store → axiom_count b F ≤ 4096 → (withdrawn added : List ℕ) (lent : Lengths)
    → change_checks b withdrawn added lent (spare_clear b store) (axioms_in_limit b (in_force b store)) (in_force b store) ≡ change_checks b withdrawn added lent true true F
changes_by_axioms b F store marked few withdrawn added lent =
    ap₂ (λ c f. change_checks b withdrawn added lent c f (in_force b store)) marked.spare (marked_limit b F store marked few)
    ∙ ap (change_checks b withdrawn added lent true true) (marked-axioms b F store marked)
