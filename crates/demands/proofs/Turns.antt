-- One turn of a list of calls. Of a classify on any store, and of a change on a store that is classified afresh: the answer is that of the questions by
-- arguments alone, a refusal keeps the store, and acceptance leaves it classified afresh.
use Prim.Native.Nat.{ℕ, ◌≤◌}
use native.Mathlib.Omega.{arith}
use mathlib.Core.Path.{◌≡◌, refl, sym, ap, subst, subst₂, ◌∙◌}
use mathlib.Core.Bool.{Bool, true}
use mathlib.Core.Logic.{⊎_elim}
use mathlib.Core.List.{List, ◌++◌}
use lib.ListN.{length, take, drop, take-append-drop}
use lib.Seq.{drop-append-le}
use Rattle.std.proofs.Common.{Result}
use Rattle.booleans.proofs.Booleans.{by_bool}
use Rattle.catalogue.specs.declared.checks.Refusal.{Refusal}
use Rattle.catalogue.specs.Outcome.{accepted, refused}
use Rattle.rules.specs.Axioms.{Axioms, InRange, catalogue_axioms}
use Rattle.layout.specs.Parts.{used, in_force, spare_clear}
use Rattle.store.specs.Fresh.{Fresh}
use Rattle.store.specs.Checks.{store_fits, axioms_in_limit}
use Rattle.store.specs.Written.{axiom_count}
use Rattle.store.proofs.Checks.{store_long, marked-axioms}
use Rattle.classification.specs.Classified.{classify_checks, Classifies}
use Rattle.classification.specs.declared.Classified.{Classified}
use Rattle.classification.proofs.Checks.{accepted_fits}
use Rattle.classification.proofs.Outcomes.{answer_outcome}
use Rattle.change_contract.specs.Lists.{edited}
use Rattle.change_contract.specs.Questions.{Lengths, change_checks}
use Rattle.change_contract.specs.Edits.{Lent, lend, lengths, asked as asked_of, Edits}
use Rattle.change_contract.specs.declared.Changed.{Changed}
use Rattle.change_contract.proofs.Asking.{refused_store}
use Rattle.change_contract.proofs.Checks.{Accepted, edit_accepted, asked_by_axioms}
use Rattle.change_contract.proofs.Outcomes.{answer_outcome as change-answer}
use Rattle.change_contract.proofs.Fresh.{edit_fresh, edit_effects}
use Rattle.change_contract.proofs.Kept.{pair_row_kept, link_row_kept}
use Rattle.demands.specs.Sequences.{Request, classify, change, Answer, classified, changed, outcome_of, Turn, Meets, classifies, changes, lent_to, RunsOn, questions, puts, Changes}
use Rattle.demands.proofs.FreshStores.{FreshStore, classify_leaves, fresh_append, fresh_front}

-- ---- the part of the store that is lent

-- A part that stays leaves the store as it was.
whole : (store part : List ℕ) (a k : ℕ) → part ≡ take k (drop a store) → take a store ++ (part ++ drop k (drop a store)) ≡ store
whole store part a k e =
    ap (λ (l : List ℕ). take a store ++ (l ++ drop k (drop a store))) e
    ∙ ap (λ (l : List ℕ). take a store ++ l) (take-append-drop k (drop a store))
    ∙ take-append-drop a store

module _ (b store front : List ℕ) (k : ℕ) where
  rest_kept : used b ≤ length front → used b ≤ length (take k store) → drop (used b) front ≡ drop (used b) (take k store)
      → drop (used b) (front ++ drop k store) ≡ drop (used b) store
  rest_kept lf lt e =
      drop-append-le (used b) front (drop k store) lf
      ∙ ap (λ (l : List ℕ). l ++ drop k store) e
      ∙ sym (drop-append-le (used b) (take k store) (drop k store) lt)
      ∙ ap (drop (used b)) (take-append-drop k store)

-- A call that is lent the store from its front.
record Front (store : List ℕ) (t : Turn) (x : RunsOn store t) : Type 0 where
  lent_is : (lent_to t store).store ≡ take t.call.lent.store store
  left_is : t.store_after ≡ x.part_after ++ drop t.call.lent.store store

-- A part that is long enough for the catalogue is lent from the front.
module _ (b store : List ℕ) (t : Turn) (x : RunsOn store t) (same : t.call.catalogue ≡ b) (long : used b ≤ length (lent_to t store).store) where
  at_front : Front store t x
  at_front =
      let lent : length (lent_to t store).store ≡ t.call.lent.store = ap (λ (u : Lengths). u.store) x.lent_is in
      let asks : used t.call.catalogue ≡ used b = ap used same in
      let zero : t.call.from ≡ 0 = ⊎_elim (λ e. e) (λ short. absurd (omega (arith, short, long, lent, asks))) x.part in
      record {
        lent_is = ap (λ (a : ℕ). take t.call.lent.store (drop a store)) zero;
        left_is =
            x.store_is
            ∙ ap (λ (a : ℕ). take a store ++ (x.part_after ++ drop t.call.lent.store (drop a store))) zero;
      }

  front_long : used b ≤ length (take t.call.lent.store store)
  front_long = subst (λ (l : List ℕ). used b ≤ length l) at_front.lent_is long

  -- What it leaves there is followed by the rest of the store.
  rest_left : used b ≤ length x.part_after → drop (used b) x.part_after ≡ drop (used b) (lent_to t store).store
      → drop (used b) t.store_after ≡ drop (used b) store
  rest_left lp e =
      ap (drop (used b)) at_front.left_is
      ∙ rest_kept b store x.part_after t.call.lent.store lp front_long (e ∙ ap (drop (used b)) at_front.lent_is)

  fresh_left : (F : Axioms) → FreshStore b F x.part_after → FreshStore b F t.store_after
  fresh_left F u = subst (FreshStore b F) (sym at_front.left_is) (fresh_append b F x.part_after (drop t.call.lent.store store) u)

  -- Lent from a fresh store it is fresh.
  fresh_lent : (F : Axioms) → FreshStore b F store → Fresh b F (lent_to t store).store
  fresh_lent F u = subst (Fresh b F) (sym at_front.lent_is) (fresh_front b F store t.call.lent.store front_long u).fresh

-- ---- what is known of a turn

-- With F in force before it.
pub record Known (b : List ℕ) (F : ℕ → ℕ → Bool) (store : List ℕ) (t : Turn) : Type 0 where
  pub answers : t.call.catalogue ≡ b → outcome_of t.answer ≡ questions t.call.request b t.call.lent F
  pub keeps : (number at : ℕ) → outcome_of t.answer ≡ refused number at → t.store_after ≡ store
  pub rest : t.call.catalogue ≡ b → outcome_of t.answer ≡ accepted → drop (used b) t.store_after ≡ drop (used b) store
  pub leaves : t.call.catalogue ≡ b → outcome_of t.answer ≡ accepted → FreshStore b (puts t.call.request b F) t.store_after
  pub changes : t.call.catalogue ≡ b → outcome_of t.answer ≡ accepted → (withdrawn added : List ℕ) → t.call.request ≡ change withdrawn added
      → Changes b F (edited F withdrawn added) store t

-- ---- classify

module _ (b : List ℕ) (F : Axioms) (store : List ℕ) (t : Turn) (x : RunsOn store t) (a : Result Classified Refusal) (request : t.call.request ≡ classify) (answer : t.answer ≡ classified a)
    (call : Classifies t.call.catalogue (lent_to t store).store t.work a x.part_after t.work_after) where
  classify_answers : outcome_of t.answer ≡ classify_checks t.call.catalogue (length (lent_to t store).store) (length t.work)
  classify_answers = ap outcome_of answer ∙ answer_outcome t.call.catalogue (lent_to t store).store t.work a x.part_after t.work_after call

  classify_known : Known b F store t
  unfolding questions puts
  classify_known =
      let with_b : t.call.catalogue ≡ b → Classifies b (lent_to t store).store t.work a x.part_after t.work_after =
      λ e. subst (λ (c : List ℕ). Classifies c (lent_to t store).store t.work a x.part_after t.work_after) e call
      in
      let same : t.call.catalogue ≡ b → outcome_of t.answer ≡ classify_checks b (length (lent_to t store).store) (length t.work) =
      λ e. classify_answers ∙ ap (λ (c : List ℕ). classify_checks c (length (lent_to t store).store) (length t.work)) e
      in
      record {
        answers = λ e.
            same e
            ∙ ap (λ (u : Lengths). classify_checks b u.store u.work) x.lent_is
            ∙ sym (ap (λ (q : Request). questions q b t.call.lent F) request);
        keeps = λ number at o.
            x.store_is ∙ whole store x.part_after t.call.from t.call.lent.store (call.refuses number at (sym classify_answers ∙ o)).store_kept;
        rest = λ e o.
            let ok = sym (same e) ∙ o in
            let r = (with_b e).accepts ok in
            rest_left b store t x e (accepted_fits b _ _ ok).store_long r.fresh.long r.store_rest;
        leaves = λ e o.
            let ok = sym (same e) ∙ o in
            let left : FreshStore b (catalogue_axioms b) x.part_after = classify_leaves b (lent_to t store).store t.work a x.part_after t.work_after (with_b e) ok in
            subst (λ (q : Request). FreshStore b (puts q b F) t.store_after) (sym request)
            (fresh_left b store t x e (accepted_fits b _ _ ok).store_long (catalogue_axioms b) left);
        changes = λ e o withdrawn added q. let z : ◌≡◌ {A = ℕ} 0 1 = cc in absurd (omega arith);
      }

-- ---- change

-- On a part of a fresh store a change asks what it asks by arguments alone: one that is too short is refused by 10, and a longer one is fresh.
part_asked : (b : List ℕ) (F : Axioms) (store : List ℕ) → FreshStore b F store → (t : Turn) → RunsOn store t → t.call.catalogue ≡ b → (withdrawn added : List ℕ)
    → asked_of b withdrawn added (lent_to t store) ≡ change_checks b withdrawn added t.call.lent true true F
unfolding asked_of
part_asked b F store u t x same withdrawn added =
    let part = (lent_to t store).store in
    let lent = lengths (lent_to t store) in
    by_bool (store_fits b (length part))
    (λ e. asked_by_axioms b F withdrawn added (lent_to t store) (fresh_lent b store t x same (store_long b _ e) F u) u.few)
    (λ e.
    refused_store b withdrawn added lent (spare_clear b part) (axioms_in_limit b (in_force b part)) (in_force b part) u.catalogue e
    ∙ sym (refused_store b withdrawn added lent true true F u.catalogue e))
    ∙ ap (λ (q : Lengths). change_checks b withdrawn added q true true F) x.lent_is

module _ (b : List ℕ) (F : Axioms) (store : List ℕ) (u : FreshStore b F store) (t : Turn) (x : RunsOn store t) (withdrawn added : List ℕ) (a : Result Changed Refusal)
    (request : t.call.request ≡ change withdrawn added) (answer : t.answer ≡ changed a)
    (call : Edits t.call.catalogue withdrawn added (lent_to t store) a (lend x.part_after t.work_after t.list_after)) where
  abbrev left : Lent
  left = lend x.part_after t.work_after t.list_after

  change_answers : outcome_of t.answer ≡ asked_of t.call.catalogue withdrawn added (lent_to t store)
  change_answers = ap outcome_of answer ∙ change-answer t.call.catalogue withdrawn added (lent_to t store) a left call

  -- With catalogue b.
  module _ (same : t.call.catalogue ≡ b) where
    with_b : Edits b withdrawn added (lent_to t store) a left
    with_b = subst (λ (c : List ℕ). Edits c withdrawn added (lent_to t store) a left) same call

    asked_b : outcome_of t.answer ≡ asked_of b withdrawn added (lent_to t store)
    asked_b = change_answers ∙ ap (λ (c : List ℕ). asked_of c withdrawn added (lent_to t store)) same

    by_arguments : outcome_of t.answer ≡ change_checks b withdrawn added t.call.lent true true F
    by_arguments = asked_b ∙ part_asked b F store u t x same withdrawn added

    module _ (o : outcome_of t.answer ≡ accepted) where
      ok : asked_of b withdrawn added (lent_to t store) ≡ accepted
      ok = sym asked_b ∙ o

      passed : Accepted b withdrawn added (lent_to t store)
      passed = edit_accepted b withdrawn added (lent_to t store) ok

      part_fresh : Fresh b F (lent_to t store).store
      part_fresh = fresh_lent b store t x same passed.store_fits F u

      change_leaves : FreshStore b (edited F withdrawn added) t.store_after
      change_leaves =
          let own : in_force b (lent_to t store).store ≡ F = marked-axioms b F (lent_to t store).store part_fresh in
          fresh_left b store t x same passed.store_fits (edited F withdrawn added)
          (record {
            catalogue = u.catalogue;
            well_formed = u.well_formed;
            range = subst (λ (E : Axioms). InRange b (edited E withdrawn added)) own passed.after_range;
            few = subst (λ (E : Axioms). axiom_count b (edited E withdrawn added) ≤ 4096) own passed.after_few;
            fresh = edit_fresh b withdrawn added (lent_to t store) a left with_b ok F part_fresh;
          })

      change_effects : Changes b F (edited F withdrawn added) store t
      change_effects =
          let G = edited F withdrawn added in
          let range = change_leaves.range in
          let after = change_leaves.fresh in
          record {
            answer = a;
            names = (with_b.accepts ok).names;
            answer_is = answer;
            effects = edit_effects b withdrawn added (lent_to t store) a left with_b ok F part_fresh;
            list_is = (with_b.accepts ok).list_is;
            others = λ c lc out.
                record {
                  pairs = pair_row_kept b F G u.well_formed u.range range store t.store_after u.fresh after c lc out;
                  links = link_row_kept b F G u.well_formed u.range range store t.store_after u.fresh after c lc out;
                };
          }

  change_known : Known b F store t
  unfolding questions puts
  change_known =
      record {
        answers = λ e. by_arguments e ∙ sym (ap (λ (q : Request). questions q b t.call.lent F) request);
        keeps = λ number at o.
            x.store_is ∙ whole store x.part_after t.call.from t.call.lent.store (call.refuses number at (sym change_answers ∙ o)).store_kept;
        rest = λ e o. rest_left b store t x e (passed e o).store_fits ((with_b e).accepts (ok e o)).marked.long ((with_b e).accepts (ok e o)).store_rest;
        leaves = λ e o. subst (λ (q : Request). FreshStore b (puts q b F) t.store_after) (sym request) (change_leaves e o);
        changes = λ e o withdrawn' added' q.
            let eg : withdrawn ≡ withdrawn' = cc in
            let en : added ≡ added' = cc in
            subst₂ (λ (g n : List ℕ). Changes b F (edited F g n) store t) eg en (change_effects e o);
      }

-- ---- any call

-- A change asks for a store that is classified afresh; a classify does not.
pub classify_turn_lem : (b : List ℕ) (F : Axioms) (store : List ℕ) (t : Turn) → RunsOn store t → t.call.request ≡ classify → Known b F store t
classify_turn_lem b F store t x request = go t.call.request t.answer x.contract request refl
  where
    go : (q : Request) (y : Answer) → Meets t.call.catalogue (lent_to t store) (lend x.part_after t.work_after t.list_after) q y → q ≡ classify → t.answer ≡ y
        → Known b F store t
    go classify (classified a) (classifies c) e f = classify_known b F store t x a request f c
    go (change withdrawn added) (changed a) (changes c) e f = let z : ◌≡◌ {A = ℕ} 0 1 = cc in absurd (omega arith)
    go classify (changed a) m e f = elim m [ ]
    go (change withdrawn added) (classified a) m e f = elim m [ ]

pub any_turn : (b : List ℕ) (F : Axioms) (store : List ℕ) → FreshStore b F store → (t : Turn) → RunsOn store t → Known b F store t
any_turn b F store u t x = go t.call.request t.answer x.contract refl refl
  where
    go : (q : Request) (y : Answer) → Meets t.call.catalogue (lent_to t store) (lend x.part_after t.work_after t.list_after) q y → t.call.request ≡ q → t.answer ≡ y
        → Known b F store t
    go classify (classified a) (classifies c) e f = classify_known b F store t x a e f c
    go (change withdrawn added) (changed a) (changes c) e f = change_known b F store u t x withdrawn added a e f c
    go classify (changed a) m e f = elim m [ ]
    go (change withdrawn added) (classified a) m e f = elim m [ ]
