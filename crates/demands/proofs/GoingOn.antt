-- Lists of calls with catalogues written between them are as one list: all that is reached is fresh, and catalogues that differ in their axioms alone ask a
-- change the same.
use Prim.Native.Nat.{ℕ, ◌≤◌}
use mathlib.Core.Path.{◌≡◌, refl, sym, ap, subst, ◌∙◌}
use mathlib.Core.Bool.{true}
use mathlib.Core.List.{List, [], ◌∷◌, map, Memᴰ}
use lib.ListN.{length}
use Rattle.catalogue.specs.Outcome.{accepted}
use Rattle.catalogue.specs.Checks.{checked}
use Rattle.catalogue.proofs.Passed.{after_accepted}
use Rattle.rules.specs.Axioms.{Axioms}
use Rattle.store.specs.Checks.{store_fits, work_fits, list_fits, axioms_in_limit, ask_store, ask_work, ask_list, ask_numbers}
use Rattle.store.specs.Written.{axiom_count, written, SameRecords}
use Rattle.store.proofs.SameRules.{used_same, range_same, fresh_same, fresh_written}
use Rattle.store.proofs.Written.{written_same, written_well_formed, written_accepted}
use Rattle.change_contract.specs.Questions.{Lengths, change_checks, length_checks, content_checks, axiom_checks, ask_room}
use Rattle.demands.specs.Sequences.{Call, questions, puts, after_call, after_calls}
use Rattle.demands.specs.GoingOn.{Reached, listed, further, rewritten, under, IsChange, GoingOn}
use Rattle.demands.proofs.FreshStores.{FreshStore}
use Rattle.demands.proofs.Afresh.{work_same}
use Rattle.demands.proofs.DemandThree.{expected_same, turns_correct, sequence_correct, classified_afresh}

-- ---- catalogues with the same records

module _ (b w : List ℕ) (m : SameRecords b w) where
  pub count_same : (F : Axioms) → axiom_count w F ≡ axiom_count b F
  unfolding axiom_count
  count_same F = rw m.concepts_same

  -- A change is asked the same.
  rest_same : (withdrawn added : List ℕ) (lent : Lengths) (F : Axioms)
      → length_checks w (length withdrawn) (length added) lent (content_checks w withdrawn added true true F)
      ≡ length_checks b (length withdrawn) (length added) lent (content_checks b withdrawn added true true F)
  unfolding length_checks content_checks axiom_checks ask_store ask_work ask_list ask_numbers ask_room store_fits work_fits list_fits axioms_in_limit axiom_count
  rest_same withdrawn added lent F = rw (used_same b w m, work_same b w m, m.concepts_same)

  module _ (ok : checked b ≡ accepted) (ok' : checked w ≡ accepted) where
    asked_same : (withdrawn added : List ℕ) (lent : Lengths) (F : Axioms) → change_checks w withdrawn added lent true true F ≡ change_checks b withdrawn added lent true true F
    unfolding change_checks
    asked_same withdrawn added lent F = after_accepted w _ ok' ∙ rest_same withdrawn added lent F ∙ sym (after_accepted b _ ok)

    call_same : (F : Axioms) (c : Call) → IsChange c → after_call w F (under w c) ≡ after_call b F (under b c)
    unfolding after_call questions puts
    call_same F c (withdrawn, added, q) =
        rw (expected_same w F (under w c) refl, expected_same b F (under b c) refl, q, asked_same withdrawn added c.lent F)

    calls_same : (F : Axioms) (cs : List Call) → ((c : Call) → Memᴰ c cs → IsChange c) → after_calls w F (map (under w) cs) ≡ after_calls b F (map (under b) cs)
    unfolding after_calls
    calls_same F [] all = refl
    calls_same F (c ∷ cs) all =
        calls_same (after_call w F (under w c)) cs (λ d d_in. all d (Memᴰ.tail d_in))
        ∙ ap (λ (G : Axioms). after_calls b G (map (under b) cs)) (call_same F c (all c (Memᴰ.head refl)))

-- ---- all that is reached

-- The catalogue that is written is as good.
written_fresh : (b : List ℕ) (F : Axioms) (store : List ℕ) → FreshStore b F store → FreshStore (written b F) F store
written_fresh b F store u =
    let m = written_same b F u.well_formed in
    record {
      catalogue = written_accepted b F u.well_formed u.few;
      well_formed = written_well_formed b F u.well_formed u.few;
      range = range_same b (written b F) m F u.range;
      few = subst (λ n. n ≤ 4096) (sym (count_same b (written b F) m F)) u.few;
      fresh = (fresh_written b F store u.well_formed u.range u.few).0 u.fresh;
    }

reached_fresh : {b store : List ℕ} {F : Axioms} → Reached b F store → FreshStore b F store
reached_fresh (listed {b} {store} {last} {t} {ts} s) = (sequence_correct b store t ts last s).1
reached_fresh (further {b} {store} {last} {F} {ts} r g) = (turns_correct b F store ts last (reached_fresh r) g.ran g.one_catalogue).1
reached_fresh (rewritten {b} {store} {F} r) = written_fresh b F store (reached_fresh r)

pub going_on : GoingOn
going_on b F store r =
    let u = reached_fresh r in
    let wf = u.well_formed in
    let m = written_same b F wf in
    let w = written_fresh b F store u in
    record {
      afresh = classified_afresh b F store u;
      correct = λ ts last g. (turns_correct b F store ts last u g.ran g.one_catalogue).0;
      same_axioms = calls_same b (written b F) m u.catalogue w.catalogue F;
      same_store = λ G other range few.
          let s = fresh_same b (written b F) G other m wf w.well_formed range in
          (s.1, s.0);
    }
