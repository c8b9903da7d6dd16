-- What a list of calls gives the calls after it: an accepted catalogue, and a store that is fresh for the axioms then in force. An accepted classify alone is
-- such a list.
use Prim.Native.Nat.{ℕ}
use mathlib.Core.Path.{◌≡◌, refl, sym, ap, subst, ◌∙◌}
use mathlib.Core.Logic.{inl, ⊎_elim}
use mathlib.Core.List.Memᴰ
use mathlib.Core.List.{List, [], ◌∷◌, ◌++◌, append-nil}
use lib.ListN.{length, take}
use lib.Seq.{take-length, drop-length}
use Rattle.std.proofs.Common.{Result}
use Rattle.catalogue.specs.declared.checks.Refusal.{Refusal}
use Rattle.catalogue.specs.Outcome.{accepted}
use Rattle.rules.specs.Axioms.{Axioms, catalogue_axioms, none}
use Rattle.change_contract.specs.Edits.{Lent, lend, lengths, Edits}
use Rattle.change_contract.specs.declared.Changed.{Changed}
use Rattle.classification.specs.Classified.{classify_checks, Classifies}
use Rattle.classification.specs.declared.Classified.{Classified}
use Rattle.classification.proofs.Outcomes.{answer_outcome}
use Rattle.demands.specs.Sequences.{classify, change, classified, changed, Turn, classifies, changes, RunsOn, nothing, first, Sequence, questions, puts, asked, after_calls, in_force_after, AfterCalls}
use Rattle.demands.proofs.FreshStores.{FreshStore, fresh_front}
use Rattle.demands.proofs.DemandThree.{expected_same, after_accepted, sequence_correct}

-- What holds of every fresh store holds after a list of calls.
pub after_calls_lem : (P : List ℕ → Axioms → List ℕ → Type 0) → ((b : List ℕ) (F : Axioms) (store : List ℕ) → FreshStore b F store → P b F store) → AfterCalls P
after_calls_lem P f b store t ts last s F e k long =
    f b F (take k last) (fresh_front b F last k long (subst (λ (G : Axioms). FreshStore b G last) (sym e) (sequence_correct b store t ts last s).1))

-- ---- turns that are lent the whole store

unfoldable pub change_turn : (b withdrawn added : List ℕ) (u : Lent) (answer : Result Changed Refusal) (v : Lent) → Turn
change_turn b withdrawn added u answer v =
    record {
      call = record { request = change withdrawn added; catalogue = b; lent = lengths u; from = 0 };
      work = u.work;
      list = u.list;
      answer = changed answer;
      work_after = v.work;
      list_after = v.list;
      store_after = v.store;
    }

pub change_runs : (b withdrawn added : List ℕ) (u : Lent) (answer : Result Changed Refusal) (v : Lent) → Edits b withdrawn added u answer v → RunsOn u.store (change_turn b withdrawn added u answer v)
unfolding change_turn
change_runs b withdrawn added u answer v call =
    record {
      lent_is = ap (λ (l : List ℕ). record { store = length l; work = length u.work; list = length u.list }) (take-length u.store);
      part = inl refl;
      part_after = v.store;
      contract = changes (subst (λ (s : List ℕ). Edits b withdrawn added (lend s u.work u.list) answer v) (sym (take-length u.store)) call);
      store_is = sym (ap (λ (l : List ℕ). v.store ++ l) (drop-length u.store) ∙ append-nil v.store);
    }

unfoldable pub classify_turn : (b store work : List ℕ) (answer : Result Classified Refusal) (store' work' : List ℕ) → Turn
classify_turn b store work answer store' work' =
    record {
      call = record { request = classify; catalogue = b; lent = record { store = length store; work = length work; list = 0 }; from = 0 };
      work = work;
      list = [];
      answer = classified answer;
      work_after = work';
      list_after = [];
      store_after = store';
    }

-- ---- classify alone

module _ (b store work : List ℕ) (answer : Result Classified Refusal) (store' work' : List ℕ) (call : Classifies b store work answer store' work')
    (ok : classify_checks b (length store) (length work) ≡ accepted) where
  pub classify_runs : RunsOn store (classify_turn b store work answer store' work')
  unfolding classify_turn
  classify_runs =
      record {
        lent_is = ap (λ (l : List ℕ). record { store = length l; work = length work; list = 0 }) (take-length store);
        part = inl refl;
        part_after = store';
        contract = classifies (subst (λ (l : List ℕ). Classifies b l work answer store' work') (sym (take-length store)) call);
        store_is = sym (ap (λ (l : List ℕ). store' ++ l) (drop-length store) ∙ append-nil store');
      }

  pub classify_alone : Sequence b store (classify_turn b store work answer store' work') [] store'
  unfolding classify_turn
  classify_alone =
      record {
        ran = first classify_runs nothing;
        begins = refl;
        begins_accepted = answer_outcome b store work answer store' work' call ∙ ok;
        one_catalogue = λ x m o. ⊎_elim (λ e. ap (λ (t : Turn). t.call.catalogue) e) (λ n. absurd (Memᴰ.not-nil n)) (Memᴰ.cases_cons m);
      }

  -- The axioms in force after it are the catalogue's.
  pub classify_alone_axioms : catalogue_axioms b ≡ in_force_after b (classify_turn b store work answer store' work' ∷ [])
  unfolding classify_turn in_force_after after_calls questions puts
  classify_alone_axioms =
      let c = (classify_turn b store work answer store' work').call in
      sym (after_accepted b none c (expected_same b none c refl ∙ ap asked ok))
