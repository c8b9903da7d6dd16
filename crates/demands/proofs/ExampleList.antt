-- A list of calls by the contracts, so that what demand 3 asks can be met: W1 is classified, (1, 5) is withdrawn (W3), the same is refused with a catalogue of
-- 19 bytes, with ten bytes from the middle of the store, and then as not in force, it is added back (W5), and one change moves it: (1, 5) out and (0, 6) in.
-- And the catalogue that is written then.
use Prim.Native.Nat.{ℕ, ◌≤◌}
use native.Mathlib.Omega.{arith}
use mathlib.Core.Path.{◌≡◌, refl, sym, subst, ◌∙◌}
use mathlib.Core.Bool.{false}
use mathlib.Core.Logic.{inr, ⊎_elim}
use mathlib.Core.List.Memᴰ
use mathlib.Core.List.{List, [], ◌∷◌, Memᴰ}
use lib.ListN.{length, take, drop, replicate}
use Rattle.std.proofs.Common.{Ok, Err}
use Rattle.catalogue.specs.Words.{word, bytes_of}
use Rattle.catalogue.specs.Header.{concepts, roles}
use Rattle.catalogue.specs.Outcome.{accepted, refused}
use Rattle.catalogue.specs.Examples.{w1}
use Rattle.catalogue.specs.Verdicts.{refusal}
use Rattle.catalogue.proofs.Examples.{w1_well_formed, nineteen_bytes}
use Rattle.rules.specs.Axioms.{Axioms, InRange}
use Rattle.layout.specs.Parts.{width, used, work_used}
use Rattle.store.specs.Checks.{store_fits}
use Rattle.store.specs.Written.{axiom_count, written}
use Rattle.store.specs.Fresh.{Fresh}
use Rattle.store.specs.Work.{zeroed}
use Rattle.store.proofs.Examples.{w1_lengths, w1_axiom_count}
use Rattle.number_lists.specs.Lists.{with_front}
use Rattle.change_contract.specs.Lists.{edited}
use Rattle.change_contract.specs.Edits.{Lent, lend, asked, Edits}
use Rattle.change_contract.specs.Answers.{changed as counts}
use Rattle.change_contract.proofs.Asking.{refused_catalogue, refused_store}
use Rattle.change_contract.proofs.Checks.{asked_by_axioms}
use Rattle.change_contract.proofs.Outcomes.{ends_refused, ends_fresh}
use Rattle.classification.specs.Classified.{classified}
use Rattle.examples_w1_w6.specs.Stores.{w1_store, w3_store}
use Rattle.examples_common.specs.Entries.{Changed}
use Rattle.examples_w1_w6.specs.Table.{axioms1, axioms3}
use Rattle.examples_w1_moves.specs.Table.{moved1}
use Rattle.worked_examples.proofs.Worked.{worked}
use Rattle.examples_common.proofs.Stores.{other_axiom, other_expression, other_byte, fresh_computed}
use Rattle.examples_common.proofs.Editing.{lists_asked, asked_of_lists, changed_in_range, change_asked}
use Rattle.examples_w1_w6.proofs.Reading.{w3_axiom_count, seven}
use Rattle.examples_w1_w6.proofs.W1.{range1}
use Rattle.examples_w1_w6.proofs.W3.{w3_asks, w5_asks}
use Rattle.examples_w1_moves.proofs.Moves.{move1_asks}
use Rattle.demands.specs.Sequences.{change, changed, outcome_of, Turn, changes, RunsOn, nothing, first, Sequence, in_force_after}
use Rattle.demands.specs.GoingOn.{listed, rewritten, Reached}
use Rattle.demands.proofs.AfterCalls.{change_turn, change_runs, classify_turn, classify_runs}
use Rattle.demands.proofs.Examples.{w1-asked, w1_classifies, w1_turn}

-- ---- what is lent, and what is left

-- Two lists of one axiom.
abbrev pub axiom15 : List ℕ
axiom15 = 1 ∷ 0 ∷ 5 ∷ 0 ∷ []

abbrev pub axiom06 : List ℕ
axiom06 = 0 ∷ 0 ∷ 6 ∷ 0 ∷ []

-- A store, a work space of 28 zeros, and a list of 14.
unfoldable pub lent : (store : List ℕ) → Lent
lent store = lend store (replicate 28 0) (replicate 14 0)

-- The same with concepts 0, 1, 4 and 5 in front of the list.
unfoldable pub left : (store : List ℕ) → Lent
left store = lend store (replicate 28 0) (0 ∷ 0 ∷ 1 ∷ 0 ∷ 4 ∷ 0 ∷ 5 ∷ 0 ∷ replicate 6 0)

-- The store after the move, classified afresh.
unfoldable pub moved_store : List ℕ
moved_store =
    80 ∷ 0 ∷ 0 ∷ 0 ∷ 0 ∷ 0 ∷ 8 ∷
    89 ∷ 2 ∷ 4 ∷ 8 ∷ 16 ∷ 0 ∷ 72 ∷
    2 ∷ 0 ∷ 4 ∷ 0 ∷ 0 ∷ 0 ∷ 0 ∷ 0 ∷ 0 ∷ 0 ∷ 0 ∷ 0 ∷ 2 ∷ 0 ∷ 0 ∷ 0 ∷ 0 ∷ 0 ∷ 0 ∷ 0 ∷ 4 ∷ []

moved_long : length moved_store ≡ 35
unfolding moved_store
moved_long = refl

moved_axioms : other_axiom w1 moved1 moved_store ≡ false
unfolding other_axiom w1 moved_store
moved_axioms = refl

moved_set : other_expression w1 moved1 moved_store ≡ false
unfolding other_expression w1 moved_store
moved_set = refl

moved_bytes : other_byte w1 moved_store ≡ false
unfolding other_byte w1 moved_store
moved_bytes = refl

moved_fresh : Fresh w1 moved1 moved_store
moved_fresh =
    let range : InRange w1 moved1 = changed_in_range w1 axiom15 axiom06 axioms1 move1_asks range1 in
    fresh_computed w1 moved1 moved_store w1_well_formed range (omega (arith, w1_lengths.0, moved_long)) moved_axioms moved_set moved_bytes

-- ---- the calls

few1 : axiom_count w1 axioms1 ≤ 4096
few1 = omega (arith, w1_axiom_count)

few3 : axiom_count w1 axioms3 ≤ 4096
few3 = omega (arith, w3_axiom_count)

-- Each accepted change of the list touches 0, 1, 4 and 5.
module _ (withdrawn added : List ℕ) (F : Axioms) (asks : lists_asked w1 withdrawn added F ≡ accepted) (few : axiom_count w1 F ≤ 4096) (store : List ℕ) (fresh : Fresh w1 F store) where
  accepted_asked : asked w1 withdrawn added (lent store) ≡ accepted
  unfolding lent
  accepted_asked =
      change_asked w1 withdrawn added F asks worked.W1_to_W6.W1_accepted few (lent store) fresh (omega (arith, w1_lengths.1)) (omega (arith, seven))

  accepted_edits : (x y z : ℕ) (broken gaining after : List ℕ) → Changed w1 F (edited F withdrawn added) x y z broken gaining (0 ∷ 1 ∷ 4 ∷ 5 ∷ [])
      → Fresh w1 (edited F withdrawn added) after → drop 35 after ≡ drop 35 store → Edits w1 withdrawn added (lent store) (Ok (counts x y z 4)) (left after)
  unfolding lent left w1 word concepts roles width used work_used zeroed with_front bytes_of
  accepted_edits x y z broken gaining after c fresh-after rest =
      ends_fresh w1 withdrawn added F (lent store) (0 ∷ 1 ∷ 4 ∷ 5 ∷ []) (Ok (counts x y z 4)) (left after) fresh accepted_asked
      (record {
        answers = refl;
        effects =
            record {
              removed_counted = c.removed-right;
              returned_counted = c.returned-right;
              gained_counted = c.gained-right;
              listed = c.touched_right;
              touched_counted = refl;
            };
        fresh = fresh-after;
        store_rest = rest;
        work_zero = refl;
        list_is = refl;
      })

w3_edits : Edits w1 axiom15 [] (lent w1_store) (Ok (counts 10 0 0 4)) (left w3_store)
unfolding w1_store w3_store
w3_edits = accepted_edits axiom15 [] axioms1 w3_asks few1 w1_store worked.W1_to_W6.W1_fresh 10 0 0 _ _ w3_store worked.W1_to_W6.W3 worked.W1_to_W6.W3_fresh refl

-- Refused by 1, with 19 bytes as the catalogue; and by 18.
bad_edits : Edits (replicate 19 0) axiom15 [] (lent w3_store) (Err (refusal 1 0)) (lent w3_store)
unfolding asked
bad_edits = ends_refused (replicate 19 0) axiom15 [] (lent w3_store) 1 0 (refused_catalogue (replicate 19 0) axiom15 [] _ _ _ _ (nineteen_bytes (replicate 19 0) refl))

-- Refused by 10, with bytes 5 to 14 of the store.
middle : List ℕ
middle = take 10 (drop 5 w3_store)

middle_short : store_fits w1 10 ≡ false
unfolding store_fits used width concepts roles word w1
middle_short = refl

middle_edits : Edits w1 axiom15 [] (lent middle) (Err (refusal 10 0)) (lent middle)
unfolding asked lent middle w3_store
middle_edits = ends_refused w1 axiom15 [] (lent middle) 10 0 (refused_store w1 axiom15 [] _ _ _ _ worked.W1_to_W6.W1_accepted middle_short)

unfoldable pub middle_turn : Turn
middle_turn =
    record {
      call = record { request = change axiom15 []; catalogue = w1; lent = record { store = 10; work = 28; list = 14 }; from = 5 };
      work = replicate 28 0;
      list = replicate 14 0;
      answer = changed (Err (refusal 10 0));
      work_after = replicate 28 0;
      list_after = replicate 14 0;
      store_after = w3_store;
    }

middle_runs : RunsOn w3_store middle_turn
unfolding middle_turn middle lent w3_store
middle_runs =
    record {
      lent_is = refl;
      part = inr (omega (arith, w1_lengths.0));
      part_after = middle;
      contract = changes middle_edits;
      store_is = refl;
    }

absent_asks : lists_asked w1 axiom15 [] axioms3 ≡ refused 18 0
unfolding lists_asked w1
absent_asks = refl

absent_edits : Edits w1 axiom15 [] (lent w3_store) (Err (refusal 18 0)) (lent w3_store)
unfolding lent w3_store
absent_edits =
    ends_refused w1 axiom15 [] (lent w3_store) 18 0
    (asked_by_axioms w1 axioms3 axiom15 [] (lent w3_store) worked.W1_to_W6.W3_fresh few3
    ∙ asked_of_lists w1 axiom15 [] axioms3 _ (refused 18 0) absent_asks worked.W1_to_W6.W1_accepted (omega (arith, w1_lengths.0)) (omega (arith, w1_lengths.1)) (omega (arith, seven)))

w5_edits : Edits w1 [] axiom15 (lent w3_store) (Ok (counts 0 0 10 4)) (left w1_store)
unfolding w1_store w3_store
w5_edits =
    accepted_edits [] axiom15 axioms3 w5_asks few3 w3_store worked.W1_to_W6.W3_fresh 0 0 10 _ _ w1_store worked.W1_to_W6.W5
    (subst (λ (F : Axioms). Fresh w1 F w1_store) (sym worked.W1_to_W6.W5_back.0) worked.W1_to_W6.W1_fresh) refl

move_edits : Edits w1 axiom15 axiom06 (lent w1_store) (Ok (counts 10 3 0 4)) (left moved_store)
unfolding w1_store moved_store
move_edits = accepted_edits axiom15 axiom06 axioms1 move1_asks few1 w1_store worked.W1_to_W6.W1_fresh 10 3 0 _ _ moved_store worked.W1_moves.W1_move1 moved_fresh refl

-- ---- the list

unfoldable pub later : List Turn
later =
    change_turn w1 axiom15 [] (lent w1_store) (Ok (counts 10 0 0 4)) (left w3_store)
    ∷ change_turn (replicate 19 0) axiom15 [] (lent w3_store) (Err (refusal 1 0)) (lent w3_store)
    ∷ middle_turn
    ∷ change_turn w1 axiom15 [] (lent w3_store) (Err (refusal 18 0)) (lent w3_store)
    ∷ change_turn w1 [] axiom15 (lent w3_store) (Ok (counts 0 0 10 4)) (left w1_store)
    ∷ change_turn w1 axiom15 axiom06 (lent w1_store) (Ok (counts 10 3 0 4)) (left moved_store)
    ∷ []

-- A member of a list is its first, or one of the others.
member : (P : Turn → Type 0) (t : Turn) (ts : List Turn) → P t → ((x : Turn) → Memᴰ x ts → P x) → (x : Turn) → Memᴰ x (t ∷ ts) → P x
member P t ts p more x m = ⊎_elim (λ e. subst P (sym e) p) (more x) (Memᴰ.cases_cons m)

pub w1_sequence : Sequence w1 (replicate 35 0) w1_turn later moved_store
unfolding later lent left change_turn classify_turn middle_turn
w1_sequence =
    let P : Turn → Type 0 = λ x. outcome_of x.answer ≡ accepted → x.call.catalogue ≡ w1 in
    record {
      ran =
          first (classify_runs w1 (replicate 35 0) (replicate 28 0) (Ok (classified 14 7)) w1_store (replicate 28 0) w1_classifies w1-asked)
          (first (change_runs w1 axiom15 [] (lent w1_store) (Ok (counts 10 0 0 4)) (left w3_store) w3_edits)
          (first (change_runs (replicate 19 0) axiom15 [] (lent w3_store) (Err (refusal 1 0)) (lent w3_store) bad_edits)
          (first middle_runs
          (first (change_runs w1 axiom15 [] (lent w3_store) (Err (refusal 18 0)) (lent w3_store) absent_edits)
          (first (change_runs w1 [] axiom15 (lent w3_store) (Ok (counts 0 0 10 4)) (left w1_store) w5_edits)
          (first (change_runs w1 axiom15 axiom06 (lent w1_store) (Ok (counts 10 3 0 4)) (left moved_store) move_edits) nothing))))));
      begins = refl;
      begins_accepted = refl;
      one_catalogue =
          member P _ _ (λ o. refl)
          (member P _ _ (λ o. refl)
          (member P _ _ (λ o. let z : ◌≡◌ {A = ℕ} 0 1 = cc in absurd (omega arith))
          (member P _ _ (λ o. refl)
          (member P _ _ (λ o. refl)
          (member P _ _ (λ o. refl) (member P _ _ (λ o. refl) (λ x m. absurd (Memᴰ.not-nil m))))))));
    }

-- Going on from there with the catalogue that write gives.
pub w1_reached : Reached (written w1 (in_force_after w1 (w1_turn ∷ later))) (in_force_after w1 (w1_turn ∷ later)) moved_store
w1_reached = rewritten (listed w1_sequence)
