-- W1 by the contracts: it is classified from a store of zeros into the worked table's store, looked up, and written back. So what the theorems ask can be met.
use Prim.Native.Nat.{ℕ}
use mathlib.Core.Path.{◌≡◌, refl, sym}
use mathlib.Core.List.{[], ◌∷◌}
use mathlib.Core.Bool.{true, false, Bool}
use lib.Dec.{lit≤}
use lib.ListN.{replicate}
use Rattle.std.proofs.Common.{Result, Ok}
use Rattle.catalogue.specs.declared.checks.Refusal.{Refusal}
use Rattle.catalogue.specs.Words.{word}
use Rattle.catalogue.specs.Header.{concepts, roles}
use Rattle.catalogue.specs.Outcome.{accepted}
use Rattle.catalogue.specs.Examples.{w1}
use Rattle.catalogue.proofs.Outcomes.{never_both}
use Rattle.rules.specs.Axioms.{catalogue_axioms}
use Rattle.rules.specs.Models.{Entails, Refuted}
use Rattle.layout.specs.Parts.{width, used, work_used}
use Rattle.store.specs.Checks.{store_fits, work_fits}
use Rattle.store.specs.Work.{zeroed}
use Rattle.lookups.specs.Answers.{looked_up}
use Rattle.meaning.specs.Meaning.{LookupMeans}
use Rattle.writing.specs.Write.{Writes}
use Rattle.classification.specs.Classified.{classify_checks, Classifies, classified}
use Rattle.classification.proofs.Checks.{all_accepted}
use Rattle.examples_w1_w6.specs.Stores.{w1_store}
use Rattle.examples_w1_w6.proofs.Reading.{w1_writes}
use Rattle.worked_examples.proofs.Worked.{worked}
use Rattle.demands.specs.Afresh.{ClassifiesAlike}
use Rattle.demands.specs.Sequences.{Turn, Sequence, in_force_after}
use Rattle.demands.specs.PublicCalls.{PublicCall, buffers, Returns}
use Rattle.demands.proofs.AfterCalls.{classify_turn, classify_alone, classify_alone_axioms}
use Rattle.demands.proofs.DemandTwo.{demand_two}
use Rattle.demands.proofs.ClassifyWritten.{calls_write_classify}

-- 35 bytes of store and 28 of work space are long enough.
pub w1-asked : classify_checks w1 35 28 ≡ accepted
unfolding w1 word concepts roles width used work_used store_fits work_fits
w1-asked = all_accepted w1 35 28 worked.W1_to_W6.W1_accepted refl refl

-- W1: 14 pairs and 7 links, and the table's store.
pub w1_classifies : Classifies w1 (replicate 35 0) (replicate 28 0) (Ok (classified 14 7)) w1_store (replicate 28 0)
unfolding w1 w1_store word concepts roles width used work_used zeroed
w1_classifies =
    record {
      refuses = λ number at e. absurd (never_both _ w1-asked e);
      accepts = λ _.
          record {
            answers = refl;
            pairs_counted = worked.W1_to_W6.W1.pairs_right;
            links_counted = worked.W1_to_W6.W1.links_right;
            fresh = worked.W1_to_W6.W1_fresh;
            store_rest = refl;
            work_zero = refl;
          };
    }

-- It is a public call that returned, lent no list.
pub w1_returns : Returns w1 (buffers (replicate 35 0) (replicate 28 0) [] []) PublicCall.classify accepted (buffers w1_store (replicate 28 0) [] [])
w1_returns = Returns.classifies w1_classifies

-- This classify alone, as a list of calls.
abbrev pub w1_turn : Turn
w1_turn = classify_turn w1 (replicate 35 0) (replicate 28 0) (Ok (classified 14 7)) w1_store (replicate 28 0)

w1_alone : Sequence w1 (replicate 35 0) w1_turn [] w1_store
w1_alone = classify_alone w1 (replicate 35 0) (replicate 28 0) (Ok (classified 14 7)) w1_store (replicate 28 0) w1_classifies w1-asked

w1_alone_axioms : catalogue_axioms w1 ≡ in_force_after w1 (w1_turn ∷ [])
w1_alone_axioms = classify_alone_axioms w1 (replicate 35 0) (replicate 28 0) (Ok (classified 14 7)) w1_store (replicate 28 0) w1_classifies w1-asked

-- W2: (0, 3) yes, so that 0 lies within 3 in every finite interpretation; (3, 0) no, and one shows otherwise.
pub w2_means : Entails w1 (catalogue_axioms w1) 0 3 × Refuted w1 (catalogue_axioms w1) 3 0
unfolding w1_store
w2_means =
    let after : (c d : ℕ) (r : Result Bool Refusal) → r ≡ looked_up w1 c d w1_store → LookupMeans w1 (catalogue_axioms w1) c d r =
    (demand_two.edited w1 (replicate 35 0) w1_turn [] w1_store w1_alone (catalogue_axioms w1) w1_alone_axioms 35 worked.W1_to_W6.W1_fresh.long).lookups
    in
    let (found, missed) = worked.W1_to_W6.W2_lookups w1_store worked.W1_to_W6.W1_fresh in
    (((after 0 3 (Ok true) (sym found)).yes_means.0 refl).2, ((after 3 0 (Ok false) (sym missed)).no_means.0 refl).2)

-- Into 80 bytes W1 is written back, and classify of it leaves the same used part.
pub w1_alike : ClassifiesAlike w1 w1_store w1
unfolding w1 w1_store
w1_alike =
    let back : Writes w1 w1_store (replicate 80 0) (Ok 80) w1 = w1_writes w1_store worked.W1_to_W6.W1_fresh (replicate 80 0) (lit≤ tt) in
    (calls_write_classify w1 (replicate 35 0) w1_turn [] w1_store w1_alone (catalogue_axioms w1) w1_alone_axioms 35 worked.W1_to_W6.W1_fresh.long (replicate 80 0) 80 w1 back).1
