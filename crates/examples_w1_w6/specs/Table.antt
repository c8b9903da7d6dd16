-- W1 to W6 (document 01, Examples): a part of the worked table. What a call answers is said of every exit that its contract allows.
-- What is read of W1 to W4 is said of every store classified afresh. Lists of axioms are written byte by byte, four to an axiom.
use Rattle.std.specs.Prelude.{ℕ, ◌<◌, ◌≡◌, ◌↔◌, List, [], ◌∷◌, length, take, drop, Ok, Err, true, false}
use Rattle.catalogue.specs.Header.{concepts_at, inclusions_at, compositions_at, axioms_at}
use Rattle.catalogue.specs.Outcome.{accepted}
use Rattle.catalogue.specs.Checks.{checked}
use Rattle.catalogue.specs.Examples.{w1}
use Rattle.catalogue.specs.Verdicts.{refusal}
use Rattle.rules.specs.Axioms.{Axioms, catalogue_axioms}
use Rattle.rules.specs.Occurrence.{Occurs}
use Rattle.rules.specs.Rules.{Expression, pair, Closure}
use Rattle.rules.specs.Changes.{NewSet}
use Rattle.layout.specs.Parts.{used, work_used}
use Rattle.store.specs.Fresh.{Fresh}
use Rattle.change_contract.specs.Lists.{edited}
use Rattle.change_contract.specs.Answers.{changed}
use Rattle.lookups.specs.Answers.{looked_up}
use Rattle.row_parts.specs.Rows.{row_answer, placed}
use Rattle.examples_w1_w6.specs.Stores.{w1_store, w3_store}
use Rattle.examples_common.specs.Calls.{ClassifyGives, ChangeGives, ListingGives, WriteGives}
use Rattle.examples_common.specs.Entries.{Classified, Changed}

-- W1's axioms; without (1,5); with that added back; with (0,3) as well; and that without (1,5).
abbrev pub axioms1 : Axioms
axioms1 = catalogue_axioms w1

abbrev pub axioms3 : Axioms
axioms3 = edited axioms1 (1 ∷ 0 ∷ 5 ∷ 0 ∷ []) []

abbrev pub axioms5 : Axioms
axioms5 = edited axioms3 [] (1 ∷ 0 ∷ 5 ∷ 0 ∷ [])

abbrev pub axioms6 : Axioms
axioms6 = edited axioms1 [] (0 ∷ 0 ∷ 3 ∷ 0 ∷ [])

abbrev pub axioms6' : Axioms
axioms6' = edited axioms6 (1 ∷ 0 ∷ 5 ∷ 0 ∷ []) []

pub record Table : Type 0 where
  -- ---- W1 and W2
  -- W1's file has 80 bytes, offsets 20, 62, 62, 68, and is accepted.
  pub W1_bytes : (length w1 ≡ 80) × (concepts_at w1 ≡ 20) × (inclusions_at w1 ≡ 62) × (compositions_at w1 ≡ 62) × (axioms_at w1 ≡ 68)
  pub W1_accepted : checked w1 ≡ accepted
  -- The store has 35 bytes, and the work space 28.
  pub W1_store : (used w1 ≡ 35) × (work_used w1 ≡ 28)
  -- W1: 14 pairs, 7 links; pair rows 89, 34, 4, 8, 88, 32, 72.
  pub W1 : Classified w1 axioms1 14 7 (89 ∷ 34 ∷ 4 ∷ 8 ∷ 88 ∷ 32 ∷ 72 ∷ [])
  -- Classify answers these counts, and leaves W1's store, whose pair rows are these bytes and which is classified afresh.
  pub W1_classify : ClassifyGives w1 35 28 14 7 w1_store
  pub W1_rows : take 7 (drop 7 w1_store) ≡ 89 ∷ 34 ∷ 4 ∷ 8 ∷ 88 ∷ 32 ∷ 72 ∷ []
  pub W1_fresh : Fresh w1 axioms1 w1_store
  -- The row of 0 stands from byte 7 of the store, one byte long.
  pub W1_row : (store : List ℕ) → Fresh w1 axioms1 store → (row_answer w1 0 store ≡ Ok (placed 7 1)) × (take 1 (drop 7 store) ≡ 89 ∷ [])
  -- Listing under 3 gives the atomic concepts 0 and 3, and listing under 6 gives 0, two bytes each.
  pub W1_listing3 : (store : List ℕ) → Fresh w1 axioms1 store → ListingGives w1 3 store 14 2 (0 ∷ 0 ∷ 3 ∷ 0 ∷ [])
  pub W1_listing6 : (store : List ℕ) → Fresh w1 axioms1 store → ListingGives w1 6 store 14 1 (0 ∷ 0 ∷ [])
  -- Write gives W1's file of 80 bytes back.
  pub W1_write : (store : List ℕ) → Fresh w1 axioms1 store → WriteGives w1 store 80 w1
  -- W2: (0,3) yes; (3,0) no; both occur.
  pub W2_yes : Closure w1 axioms1 (pair 0 3)
  pub W2_no : ¬ (Closure w1 axioms1 (pair 3 0))
  pub W2_occur : Occurs w1 axioms1 0 × Occurs w1 axioms1 3
  pub W2_lookups : (store : List ℕ) → Fresh w1 axioms1 store → (looked_up w1 0 3 store ≡ Ok true) × (looked_up w1 3 0 store ≡ Ok false)
  -- ---- W3 to W6
  -- W3: withdraw (1,5): removed 10, returned 0, gained 0; touched 0, 1, 4, 5; 8 pairs, 3 links.
  pub W3 : Changed w1 axioms1 axioms3 10 0 0 (0 ∷ 1 ∷ 4 ∷ 5 ∷ []) [] (0 ∷ 1 ∷ 4 ∷ 5 ∷ [])
  pub W3_withdraw : ChangeGives w1 (1 ∷ 0 ∷ 5 ∷ 0 ∷ []) [] axioms1 axioms3 28 14 (changed 10 0 0 4) (0 ∷ 0 ∷ 1 ∷ 0 ∷ 4 ∷ 0 ∷ 5 ∷ 0 ∷ [])
  pub W3_store : (store : List ℕ) → Fresh w1 axioms3 store → take 35 store ≡ w3_store
  pub W3_left : Classified w1 axioms3 8 3 (17 ∷ 2 ∷ 4 ∷ 8 ∷ 16 ∷ 0 ∷ 72 ∷ [])
  pub W3_fresh : Fresh w1 axioms3 w3_store
  -- W4: then 5 does not occur, and lookup of 5 gives 19.
  pub W4 : ¬ (Occurs w1 axioms3 5)
  pub W4_lookups : (store : List ℕ) → Fresh w1 axioms3 store → (x : ℕ) → x < 7 → (looked_up w1 5 x store ≡ Err (refusal 19 0)) × (looked_up w1 x 5 store ≡ Err (refusal 19 0))
  -- W5: (1,5) added back gives W1's set, and W1's store.
  pub W5 : Changed w1 axioms3 axioms5 0 0 10 [] (0 ∷ 1 ∷ 4 ∷ 5 ∷ []) (0 ∷ 1 ∷ 4 ∷ 5 ∷ [])
  pub W5_back : (axioms5 ≡ axioms1) × ((e : Expression) → NewSet w1 axioms3 axioms5 (Closure w1 axioms3) e ↔ Closure w1 axioms1 e)
  pub W5_add : ChangeGives w1 [] (1 ∷ 0 ∷ 5 ∷ 0 ∷ []) axioms3 axioms1 28 14 (changed 0 0 10 4) (0 ∷ 0 ∷ 1 ∷ 0 ∷ 4 ∷ 0 ∷ 5 ∷ 0 ∷ [])
  pub W5_store : (store : List ℕ) → Fresh w1 axioms5 store → take 35 store ≡ w1_store
  -- W6: with (0,3) also in force, W3 has removed 10, returned 1.
  pub W6 : Changed w1 axioms6 axioms6' 10 1 0 (0 ∷ 1 ∷ 4 ∷ 5 ∷ []) [] (0 ∷ 1 ∷ 4 ∷ 5 ∷ [])
  pub W6_withdraw : ChangeGives w1 (1 ∷ 0 ∷ 5 ∷ 0 ∷ []) [] axioms6 axioms6' 28 14 (changed 10 1 0 4) (0 ∷ 0 ∷ 1 ∷ 0 ∷ 4 ∷ 0 ∷ 5 ∷ 0 ∷ [])
