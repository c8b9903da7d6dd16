-- W3 to W5: withdraw (1,5), and add it back.
use Prim.Native.Nat.{ℕ}
use native.Mathlib.Omega.{arith}
use mathlib.Core.Path.{◌≡◌, refl, subst, ◌∙◌}
use mathlib.Core.Bool.{false}
use mathlib.Core.List.{List, [], ◌∷◌}
use lib.ListN.{length, take}
use lib.Seq.{take_all}
use Rattle.catalogue.specs.Examples.{w1}
use Rattle.catalogue.specs.Outcome.{accepted}
use Rattle.derivation.specs.Finite.{some}
use Rattle.rules.specs.Axioms.{InRange}
use Rattle.store.specs.Written.{rising}
use Rattle.store.specs.Fresh.{Fresh}
use Rattle.store.proofs.Fresh.{fresh_unique}
use Rattle.store.proofs.Examples.{w1_lengths}
use Rattle.change_contract.proofs.Members.{on_list}
use Rattle.examples_w1_w6.specs.Stores.{w3_store}
use Rattle.examples_common.specs.Entries.{Classified, Changed}
use Rattle.examples_common.specs.Computed.{pairs_of, links_of, rows_of, removed_of, returned_of, gained_of, broken_of, gaining_of}
use Rattle.examples_w1_w6.specs.Table.{axioms1, axioms3, axioms5}
use Rattle.examples_common.proofs.Classified.{classified}
use Rattle.examples_common.proofs.Changed.{Computes, changed}
use Rattle.examples_common.proofs.Editing.{lists_asked, changed_in_range}
use Rattle.examples_common.proofs.Stores.{other_axiom, other_expression, other_byte, fresh_computed}
use Rattle.catalogue.proofs.Examples.{w1_well_formed}
use Rattle.examples_w1_w6.proofs.W1.{range1}

pub w3_asks : lists_asked w1 (1 ∷ 0 ∷ 5 ∷ 0 ∷ []) [] axioms1 ≡ accepted
unfolding lists_asked w1
w3_asks = refl

pub range3 : InRange w1 axioms3
range3 = changed_in_range w1 (1 ∷ 0 ∷ 5 ∷ 0 ∷ []) [] axioms1 w3_asks range1

w3_computed : Computes w1 axioms1 axioms3 10 0 0 (0 ∷ 1 ∷ 4 ∷ 5 ∷ []) [] (0 ∷ 1 ∷ 4 ∷ 5 ∷ [])
unfolding removed_of returned_of gained_of broken_of gaining_of w1 rising on_list some
w3_computed = (refl, refl, refl, refl, refl, refl)

pub w3_change : Changed w1 axioms1 axioms3 10 0 0 (0 ∷ 1 ∷ 4 ∷ 5 ∷ []) [] (0 ∷ 1 ∷ 4 ∷ 5 ∷ [])
w3_change = changed w1 axioms1 axioms3 w1_well_formed range1 range3 10 0 0 (0 ∷ 1 ∷ 4 ∷ 5 ∷ []) [] (0 ∷ 1 ∷ 4 ∷ 5 ∷ []) w3_computed

w3_left_pairs : pairs_of w1 axioms3 ≡ 8
unfolding pairs_of w1
w3_left_pairs = refl

w3_left_links : links_of w1 axioms3 ≡ 3
unfolding links_of w1
w3_left_links = refl

w3_left_rows : rows_of w1 axioms3 ≡ 17 ∷ 2 ∷ 4 ∷ 8 ∷ 16 ∷ 0 ∷ 72 ∷ []
unfolding rows_of w1
w3_left_rows = refl

pub w3_left : Classified w1 axioms3 8 3 (17 ∷ 2 ∷ 4 ∷ 8 ∷ 16 ∷ 0 ∷ 72 ∷ [])
w3_left = classified w1 axioms3 w1_well_formed range3 8 3 (17 ∷ 2 ∷ 4 ∷ 8 ∷ 16 ∷ 0 ∷ 72 ∷ []) w3_left_pairs w3_left_links w3_left_rows

-- ---- the store that is left

w3_store_long : length w3_store ≡ 35
unfolding w3_store
w3_store_long = refl

w3_store_axioms : other_axiom w1 axioms3 w3_store ≡ false
unfolding other_axiom w1 w3_store
w3_store_axioms = refl

w3_store_set : other_expression w1 axioms3 w3_store ≡ false
unfolding other_expression w1 w3_store
w3_store_set = refl

w3_store_bytes : other_byte w1 w3_store ≡ false
unfolding other_byte w1 w3_store
w3_store_bytes = refl

pub w3_fresh : Fresh w1 axioms3 w3_store
w3_fresh = fresh_computed w1 axioms3 w3_store w1_well_formed range3 (omega (arith, w1_lengths.0, w3_store_long)) w3_store_axioms w3_store_set w3_store_bytes

pub w3_front : (store : List ℕ) → Fresh w1 axioms3 store → take 35 store ≡ w3_store
w3_front store fresh =
    subst (λ (k : ℕ). take k store ≡ take k w3_store) w1_lengths.0 (fresh_unique w1 axioms3 axioms3 store w3_store w1_well_formed (λ c d. refl) fresh w3_fresh)
    ∙ take_all 35 w3_store (omega (arith, w3_store_long))

-- ---- added back

pub w5_asks : lists_asked w1 [] (1 ∷ 0 ∷ 5 ∷ 0 ∷ []) axioms3 ≡ accepted
unfolding lists_asked w1
w5_asks = refl

range5 : InRange w1 axioms5
range5 = changed_in_range w1 [] (1 ∷ 0 ∷ 5 ∷ 0 ∷ []) axioms3 w5_asks range3

w5_computed : Computes w1 axioms3 axioms5 0 0 10 [] (0 ∷ 1 ∷ 4 ∷ 5 ∷ []) (0 ∷ 1 ∷ 4 ∷ 5 ∷ [])
unfolding removed_of returned_of gained_of broken_of gaining_of w1 rising on_list some
w5_computed = (refl, refl, refl, refl, refl, refl)

pub w5_change : Changed w1 axioms3 axioms5 0 0 10 [] (0 ∷ 1 ∷ 4 ∷ 5 ∷ []) (0 ∷ 1 ∷ 4 ∷ 5 ∷ [])
w5_change = changed w1 axioms3 axioms5 w1_well_formed range3 range5 0 0 10 [] (0 ∷ 1 ∷ 4 ∷ 5 ∷ []) (0 ∷ 1 ∷ 4 ∷ 5 ∷ []) w5_computed
