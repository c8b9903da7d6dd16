-- Moves: the counts and names of each change, as they are computed.
use mathlib.Core.Path.{refl}
use mathlib.Core.List.{[], ◌∷◌}
use Rattle.catalogue.specs.Examples.{w1}
use Rattle.derivation.specs.Finite.{some}
use Rattle.store.specs.Written.{rising}
use Rattle.change_contract.proofs.Members.{on_list}
use Rattle.examples_common.specs.Computed.{removed_of, returned_of, gained_of, broken_of, gaining_of}
use Rattle.examples_w1_w6.specs.Table.{axioms1}
use Rattle.examples_w1_moves.specs.Table.{moved1, moved2, moved3, moved4, unmoved}
use Rattle.examples_common.proofs.Changed.{Computes}

-- W1, (1,5) out and (0,6) in

pub move1_computed : Computes w1 axioms1 moved1 10 3 0 (0 ∷ 1 ∷ 4 ∷ 5 ∷ []) [] (0 ∷ 1 ∷ 4 ∷ 5 ∷ [])
unfolding removed_of returned_of gained_of broken_of gaining_of w1 rising on_list some
move1_computed = (refl, refl, refl, refl, refl, refl)

-- W1, (0,4) out and (2,4) in

pub move2_computed : Computes w1 axioms1 moved2 5 0 5 (0 ∷ []) (2 ∷ []) (0 ∷ 2 ∷ [])
unfolding removed_of returned_of gained_of broken_of gaining_of w1 rising on_list some
move2_computed = (refl, refl, refl, refl, refl, refl)

-- W1, (1,5) out and (0,5) in

pub move3_computed : Computes w1 axioms1 moved3 8 0 2 (0 ∷ 1 ∷ 4 ∷ []) (0 ∷ []) (0 ∷ 1 ∷ 4 ∷ [])
unfolding removed_of returned_of gained_of broken_of gaining_of w1 rising on_list some
move3_computed = (refl, refl, refl, refl, refl, refl)

-- W1, two out and two in

pub move4_computed : Computes w1 axioms1 moved4 12 3 2 (0 ∷ 1 ∷ 4 ∷ 5 ∷ []) (2 ∷ []) (0 ∷ 1 ∷ 2 ∷ 4 ∷ 5 ∷ [])
unfolding removed_of returned_of gained_of broken_of gaining_of w1 rising on_list some
move4_computed = (refl, refl, refl, refl, refl, refl)

-- W1, two empty lists

pub empty_computed : Computes w1 axioms1 unmoved 0 0 0 [] [] []
unfolding removed_of returned_of gained_of broken_of gaining_of w1 rising on_list some
empty_computed = (refl, refl, refl, refl, refl, refl)
