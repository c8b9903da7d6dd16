-- W6: with (0,3) also in force, withdraw (1,5).
use mathlib.Core.Path.{◌≡◌, refl}
use mathlib.Core.List.{[], ◌∷◌}
use Rattle.catalogue.specs.Examples.{w1}
use Rattle.catalogue.specs.Outcome.{accepted}
use Rattle.catalogue.proofs.Examples.{w1_well_formed}
use Rattle.derivation.specs.Finite.{some}
use Rattle.rules.specs.Axioms.{InRange}
use Rattle.store.specs.Written.{rising}
use Rattle.change_contract.proofs.Members.{on_list}
use Rattle.examples_common.specs.Entries.{Changed}
use Rattle.examples_common.specs.Computed.{removed_of, returned_of, gained_of, broken_of, gaining_of}
use Rattle.examples_w1_w6.specs.Table.{axioms1, axioms6, axioms6'}
use Rattle.examples_common.proofs.Changed.{Computes, changed}
use Rattle.examples_common.proofs.Editing.{lists_asked, changed_in_range}
use Rattle.examples_w1_w6.proofs.W1.{range1}

w6_before_asks : lists_asked w1 [] (0 ∷ 0 ∷ 3 ∷ 0 ∷ []) axioms1 ≡ accepted
unfolding lists_asked w1
w6_before_asks = refl

range6 : InRange w1 axioms6
range6 = changed_in_range w1 [] (0 ∷ 0 ∷ 3 ∷ 0 ∷ []) axioms1 w6_before_asks range1

pub w6_asks : lists_asked w1 (1 ∷ 0 ∷ 5 ∷ 0 ∷ []) [] axioms6 ≡ accepted
unfolding lists_asked w1
w6_asks = refl

range6' : InRange w1 axioms6'
range6' = changed_in_range w1 (1 ∷ 0 ∷ 5 ∷ 0 ∷ []) [] axioms6 w6_asks range6

w6_computed : Computes w1 axioms6 axioms6' 10 1 0 (0 ∷ 1 ∷ 4 ∷ 5 ∷ []) [] (0 ∷ 1 ∷ 4 ∷ 5 ∷ [])
unfolding removed_of returned_of gained_of broken_of gaining_of w1 rising on_list some
w6_computed = (refl, refl, refl, refl, refl, refl)

pub w6_change : Changed w1 axioms6 axioms6' 10 1 0 (0 ∷ 1 ∷ 4 ∷ 5 ∷ []) [] (0 ∷ 1 ∷ 4 ∷ 5 ∷ [])
w6_change = changed w1 axioms6 axioms6' w1_well_formed range6 range6' 10 1 0 (0 ∷ 1 ∷ 4 ∷ 5 ∷ []) [] (0 ∷ 1 ∷ 4 ∷ 5 ∷ []) w6_computed
