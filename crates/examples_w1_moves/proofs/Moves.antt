-- Moves: one change with both lists, and one with two empty ones.
use mathlib.Core.Path.{◌≡◌, refl}
use mathlib.Core.List.{[], ◌∷◌}
use Rattle.catalogue.specs.Examples.{w1}
use Rattle.catalogue.specs.Outcome.{accepted}
use Rattle.catalogue.proofs.Examples.{w1_well_formed}
use Rattle.rules.specs.Axioms.{InRange}
use Rattle.examples_common.specs.Entries.{Classified, Changed}
use Rattle.examples_common.specs.Computed.{pairs_of, links_of, rows_of}
use Rattle.examples_w1_w6.specs.Table.{axioms1}
use Rattle.examples_w1_moves.specs.Table.{moved1, moved2, moved3, moved4, unmoved}
use Rattle.examples_common.proofs.Classified.{classified}
use Rattle.examples_common.proofs.Changed.{changed}
use Rattle.examples_common.proofs.Editing.{lists_asked, changed_in_range}
use Rattle.examples_w1_w6.proofs.W1.{range1}
use Rattle.examples_w1_moves.proofs.Computed.{move1_computed, move2_computed, move3_computed, move4_computed, empty_computed}

-- ---- W1, (1,5) out and (0,6) in

pub move1_asks : lists_asked w1 (1 ∷ 0 ∷ 5 ∷ 0 ∷ []) (0 ∷ 0 ∷ 6 ∷ 0 ∷ []) axioms1 ≡ accepted
unfolding lists_asked w1
move1_asks = refl

move1_range : InRange w1 moved1
move1_range = changed_in_range w1 (1 ∷ 0 ∷ 5 ∷ 0 ∷ []) (0 ∷ 0 ∷ 6 ∷ 0 ∷ []) axioms1 move1_asks range1

pub move1_change : Changed w1 axioms1 moved1 10 3 0 (0 ∷ 1 ∷ 4 ∷ 5 ∷ []) [] (0 ∷ 1 ∷ 4 ∷ 5 ∷ [])
move1_change = changed w1 axioms1 moved1 w1_well_formed range1 move1_range 10 3 0 (0 ∷ 1 ∷ 4 ∷ 5 ∷ []) [] (0 ∷ 1 ∷ 4 ∷ 5 ∷ []) move1_computed

move1_pairs : pairs_of w1 moved1 ≡ 10
unfolding pairs_of w1
move1_pairs = refl

move1_links : links_of w1 moved1 ≡ 4
unfolding links_of w1
move1_links = refl

move1_rows : rows_of w1 moved1 ≡ 89 ∷ 2 ∷ 4 ∷ 8 ∷ 16 ∷ 0 ∷ 72 ∷ []
unfolding rows_of w1
move1_rows = refl

pub move1_left : Classified w1 moved1 10 4 (89 ∷ 2 ∷ 4 ∷ 8 ∷ 16 ∷ 0 ∷ 72 ∷ [])
move1_left = classified w1 moved1 w1_well_formed move1_range 10 4 (89 ∷ 2 ∷ 4 ∷ 8 ∷ 16 ∷ 0 ∷ 72 ∷ []) move1_pairs move1_links move1_rows

-- ---- W1, (0,4) out and (2,4) in

pub move2_asks : lists_asked w1 (0 ∷ 0 ∷ 4 ∷ 0 ∷ []) (2 ∷ 0 ∷ 4 ∷ 0 ∷ []) axioms1 ≡ accepted
unfolding lists_asked w1
move2_asks = refl

move2_range : InRange w1 moved2
move2_range = changed_in_range w1 (0 ∷ 0 ∷ 4 ∷ 0 ∷ []) (2 ∷ 0 ∷ 4 ∷ 0 ∷ []) axioms1 move2_asks range1

pub move2_change : Changed w1 axioms1 moved2 5 0 5 (0 ∷ []) (2 ∷ []) (0 ∷ 2 ∷ [])
move2_change = changed w1 axioms1 moved2 w1_well_formed range1 move2_range 5 0 5 (0 ∷ []) (2 ∷ []) (0 ∷ 2 ∷ []) move2_computed

move2_pairs : pairs_of w1 moved2 ≡ 14
unfolding pairs_of w1
move2_pairs = refl

move2_links : links_of w1 moved2 ≡ 7
unfolding links_of w1
move2_links = refl

move2_rows : rows_of w1 moved2 ≡ 1 ∷ 34 ∷ 92 ∷ 8 ∷ 88 ∷ 32 ∷ 72 ∷ []
unfolding rows_of w1
move2_rows = refl

pub move2_left : Classified w1 moved2 14 7 (1 ∷ 34 ∷ 92 ∷ 8 ∷ 88 ∷ 32 ∷ 72 ∷ [])
move2_left = classified w1 moved2 w1_well_formed move2_range 14 7 (1 ∷ 34 ∷ 92 ∷ 8 ∷ 88 ∷ 32 ∷ 72 ∷ []) move2_pairs move2_links move2_rows

-- ---- W1, (1,5) out and (0,5) in

pub move3_asks : lists_asked w1 (1 ∷ 0 ∷ 5 ∷ 0 ∷ []) (0 ∷ 0 ∷ 5 ∷ 0 ∷ []) axioms1 ≡ accepted
unfolding lists_asked w1
move3_asks = refl

move3_range : InRange w1 moved3
move3_range = changed_in_range w1 (1 ∷ 0 ∷ 5 ∷ 0 ∷ []) (0 ∷ 0 ∷ 5 ∷ 0 ∷ []) axioms1 move3_asks range1

pub move3_change : Changed w1 axioms1 moved3 8 0 2 (0 ∷ 1 ∷ 4 ∷ []) (0 ∷ []) (0 ∷ 1 ∷ 4 ∷ [])
move3_change = changed w1 axioms1 moved3 w1_well_formed range1 move3_range 8 0 2 (0 ∷ 1 ∷ 4 ∷ []) (0 ∷ []) (0 ∷ 1 ∷ 4 ∷ []) move3_computed

move3_pairs : pairs_of w1 moved3 ≡ 10
unfolding pairs_of w1
move3_pairs = refl

move3_links : links_of w1 moved3 ≡ 5
unfolding links_of w1
move3_links = refl

move3_rows : rows_of w1 moved3 ≡ 49 ∷ 2 ∷ 4 ∷ 8 ∷ 16 ∷ 32 ∷ 72 ∷ []
unfolding rows_of w1
move3_rows = refl

pub move3_left : Classified w1 moved3 10 5 (49 ∷ 2 ∷ 4 ∷ 8 ∷ 16 ∷ 32 ∷ 72 ∷ [])
move3_left = classified w1 moved3 w1_well_formed move3_range 10 5 (49 ∷ 2 ∷ 4 ∷ 8 ∷ 16 ∷ 32 ∷ 72 ∷ []) move3_pairs move3_links move3_rows

-- ---- W1, two out and two in

pub move4_asks : lists_asked w1 (0 ∷ 0 ∷ 4 ∷ 0 ∷ 1 ∷ 0 ∷ 5 ∷ 0 ∷ []) (0 ∷ 0 ∷ 6 ∷ 0 ∷ 2 ∷ 0 ∷ 4 ∷ 0 ∷ []) axioms1 ≡ accepted
unfolding lists_asked w1
move4_asks = refl

move4_range : InRange w1 moved4
move4_range = changed_in_range w1 (0 ∷ 0 ∷ 4 ∷ 0 ∷ 1 ∷ 0 ∷ 5 ∷ 0 ∷ []) (0 ∷ 0 ∷ 6 ∷ 0 ∷ 2 ∷ 0 ∷ 4 ∷ 0 ∷ []) axioms1 move4_asks range1

pub move4_change : Changed w1 axioms1 moved4 12 3 2 (0 ∷ 1 ∷ 4 ∷ 5 ∷ []) (2 ∷ []) (0 ∷ 1 ∷ 2 ∷ 4 ∷ 5 ∷ [])
move4_change = changed w1 axioms1 moved4 w1_well_formed range1 move4_range 12 3 2 (0 ∷ 1 ∷ 4 ∷ 5 ∷ []) (2 ∷ []) (0 ∷ 1 ∷ 2 ∷ 4 ∷ 5 ∷ []) move4_computed

move4_pairs : pairs_of w1 moved4 ≡ 10
unfolding pairs_of w1
move4_pairs = refl

move4_links : links_of w1 moved4 ≡ 4
unfolding links_of w1
move4_links = refl

move4_rows : rows_of w1 moved4 ≡ 73 ∷ 2 ∷ 20 ∷ 8 ∷ 16 ∷ 0 ∷ 72 ∷ []
unfolding rows_of w1
move4_rows = refl

pub move4_left : Classified w1 moved4 10 4 (73 ∷ 2 ∷ 20 ∷ 8 ∷ 16 ∷ 0 ∷ 72 ∷ [])
move4_left = classified w1 moved4 w1_well_formed move4_range 10 4 (73 ∷ 2 ∷ 20 ∷ 8 ∷ 16 ∷ 0 ∷ 72 ∷ []) move4_pairs move4_links move4_rows

-- ---- W1, two empty lists

pub empty_asks : lists_asked w1 [] [] axioms1 ≡ accepted
unfolding lists_asked w1
empty_asks = refl

empty_range : InRange w1 unmoved
empty_range = changed_in_range w1 [] [] axioms1 empty_asks range1

pub empty_change : Changed w1 axioms1 unmoved 0 0 0 [] [] []
empty_change = changed w1 axioms1 unmoved w1_well_formed range1 empty_range 0 0 0 [] [] [] empty_computed
