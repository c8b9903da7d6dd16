-- W7, one change with both lists.
use mathlib.Core.Path.{◌≡◌, refl}
use mathlib.Core.List.{[], ◌∷◌}
use Rattle.catalogue.specs.Outcome.{accepted}
use Rattle.derivation.specs.Finite.{some}
use Rattle.rules.specs.Axioms.{InRange}
use Rattle.store.specs.Written.{rising}
use Rattle.change_contract.proofs.Members.{on_list}
use Rattle.examples_w7.specs.Catalogues.{w7}
use Rattle.examples_common.specs.Entries.{Classified, Changed}
use Rattle.examples_common.specs.Computed.{pairs_of, links_of, rows_of, removed_of, returned_of, gained_of, broken_of, gaining_of}
use Rattle.examples_w7.specs.Table.{axioms7, moved7}
use Rattle.examples_w7.proofs.W7.{w7_well_formed, range7}
use Rattle.examples_common.proofs.Classified.{classified}
use Rattle.examples_common.proofs.Changed.{Computes, changed}
use Rattle.examples_common.proofs.Editing.{lists_asked, changed_in_range}

-- ---- W7, (0,1) out and (0,2) in

pub move7_asks : lists_asked w7 (0 ∷ 0 ∷ 1 ∷ 0 ∷ []) (0 ∷ 0 ∷ 2 ∷ 0 ∷ []) axioms7 ≡ accepted
unfolding lists_asked w7
move7_asks = refl

move7_range : InRange w7 moved7
move7_range = changed_in_range w7 (0 ∷ 0 ∷ 1 ∷ 0 ∷ []) (0 ∷ 0 ∷ 2 ∷ 0 ∷ []) axioms7 move7_asks range7

move7_computed : Computes w7 axioms7 moved7 2 2 0 (0 ∷ []) [] (0 ∷ [])
unfolding removed_of returned_of gained_of broken_of gaining_of w7 rising on_list some
move7_computed = (refl, refl, refl, refl, refl, refl)

pub move7_change : Changed w7 axioms7 moved7 2 2 0 (0 ∷ []) [] (0 ∷ [])
move7_change = changed w7 axioms7 moved7 w7_well_formed range7 move7_range 2 2 0 (0 ∷ []) [] (0 ∷ []) move7_computed

move7_pairs : pairs_of w7 moved7 ≡ 7
unfolding pairs_of w7
move7_pairs = refl

move7_links : links_of w7 moved7 ≡ 0
unfolding links_of w7
move7_links = refl

move7_rows : rows_of w7 moved7 ≡ 7 ∷ 6 ∷ 6 ∷ []
unfolding rows_of w7
move7_rows = refl

pub move7_left : Classified w7 moved7 7 0 (7 ∷ 6 ∷ 6 ∷ [])
move7_left = classified w7 moved7 w7_well_formed move7_range 7 0 (7 ∷ 6 ∷ 6 ∷ []) move7_pairs move7_links move7_rows
