-- Examples 1, 3 and 4 of document 001.
use mathlib.Core.Path.{◌≡◌, refl}
use mathlib.Core.List.{[], ◌∷◌}
use Rattle.catalogue.proofs.Examples.{checks_compute}
use Rattle.derivation.specs.Finite.{some}
use Rattle.rules.specs.Rules.{Closure}
use Rattle.rules.specs.Changes.{OverDeleted}
use Rattle.rules.specs.Axioms.{InRange, withdrawn}
use Rattle.rules.proofs.Axioms.{catalogue_in_range, withdrawn_in_range}
use Rattle.store.specs.Written.{rising}
use Rattle.change_contract.proofs.Members.{on_list}
use Rattle.examples_001.specs.Catalogues.{example1, example4}
use Rattle.examples_common.specs.Entries.{Classified, Changed, Rows}
use Rattle.examples_common.specs.Computed.{pairs_of, links_of, rows_of, over_rows_of, removed_of, returned_of, gained_of, broken_of, gaining_of}
use Rattle.examples_001.specs.Table.{example1_axioms, example3_axioms, example4_axioms, example4_axioms'}
use Rattle.examples_common.proofs.Classified.{classified}
use Rattle.examples_common.proofs.Changed.{Computes, changed, over_rows}
use Rattle.catalogue.specs.Outcome.{accepted}
use Rattle.catalogue.specs.Checks.{checked}
use Rattle.catalogue.specs.WellFormed.{WellFormed}
use Rattle.catalogue.proofs.Accepted.{accepted_well_formed}

example1_accepted : checked example1 ≡ accepted
unfolding checks_compute example1
example1_accepted = refl

pub example1_well_formed : WellFormed example1
example1_well_formed = accepted_well_formed example1_accepted

example4_accepted : checked example4 ≡ accepted
unfolding checks_compute example4
example4_accepted = refl

pub example4_well_formed : WellFormed example4
example4_well_formed = accepted_well_formed example4_accepted

pub range1 : InRange example1 example1_axioms
range1 = catalogue_in_range example1 example1_well_formed

pub range3 : InRange example1 example3_axioms
range3 = withdrawn_in_range example1 example1_axioms 6 2 range1

pub range4 : InRange example4 example4_axioms
range4 = catalogue_in_range example4 example4_well_formed

pub range4' : InRange example4 example4_axioms'
range4' = withdrawn_in_range example4 (withdrawn example4_axioms 1 2) 2 1 (withdrawn_in_range example4 example4_axioms 1 2 range4)

example1_classified_pairs : pairs_of example1 example1_axioms ≡ 19
unfolding pairs_of example1
example1_classified_pairs = refl

example1_classified_links : links_of example1 example1_axioms ≡ 10
unfolding links_of example1
example1_classified_links = refl

example1_classified_rows : rows_of example1 example1_axioms ≡ 29 ∷ 102 ∷ 4 ∷ 28 ∷ 20 ∷ 100 ∷ 68 ∷ []
unfolding rows_of example1
example1_classified_rows = refl

pub example1_classified : Classified example1 example1_axioms 19 10 (29 ∷ 102 ∷ 4 ∷ 28 ∷ 20 ∷ 100 ∷ 68 ∷ [])
example1_classified = classified example1 example1_axioms example1_well_formed range1 19 10 (29 ∷ 102 ∷ 4 ∷ 28 ∷ 20 ∷ 100 ∷ 68 ∷ []) example1_classified_pairs example1_classified_links example1_classified_rows

example3_computed : Computes example1 example1_axioms example3_axioms 9 0 0 (1 ∷ 5 ∷ 6 ∷ []) [] (1 ∷ 5 ∷ 6 ∷ [])
unfolding removed_of returned_of gained_of broken_of gaining_of example1 rising on_list some
example3_computed = (refl, refl, refl, refl, refl, refl)

pub example3_changed : Changed example1 example1_axioms example3_axioms 9 0 0 (1 ∷ 5 ∷ 6 ∷ []) [] (1 ∷ 5 ∷ 6 ∷ [])
example3_changed = changed example1 example1_axioms example3_axioms example1_well_formed range1 range3 9 0 0 (1 ∷ 5 ∷ 6 ∷ []) [] (1 ∷ 5 ∷ 6 ∷ []) example3_computed

example3_over_rows : over_rows_of example1 example1_axioms example3_axioms ≡ 0 ∷ 68 ∷ 0 ∷ 0 ∷ 0 ∷ 68 ∷ 68 ∷ []
unfolding over_rows_of example1
example3_over_rows = refl

pub example3_over : Rows (OverDeleted example1 example1_axioms example3_axioms (Closure example1 example1_axioms)) (0 ∷ 68 ∷ 0 ∷ 0 ∷ 0 ∷ 68 ∷ 68 ∷ [])
example3_over = over_rows example1 example1_axioms example3_axioms example1_well_formed range1 range3 (0 ∷ 68 ∷ 0 ∷ 0 ∷ 0 ∷ 68 ∷ 68 ∷ []) example3_over_rows

example3_classified_pairs : pairs_of example1 example3_axioms ≡ 13
unfolding pairs_of example1
example3_classified_pairs = refl

example3_classified_links : links_of example1 example3_axioms ≡ 7
unfolding links_of example1
example3_classified_links = refl

example3_classified_rows : rows_of example1 example3_axioms ≡ 29 ∷ 34 ∷ 4 ∷ 28 ∷ 20 ∷ 32 ∷ 0 ∷ []
unfolding rows_of example1
example3_classified_rows = refl

pub example3_classified : Classified example1 example3_axioms 13 7 (29 ∷ 34 ∷ 4 ∷ 28 ∷ 20 ∷ 32 ∷ 0 ∷ [])
example3_classified = classified example1 example3_axioms example1_well_formed range3 13 7 (29 ∷ 34 ∷ 4 ∷ 28 ∷ 20 ∷ 32 ∷ 0 ∷ []) example3_classified_pairs example3_classified_links example3_classified_rows

example4_classified_pairs : pairs_of example4 example4_axioms ≡ 11
unfolding pairs_of example4
example4_classified_pairs = refl

example4_classified_links : links_of example4 example4_axioms ≡ 6
unfolding links_of example4
example4_classified_links = refl

example4_classified_rows : rows_of example4 example4_axioms ≡ 25 ∷ 6 ∷ 6 ∷ 24 ∷ 24 ∷ []
unfolding rows_of example4
example4_classified_rows = refl

pub example4_classified : Classified example4 example4_axioms 11 6 (25 ∷ 6 ∷ 6 ∷ 24 ∷ 24 ∷ [])
example4_classified = classified example4 example4_axioms example4_well_formed range4 11 6 (25 ∷ 6 ∷ 6 ∷ 24 ∷ 24 ∷ []) example4_classified_pairs example4_classified_links example4_classified_rows

example4_computed : Computes example4 example4_axioms example4_axioms' 16 8 0 (0 ∷ 1 ∷ 2 ∷ 3 ∷ 4 ∷ []) [] (0 ∷ 1 ∷ 2 ∷ 3 ∷ 4 ∷ [])
unfolding removed_of returned_of gained_of broken_of gaining_of example4 rising on_list some
example4_computed = (refl, refl, refl, refl, refl, refl)

pub example4_changed : Changed example4 example4_axioms example4_axioms' 16 8 0 (0 ∷ 1 ∷ 2 ∷ 3 ∷ 4 ∷ []) [] (0 ∷ 1 ∷ 2 ∷ 3 ∷ 4 ∷ [])
example4_changed = changed example4 example4_axioms example4_axioms' example4_well_formed range4 range4' 16 8 0 (0 ∷ 1 ∷ 2 ∷ 3 ∷ 4 ∷ []) [] (0 ∷ 1 ∷ 2 ∷ 3 ∷ 4 ∷ []) example4_computed

example4_over_rows : over_rows_of example4 example4_axioms example4_axioms' ≡ 24 ∷ 6 ∷ 6 ∷ 24 ∷ 24 ∷ []
unfolding over_rows_of example4
example4_over_rows = refl

pub example4-over : Rows (OverDeleted example4 example4_axioms example4_axioms' (Closure example4 example4_axioms)) (24 ∷ 6 ∷ 6 ∷ 24 ∷ 24 ∷ [])
example4-over = over_rows example4 example4_axioms example4_axioms' example4_well_formed range4 range4' (24 ∷ 6 ∷ 6 ∷ 24 ∷ 24 ∷ []) example4_over_rows

example4_left_classified_pairs : pairs_of example4 example4_axioms' ≡ 6
unfolding pairs_of example4
example4_left_classified_pairs = refl

example4_left_classified_links : links_of example4 example4_axioms' ≡ 3
unfolding links_of example4
example4_left_classified_links = refl

example4_left_classified_rows : rows_of example4 example4_axioms' ≡ 9 ∷ 2 ∷ 4 ∷ 8 ∷ 16 ∷ []
unfolding rows_of example4
example4_left_classified_rows = refl

pub example4_left_classified : Classified example4 example4_axioms' 6 3 (9 ∷ 2 ∷ 4 ∷ 8 ∷ 16 ∷ [])
example4_left_classified = classified example4 example4_axioms' example4_well_formed range4' 6 3 (9 ∷ 2 ∷ 4 ∷ 8 ∷ 16 ∷ []) example4_left_classified_pairs example4_left_classified_links example4_left_classified_rows
