-- W7: two pairs hold each other up, and go all the same; the pair of 0 with itself stays.
use Prim.Native.Nat.{ℕ}
use native.Mathlib.Omega.{arith}
use mathlib.Core.Path.{◌≡◌, refl, subst, sym, ◌∙◌}
use mathlib.Core.Bool.{false}
use mathlib.Core.List.{[], ◌∷◌}
use lib.ListN.{length, take, drop}
use Rattle.catalogue.proofs.Examples.{checks_compute}
use Rattle.catalogue.specs.Words.{word}
use Rattle.catalogue.specs.Header.{concepts, roles}
use Rattle.catalogue.specs.Outcome.{accepted}
use Rattle.derivation.specs.Finite.{some}
use Rattle.layout.specs.Parts.{width, used, work_used}
use Rattle.store.specs.Written.{rising}
use Rattle.store.specs.Fresh.{Fresh}
use Rattle.change_contract.proofs.Members.{on_list}
use Rattle.examples_w7.specs.Stores.{w7_store}
use Rattle.examples_common.specs.Calls.{ClassifyGives}
use Rattle.examples_w7.specs.Catalogues.{w7}
use Rattle.rules.specs.Axioms.{InRange}
use Rattle.rules.proofs.Axioms.{catalogue_in_range}
use Rattle.examples_common.specs.Entries.{Classified, Changed}
use Rattle.examples_common.specs.Computed.{pairs_of, links_of, rows_of, removed_of, returned_of, gained_of, broken_of, gaining_of}
use Rattle.examples_w7.specs.Table.{axioms7, axioms7'}
use Rattle.examples_common.proofs.Classified.{classified}
use Rattle.examples_common.proofs.Changed.{Computes, changed}
use Rattle.examples_common.proofs.Editing.{lists_asked, changed_in_range}
use Rattle.examples_common.proofs.Stores.{other_axiom, other_expression, other_byte, fresh_computed}
use Rattle.examples_common.proofs.Classifying.{classify_gives}
use Rattle.catalogue.specs.Checks.{checked}
use Rattle.catalogue.specs.WellFormed.{WellFormed}
use Rattle.catalogue.proofs.Accepted.{accepted_well_formed}

pub w7_accepted : checked w7 ≡ accepted
unfolding checks_compute w7
w7_accepted = refl

pub w7_well_formed : WellFormed w7
w7_well_formed = accepted_well_formed w7_accepted

pub range7 : InRange w7 axioms7
range7 = catalogue_in_range w7 w7_well_formed

w7_classified_pairs : pairs_of w7 axioms7 ≡ 7
unfolding pairs_of w7
w7_classified_pairs = refl

w7_classified_links : links_of w7 axioms7 ≡ 0
unfolding links_of w7
w7_classified_links = refl

w7_classified_rows : rows_of w7 axioms7 ≡ 7 ∷ 6 ∷ 6 ∷ []
unfolding rows_of w7
w7_classified_rows = refl

pub w7_classified : Classified w7 axioms7 7 0 (7 ∷ 6 ∷ 6 ∷ [])
w7_classified = classified w7 axioms7 w7_well_formed range7 7 0 (7 ∷ 6 ∷ 6 ∷ []) w7_classified_pairs w7_classified_links w7_classified_rows

-- ---- the store

pub w7_lengths : (used w7 ≡ 6) × (work_used w7 ≡ 3)
unfolding w7 word concepts roles width used work_used
w7_lengths = (refl, refl)

w7_store_long : length w7_store ≡ 6
unfolding w7_store
w7_store_long = refl

w7_store_axioms : other_axiom w7 axioms7 w7_store ≡ false
unfolding other_axiom w7 w7_store
w7_store_axioms = refl

w7_store_set : other_expression w7 axioms7 w7_store ≡ false
unfolding other_expression w7 w7_store
w7_store_set = refl

w7_store_bytes : other_byte w7 w7_store ≡ false
unfolding other_byte w7 w7_store
w7_store_bytes = refl

pub w7_fresh : Fresh w7 axioms7 w7_store
w7_fresh = fresh_computed w7 axioms7 w7_store w7_well_formed range7 (omega (arith, w7_lengths.0, w7_store_long)) w7_store_axioms w7_store_set w7_store_bytes

pub w7_rows : take 3 (drop 3 w7_store) ≡ 7 ∷ 6 ∷ 6 ∷ []
unfolding w7_store
w7_rows = refl

pub w7_classify : ClassifyGives w7 6 3 7 0 w7_store
w7_classify =
    subst (λ (k : ℕ). ClassifyGives w7 k 3 7 0 w7_store) w7_lengths.0
    (subst (λ (k : ℕ). ClassifyGives w7 (used w7) k 7 0 w7_store) w7_lengths.1
    (classify_gives w7 7 0 w7_store w7_accepted (w7_store_long ∙ sym w7_lengths.0) w7_fresh w7_classified.pairs_right w7_classified.links_right))

-- ---- the change

pub w7_asks : lists_asked w7 (0 ∷ 0 ∷ 1 ∷ 0 ∷ []) [] axioms7 ≡ accepted
unfolding lists_asked w7
w7_asks = refl

range7' : InRange w7 axioms7'
range7' = changed_in_range w7 (0 ∷ 0 ∷ 1 ∷ 0 ∷ []) [] axioms7 w7_asks range7

w7_computed : Computes w7 axioms7 axioms7' 2 0 0 (0 ∷ []) [] (0 ∷ [])
unfolding removed_of returned_of gained_of broken_of gaining_of w7 rising on_list some
w7_computed = (refl, refl, refl, refl, refl, refl)

pub w7_change : Changed w7 axioms7 axioms7' 2 0 0 (0 ∷ []) [] (0 ∷ [])
w7_change = changed w7 axioms7 axioms7' w7_well_formed range7 range7' 2 0 0 (0 ∷ []) [] (0 ∷ []) w7_computed

w7_left_pairs : pairs_of w7 axioms7' ≡ 5
unfolding pairs_of w7
w7_left_pairs = refl

w7_left_links : links_of w7 axioms7' ≡ 0
unfolding links_of w7
w7_left_links = refl

w7_left_rows : rows_of w7 axioms7' ≡ 1 ∷ 6 ∷ 6 ∷ []
unfolding rows_of w7
w7_left_rows = refl

pub w7-left : Classified w7 axioms7' 5 0 (1 ∷ 6 ∷ 6 ∷ [])
w7-left = classified w7 axioms7' w7_well_formed range7' 5 0 (1 ∷ 6 ∷ 6 ∷ []) w7_left_pairs w7_left_links w7_left_rows
