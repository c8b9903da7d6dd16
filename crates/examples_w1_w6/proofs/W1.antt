-- W1: the least set of its axioms, its store, and what classify answers and leaves.
use Prim.Native.Nat.{ℕ}
use native.Mathlib.Omega.{arith}
use mathlib.Core.Path.{◌≡◌, refl, subst, ap, sym, ◌∙◌}
use mathlib.Core.Bool.{false}
use mathlib.Core.List.{List, [], ◌∷◌, ◌++◌}
use lib.ListN.{length, take, drop, take-append-drop}
use lib.Seq.{take_all}
use Rattle.catalogue.specs.Examples.{w1}
use Rattle.rules.specs.Axioms.{InRange}
use Rattle.rules.proofs.Axioms.{catalogue_in_range}
use Rattle.layout.specs.Parts.{used}
use Rattle.store.specs.Fresh.{Fresh}
use Rattle.store.proofs.Examples.{w1_lengths}
use Rattle.store.proofs.Fresh.{fresh_unique}
use Rattle.examples_w1_w6.specs.Stores.{w1_store}
use Rattle.examples_common.specs.Calls.{ClassifyGives}
use Rattle.examples_common.specs.Entries.{Classified}
use Rattle.examples_common.specs.Computed.{pairs_of, links_of, rows_of}
use Rattle.examples_w1_w6.specs.Table.{axioms1}
use Rattle.examples_common.proofs.Classified.{classified}
use Rattle.examples_common.proofs.Stores.{other_axiom, other_expression, other_byte, fresh_computed}
use Rattle.examples_common.proofs.Classifying.{classify_gives}
use Rattle.catalogue.proofs.Examples.{w1_accepted, w1_well_formed}

pub range1 : InRange w1 axioms1
range1 = catalogue_in_range w1 w1_well_formed

w1_classified_pairs : pairs_of w1 axioms1 ≡ 14
unfolding pairs_of w1
w1_classified_pairs = refl

w1_classified_links : links_of w1 axioms1 ≡ 7
unfolding links_of w1
w1_classified_links = refl

w1_classified_rows : rows_of w1 axioms1 ≡ 89 ∷ 34 ∷ 4 ∷ 8 ∷ 88 ∷ 32 ∷ 72 ∷ []
unfolding rows_of w1
w1_classified_rows = refl

pub w1_classified : Classified w1 axioms1 14 7 (89 ∷ 34 ∷ 4 ∷ 8 ∷ 88 ∷ 32 ∷ 72 ∷ [])
w1_classified = classified w1 axioms1 w1_well_formed range1 14 7 (89 ∷ 34 ∷ 4 ∷ 8 ∷ 88 ∷ 32 ∷ 72 ∷ []) w1_classified_pairs w1_classified_links w1_classified_rows

-- ---- the store

w1_store_long : length w1_store ≡ 35
unfolding w1_store
w1_store_long = refl

w1_store_axioms : other_axiom w1 axioms1 w1_store ≡ false
unfolding other_axiom w1 w1_store
w1_store_axioms = refl

w1_store_set : other_expression w1 axioms1 w1_store ≡ false
unfolding other_expression w1 w1_store
w1_store_set = refl

w1_store_bytes : other_byte w1 w1_store ≡ false
unfolding other_byte w1 w1_store
w1_store_bytes = refl

pub w1_fresh : Fresh w1 axioms1 w1_store
w1_fresh = fresh_computed w1 axioms1 w1_store w1_well_formed range1 (omega (arith, w1_lengths.0, w1_store_long)) w1_store_axioms w1_store_set w1_store_bytes

pub w1_rows : take 7 (drop 7 w1_store) ≡ 89 ∷ 34 ∷ 4 ∷ 8 ∷ 88 ∷ 32 ∷ 72 ∷ []
unfolding w1_store
w1_rows = refl

-- Any store classified afresh from W1's axioms has it in front.
pub w1_front : (store : List ℕ) → Fresh w1 axioms1 store → take 35 store ≡ w1_store
w1_front store fresh =
    subst (λ (k : ℕ). take k store ≡ take k w1_store) w1_lengths.0 (fresh_unique w1 axioms1 axioms1 store w1_store w1_well_formed (λ c d. refl) fresh w1_fresh)
    ∙ take_all 35 w1_store (omega (arith, w1_store_long))

pub w1_split : (store : List ℕ) → Fresh w1 axioms1 store → store ≡ w1_store ++ drop 35 store
w1_split store fresh = sym (take-append-drop 35 store) ∙ ap (λ (part : List ℕ). part ++ drop 35 store) (w1_front store fresh)

pub w1_classify : ClassifyGives w1 35 28 14 7 w1_store
w1_classify =
    subst (λ (k : ℕ). ClassifyGives w1 k 28 14 7 w1_store) w1_lengths.0
    (subst (λ (k : ℕ). ClassifyGives w1 (used w1) k 14 7 w1_store) w1_lengths.1
    (classify_gives w1 14 7 w1_store w1_accepted (w1_store_long ∙ sym w1_lengths.0) w1_fresh w1_classified.pairs_right w1_classified.links_right))
