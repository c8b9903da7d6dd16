-- Lookup, row, listing and write on W1 to W4: what they answer from any store classified afresh.
use Prim.Native.Nat.{ℕ, ◌*◌, ◌≤◌, ◌<◌}
use native.Mathlib.Omega.{arith}
use mathlib.Core.Path.{◌≡◌, refl, ap, subst, fun_ext, ◌∙◌}
use mathlib.Core.Bool.{Bool, false, false≢true, ◌&&◌, true}
use mathlib.Core.List.{List, [], ◌∷◌, ◌++◌}
use lib.Dec.{eqb}
use lib.ListN.{length, take, drop}
use borrow.Author.Tests.{le-leb}
use Rattle.std.proofs.Common.{Ok, Err}
use Rattle.catalogue.specs.Words.{word, bytes_of}
use Rattle.catalogue.specs.Header.{concepts}
use Rattle.catalogue.specs.Records.{kind}
use Rattle.catalogue.specs.Outcome.{accepted, ask}
use Rattle.catalogue.specs.Examples.{w1}
use Rattle.catalogue.specs.Verdicts.{refusal}
use Rattle.catalogue.proofs.Examples.{w1_accepted, w1_well_formed}
use Rattle.catalogue.proofs.Outcomes.{ask_yes}
use Rattle.rows.specs.Bits.{byte_bit, bit, count_below, place}
use Rattle.derivation.specs.Tables.{has}
use Rattle.booleans.proofs.Booleans.{not-both, not_true_false}
use Rattle.derivation.proofs.Counts.{decides_agree}
use Rattle.rules.specs.Occurrence.{Occurs, occurs}
use Rattle.rules.specs.Rules.{Expression, pair, Closure}
use Rattle.rules.proofs.Occurrence.{occurs_exact}
use Rattle.layout.specs.Layout.{shape_of, row_of, marks, block_length, table_length}
use Rattle.layout.specs.Parts.{width, pair_row_at, set_rows, held}
use Rattle.store.specs.Written.{numbered, axiom_count, rising}
use Rattle.store.specs.Fresh.{Fresh}
use Rattle.store.specs.Checks.{every, list_fits, ask_list, ask_numbers}
use Rattle.store.proofs.Examples.{w1_axiom_count, w1-written}
use Rattle.store.proofs.Says.{says_pair}
use Rattle.store.specs.Says.{says}
use Rattle.number_lists.specs.Lists.{with_front}
use Rattle.read_checks.specs.Checks.{ask_occurs, read_checks, list_checks}
use Rattle.lookups.specs.Answers.{looked_up}
use Rattle.lookups.specs.Listings.{atomic_under, kinds_under, listed, list_after}
use Rattle.row_parts.specs.Rows.{row_answer, placed}
use Rattle.lookups.proofs.Answered.{looked_up_lem}
use Rattle.row_parts.proofs.Answered.{row_accepted}
use Rattle.meaning.proofs.DemandLookup.{content_asks, open_passes, read_asks, lookup_means}
use Rattle.writing.specs.Write.{write_checks, Writes}
use Rattle.writing.proofs.FreshWritten.{fresh_long}
use Rattle.writing.proofs.Unique.{by_outcome_unique}
use Rattle.examples_w1_w6.specs.Stores.{w1_store}
use Rattle.examples_common.specs.Calls.{ListingGives, WriteGives}
use Rattle.examples_common.specs.Computed.{closure_of}
use Rattle.examples_w1_w6.specs.Table.{axioms1, axioms3}
use Rattle.examples_w1_w6.proofs.W1.{range1, w1_classified, w1_fresh, w1_split}
use Rattle.examples_w1_w6.proofs.W3.{range3}

pub seven : concepts w1 ≡ 7
unfolding word concepts w1
seven = refl

few1 : axiom_count w1 axioms1 ≤ 4096
few1 = omega (arith, w1_axiom_count)

pub w3_axiom_count : axiom_count w1 axioms3 ≡ 2
unfolding closure_of w1 count_below numbered axiom_count
w3_axiom_count = refl

few3 : axiom_count w1 axioms3 ≤ 4096
few3 = omega (arith, w3_axiom_count)

-- Questions 15 and 19 on W1's axioms: the concepts named are there and occur.
named03 : ask_numbers w1 (0 ∷ 3 ∷ []) (ask_occurs (occurs w1 axioms1) (0 ∷ 3 ∷ []) accepted) ≡ accepted
unfolding closure_of w1 ask every ask_numbers ask_occurs
named03 = refl

named30 : ask_numbers w1 (3 ∷ 0 ∷ []) (ask_occurs (occurs w1 axioms1) (3 ∷ 0 ∷ []) accepted) ≡ accepted
unfolding named03
named30 = refl

named0 : ask_numbers w1 (0 ∷ []) (ask_occurs (occurs w1 axioms1) (0 ∷ []) accepted) ≡ accepted
unfolding named03
named0 = refl

named3 : ask_numbers w1 (3 ∷ []) (ask_occurs (occurs w1 axioms1) (3 ∷ []) accepted) ≡ accepted
unfolding named03
named3 = refl

named6 : ask_numbers w1 (6 ∷ []) (ask_occurs (occurs w1 axioms1) (6 ∷ []) accepted) ≡ accepted
unfolding named03
named6 = refl

-- ---- W2

pub w2_yes : Closure w1 axioms1 (pair 0 3)
unfolding has
w2_yes = (w1_classified.rows_right 0 3).0 refl

pub w2_no : ¬ (Closure w1 axioms1 (pair 3 0))
unfolding has
w2_no l = false≢true ((w1_classified.rows_right 3 0).1 l)

kinds3 : kinds_under w1 3 w1_store ≡ 0 ∷ 3 ∷ []
unfolding closure_of w1 w1_store byte_bit bit shape_of place row_of marks block_length table_length width set_rows held says kinds_under atomic_under rising
kinds3 = refl

kinds6 : kinds_under w1 6 w1_store ≡ 0 ∷ []
unfolding kinds3
kinds6 = refl

-- A store classified afresh from W1's axioms.
module _ (store : List ℕ) (fresh : Fresh w1 axioms1 store) where
  asks : (names : List ℕ) → read_checks w1 names store ≡ ask_numbers w1 names (ask_occurs (occurs w1 axioms1) names accepted)
  asks = read_asks w1 axioms1 store w1_accepted range1 few1 fresh

  pub w2_lookups : (looked_up w1 0 3 store ≡ Ok true) × (looked_up w1 3 0 store ≡ Ok false)
  w2_lookups = (
    looked_up_lem w1 0 3 store (asks (0 ∷ 3 ∷ []) ∙ named03) (says_pair w1 store 0 3 ∙ (fresh.set (pair 0 3)).1 w2_yes),
    looked_up_lem w1 3 0 store (asks (3 ∷ 0 ∷ []) ∙ named30) (says_pair w1 store 3 0 ∙ not_true_false (held w1 store (pair 3 0)) (λ h. w2_no ((fresh.set (pair 3 0)).0 h))),
  )

  pub w1_row : (row_answer w1 0 store ≡ Ok (placed 7 1)) × (take 1 (drop 7 store) ≡ 89 ∷ [])
  unfolding word concepts w1 width pair_row_at w1_store
  w1_row = (row_accepted w1 0 store (asks (0 ∷ []) ∙ named0), ap (λ (l : List ℕ). take 1 (drop 7 l)) (w1_split store fresh))

  -- It holds what W1's store holds, and so lists the same.
  same_kinds : (d : ℕ) → kinds_under w1 d store ≡ kinds_under w1 d w1_store
  unfolding says kinds_under atomic_under
  same_kinds d =
      ap (λ (h : Expression → Bool). rising (λ c. eqb (kind w1 c) 0 && h (pair c d)) (concepts w1))
      (fun_ext (λ e. decides_agree (held w1 store) (held w1 w1_store) (Closure w1 axioms1) fresh.set w1_fresh.set e))

  listing_asks : (d : ℕ) (list : List ℕ) → 14 ≤ length list → list_checks w1 (d ∷ []) store (length list) ≡ ask_numbers w1 (d ∷ []) (ask_occurs (occurs w1 axioms1) (d ∷ []) accepted)
  unfolding list_checks ask_list list_fits
  listing_asks d list long =
      open_passes w1 axioms1 store w1_accepted range1 few1 fresh _
      ∙ ask_yes 12 0 _ (le-leb (2 * concepts w1) (length list) (omega (arith, seven)))
      ∙ content_asks w1 axioms1 store w1_accepted range1 few1 fresh (d ∷ [])

  pub w1_listing3 : ListingGives w1 3 store 14 2 (0 ∷ 0 ∷ 3 ∷ 0 ∷ [])
  unfolding with_front bytes_of
  w1_listing3 list answer list' l long =
      let asked = listing_asks 3 list long ∙ named3 in
      let names = same_kinds 3 ∙ kinds3 in (
        l.answer ∙ ap (λ o. listed o (kinds_under w1 3 store)) asked ∙ ap (listed accepted) names,
        l.entries ∙ ap (λ o. list_after o (kinds_under w1 3 store) list) asked ∙ ap (λ (n : List ℕ). list_after accepted n list) names,
      )

  pub w1_listing6 : ListingGives w1 6 store 14 1 (0 ∷ 0 ∷ [])
  unfolding with_front bytes_of
  w1_listing6 list answer list' l long =
      let asked = listing_asks 6 list long ∙ named6 in
      let names = same_kinds 6 ∙ kinds6 in (
        l.answer ∙ ap (λ o. listed o (kinds_under w1 6 store)) asked ∙ ap (listed accepted) names,
        l.entries ∙ ap (λ o. list_after o (kinds_under w1 6 store) list) asked ∙ ap (λ (n : List ℕ). list_after accepted n list) names,
      )

  -- Write into an output that is long enough.
  pub w1_writes : (output : List ℕ) → 80 ≤ length output → Writes w1 store output (Ok 80) (w1 ++ drop 80 output)
  unfolding w1
  w1_writes output long =
      subst (λ (c : List ℕ). Writes w1 store output (Ok (length c)) (c ++ drop (length c) output)) w1-written
      (fresh_long w1 axioms1 store w1_accepted few1 fresh output (omega (arith, ap length w1-written)))

  pub w1_write : WriteGives w1 store 80 w1
  w1_write output answer output' w long =
      by_outcome_unique w1 store output (write_checks w1 store (length output)) answer (Ok 80) output' (w1 ++ drop 80 output) w (w1_writes output long)

-- ---- W4

w4_unmarked : occurs w1 axioms3 5 ≡ false
unfolding closure_of w1
w4_unmarked = refl

pub w4_absent : ¬ (Occurs w1 axioms3 5)
w4_absent o = not-both ((occurs_exact w1 axioms3 w1_well_formed range3 5).1 o) w4_unmarked

pub w4_lookups : (store : List ℕ) → Fresh w1 axioms3 store → (x : ℕ) → x < 7 → (looked_up w1 5 x store ≡ Err (refusal 19 0)) × (looked_up w1 x 5 store ≡ Err (refusal 19 0))
w4_lookups store fresh x l =
    let means = lookup_means w1 axioms3 store w1_accepted range3 few3 fresh in
    let five : 5 < concepts w1 = omega (arith, seven) in
    let below : x < concepts w1 = omega (arith, seven, l) in (
      (means 5 x).absent.1 (five, below, λ (o, _). w4_absent o),
      (means x 5).absent.1 (below, five, λ (_, o). w4_absent o),
    )
