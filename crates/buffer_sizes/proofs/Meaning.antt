-- What the four numbers say: each is the least that is enough, and none is larger than the limits allow.
use Prim.Native.Nat.{ℕ, ◌+◌, ◌*◌, ◌≤◌}
use native.Mathlib.Decide.{dec_lt}
use native.Mathlib.Omega.{arith}
use mathlib.Core.Path.{◌≡◌, sym, ap, ◌∙◌}
use mathlib.Core.Bool.{true}
use mathlib.Core.Logic.{◌↔◌}
use mathlib.Core.List.{List}
use lib.Dec.{leb}
use lib.ListN.{length}
use borrow.Author.Tests.{le-leb, lt-leb}
use Rattle.catalogue.specs.Header.{concepts, axioms_at}
use Rattle.catalogue.specs.Outcome.{accepted, refused, ask}
use Rattle.catalogue.specs.Checks.{checked}
use Rattle.catalogue.specs.WellFormed.{WellFormed}
use Rattle.catalogue.proofs.Outcomes.{ask_yes, ask_no, never_both}
use Rattle.catalogue.proofs.Passed.{after_accepted}
use Rattle.catalogue.proofs.Accepted.{accepted_well_formed}
use Rattle.rows.proofs.Counting.{count_le}
use Rattle.layout.specs.Parts.{used, work_used, in_force}
use Rattle.layout.proofs.StoreSizes.{used_limit, work_limit}
use Rattle.store.specs.Checks.{store_fits, work_fits, list_fits, axioms_in_limit}
use Rattle.store.specs.Written.{numbered, axiom_count, written}
use Rattle.store.proofs.Checks.{store_long, work_long, list_long, axioms_few, few_axioms}
use Rattle.store.proofs.Written.{length-written}
use Rattle.store.proofs.FirstAxioms.{first_axioms, first_long, first_bytes, first_count, first_clear}
use Rattle.writing.specs.Write.{output_fits, write_checks}
use Rattle.writing.proofs.Order.{asks_20, refused_20}
use Rattle.buffer_sizes.specs.Sizes.{most_axioms, most_written}
use Rattle.buffer_sizes.specs.Meaning.{Enough, Most, SizesMean}
use Rattle.buffer_sizes.proofs.Answered.{needed_answered}

-- A store with as many axioms in force as can be.
abbrev fullest : List ℕ → List ℕ
fullest b = first_axioms b (most_axioms (concepts b))

module _ (b : List ℕ) (catalogue : checked b ≡ accepted) where
  wf : WellFormed b
  wf = accepted_well_formed catalogue

  -- ---- the output

  -- No store that comes to 20 has more axioms in force.
  written_most : (store : List ℕ) → axioms_in_limit b (in_force b store) ≡ true → length (written b (in_force b store)) ≤ most_written b
  unfolding most_written most_axioms axiom_count
  written_most store few =
      omega (
        arith,
        length-written b (in_force b store) wf,
        count_le (numbered (concepts b) (in_force b store)) (concepts b * concepts b),
        axioms_few b (in_force b store) few,
      )

  -- And one has as many.
  most_pairs : most_axioms (concepts b) ≤ concepts b * concepts b
  unfolding most_axioms
  most_pairs = omega arith

  most_count : axiom_count b (in_force b (fullest b)) ≡ most_axioms (concepts b)
  most_count = first_count b wf (most_axioms (concepts b)) most_pairs

  most_length : length (written b (in_force b (fullest b))) ≡ most_written b
  unfolding most_written
  most_length = length-written b (in_force b (fullest b)) wf ∙ ap (λ (k : ℕ). axioms_at b + 4 * k) most_count

  most_asks : (long : ℕ) → write_checks b (fullest b) long ≡ ask (leb (most_written b) long) 20 0 accepted
  unfolding write_checks store_fits most_axioms output_fits
  most_asks long =
      after_accepted b _ catalogue
      ∙ asks_20 b (fullest b) long
      (le-leb (used b) (length (fullest b)) (omega (arith, first_long b (most_axioms (concepts b)))))
      (first_clear b wf (most_axioms (concepts b)) most_pairs)
      (few_axioms b _ (omega (arith, most_count)))
      ∙ ap (λ (k : ℕ). ask (leb k long) 20 0 accepted) most_length

  output_enough : (long : ℕ) → ((from : List ℕ) → ¬ (write_checks b from long ≡ refused 20 0)) ↔ (most_written b ≤ long)
  unfolding write_checks output_fits
  output_enough long = (
    λ never.
        elim (dec_lt long (most_written b)) [
          | yes l ↦ absurd (never (fullest b) (most_asks long ∙ ask_no 20 0 accepted (lt-leb (most_written b) long l)))
          | no g ↦ omega arith
        ],
    λ l from e.
        let (few, asked) = refused_20 b from long (sym (after_accepted b _ catalogue) ∙ e) in
        never_both _ (ask_yes 20 0 accepted (le-leb (length (written b (in_force b from))) long (omega (arith, written_most from few)))) asked,
  )

  -- ---- all four

  pub enough : Enough b (used b) (work_used b) (2 * concepts b) (most_written b)
  unfolding store_fits work_fits list_fits
  enough =
      record {
        store_enough = λ long. (store_long b long, le-leb (used b) long);
        work_enough = λ long. (work_long b long, le-leb (work_used b) long);
        list_enough = λ long. (list_long b long, le-leb (2 * concepts b) long);
        output_enough = output_enough;
        output_reached = (
          fullest b,
          first_bytes b (most_axioms (concepts b)),
          λ long l. most_asks long ∙ ask_yes 20 0 accepted (le-leb (most_written b) long l),
          most_length,
        );
      }

  pub most : Most b (used b) (work_used b) (2 * concepts b) (most_written b)
  unfolding most_written most_axioms
  most =
      let start : axioms_at b ≤ 3732 = omega (arith, wf.axioms_start, wf.compositions_start, wf.inclusions_start, wf.concepts_limit, wf.inclusions_limit, wf.compositions_limit) in
      record {
        catalogue_most = omega (arith, wf.whole, wf.axioms_limit);
        store_most = used_limit wf;
        work_most = work_limit wf;
        list_most = omega (arith, wf.concepts_limit);
        output_most = omega arith;
      }

-- ---- of an answer

pub sizes_mean : SizesMean
sizes_mean =
    record {
      enough = λ b store work list output m.
          let a = needed_answered b store work list output m in
          rw (a.store_is, a.work_is, a.list_is, a.output_is) (enough b a.catalogue);
      most = λ b store work list output m.
          let a = needed_answered b store work list output m in
          rw (a.store_is, a.work_is, a.list_is, a.output_is) (most b a.catalogue);
    }
