-- The computed counts and rows are those of the least set.
use Prim.Native.Nat.{ℕ}
use native.Mathlib.Nat.{zero-add, not-le_of_lt}
use mathlib.Core.Path.{◌≡◌, ◌∙◌, ap, subst}
use mathlib.Core.Logic.{◌↔◌}
use mathlib.Core.Bool.{Bool, true, false, ◌&&◌, not}
use mathlib.Core.List.{List}
use lib.Dec.{ltb}
use borrow.Author.Tests.{ltb-true, ltb-false}
use Rattle.catalogue.specs.Header.{concepts}
use Rattle.catalogue.specs.WellFormed.{WellFormed}
use Rattle.derivation.specs.Decided.{Decides}
use Rattle.derivation.specs.Tables.{has}
use Rattle.derivation.specs.Finite.{marked}
use Rattle.booleans.proofs.Booleans.{by_bool, not-both}
use Rattle.derivation.proofs.Tables.{has_empty, image_has, image-only}
use Rattle.rules.specs.Axioms.{Axioms, InRange}
use Rattle.rules.specs.Rules.{Expression, pair, EL, Closure, Bounded}
use Rattle.rules.specs.Counts.{Size, is_pair, Pairs, Links}
use Rattle.rules.specs.Presentation.{presentation}
use Rattle.rules.proofs.Changes.{closure_computed}
use Rattle.rules.proofs.Bounds.{closure_bounded}
use Rattle.rules.proofs.Counts.{numbered_count, pairs_decide, links_decide}
use Rattle.examples_common.specs.Entries.{Rows, Classified}
use Rattle.examples_common.specs.Computed.{closure_of, count_in, pairs_of, links_of, row_by, rows_by, rows_of}
use Rattle.examples_common.proofs.Lists.{value_in, value_past}

-- The computed rows of a test are those of the set that it decides, over the catalogue's concepts.
module _ (b : List ℕ) (S : Expression → Type 0) (test : Expression → Bool) (exact : Decides test S) (bounded : (e : Expression) → S e → Bounded b e) where
  row_exact : (c d : ℕ) → (has (row_by b test c) d ≡ true) ↔ S (pair c d)
  unfolding row_by
  row_exact c d = (
    λ h. let r = image-only (λ d. test (pair c d)) (λ d. d) (concepts b) d h in subst (λ x. S (pair c x)) r.3 ((exact (pair c r.0)).0 r.2),
    λ l. image_has (λ d. test (pair c d)) (λ d. d) (concepts b) d (bounded (pair c d) l).2 ((exact (pair c d)).1 l),
  )

  pub rows_exact : Rows S (rows_by b test)
  unfolding rows_by
  rows_exact c d = by_bool (ltb c (concepts b))
      (λ h. rw (value_in (row_by b test) 0 (concepts b) c 0 (ltb-true c (concepts b) h) ∙ ap (row_by b test) (zero-add c)) (row_exact c d))
      (λ h. let past = value_past (row_by b test) 0 (concepts b) c 0 (ltb-false c (concepts b) h) in
      rw past (
        λ e. absurd (not-both e (has_empty d)),
        λ l. absurd (not-le_of_lt (bounded (pair c d) l).0 (ltb-false c (concepts b) h)),
      ))

module _ (b : List ℕ) (F : Axioms) (wf : WellFormed b) (range : InRange b F) where
  member : Expression → Bool
  member e = marked (EL b) (presentation b F) (closure_of b F F) e

  member_exact : Decides member (Closure b F)
  unfolding member closure_of
  member_exact = closure_computed b F F wf range (λ c d f. f)

  -- A part of the least set, by a test.
  part_counted : (P : Expression → Type 0) (test : Expression → Bool) → Decides (λ e. member e && test e) (λ e. Closure b F e × P e) → Size b (λ e. Closure b F e × P e) (count_in b F test)
  unfolding count_in member
  part_counted P test exact = record {
    test = λ e. member e && test e;
    decides = exact;
    within = λ e p. closure_bounded b F wf range e p.0;
    counted = numbered_count b (λ e. member e && test e) F;
  }

  -- Numbers and rows that agree with the computed ones are right.
  pub classified : (pairs links : ℕ) (rows : List ℕ) → pairs_of b F ≡ pairs → links_of b F ≡ links → rows_of b F ≡ rows → Classified b F pairs links rows
  unfolding pairs_of links_of rows_of member
  classified pairs links rows p l r = record {
    pairs_right = subst (Size b (Pairs (Closure b F))) p (part_counted (λ e. is_pair e ≡ true) is_pair (pairs_decide member (Closure b F) member_exact));
    links_right = subst (Size b (Links (Closure b F))) l (part_counted (λ e. is_pair e ≡ false) (λ e. not (is_pair e)) (links_decide member (Closure b F) member_exact));
    rows_right = subst (Rows (Closure b F)) r (rows_exact b (Closure b F) member member_exact (closure_bounded b F wf range));
  }
