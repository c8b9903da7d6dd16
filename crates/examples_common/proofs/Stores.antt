-- A store is fresh where its rows agree, bit by bit, with the axioms and with the computed least set.
use Prim.Native.Nat.{ℕ, suc, ◌*◌, ◌≤◌, ◌<◌}
use native.Mathlib.Omega.{arith}
use mathlib.Core.Path.{◌≡◌, refl, sym, ◌∙◌}
use mathlib.Core.Bool.{Bool, true, false, not}
use mathlib.Core.List.{List}
use lib.Dec.{leb}
use lib.ListN.{length, get_or}
use borrow.Author.Tests.{leb-false}
use Rattle.catalogue.specs.Words.{word}
use Rattle.catalogue.specs.Header.{concepts, roles}
use Rattle.catalogue.specs.WellFormed.{WellFormed}
use Rattle.rows.specs.Bits.{byte_bit, bit, some_below, place}
use Rattle.rows.proofs.Counting.{none_below}
use Rattle.derivation.specs.Decided.{Decides}
use Rattle.derivation.specs.Finite.{marked}
use Rattle.derivation.proofs.Counts.{decides_agree}
use Rattle.rules.specs.Axioms.{Axioms, InRange}
use Rattle.rules.specs.Rules.{fact, EL, Closure}
use Rattle.rules.specs.Presentation.{presentation}
use Rattle.rules.proofs.Changes.{closure_computed}
use Rattle.layout.specs.Layout.{shape_of, row_of, marks, table, block_length, table_length}
use Rattle.layout.proofs.BlockRows.{marks_elim, table_elim}
use Rattle.layout.specs.Parts.{width, used, axiom_rows, set_rows, in_force, held}
use Rattle.store.specs.Fresh.{Fresh}
use Rattle.layout.proofs.StoreSizes.{width_fits}
use Rattle.rules.proofs.Bounds.{closure_bounded}
use Rattle.store.proofs.Stored.{marks_fresh}
use Rattle.examples_common.specs.Computed.{closure_of}

differ : Bool → Bool → Bool
differ true t = not t
differ false t = t

-- Some axiom is marked and not in force, or the other way round.
unfoldable pub other_axiom : (b : List ℕ) (F : Axioms) (store : List ℕ) → Bool
unfolding closure_of some_below differ byte_bit bit shape_of place row_of table table_length width axiom_rows in_force
other_axiom b F store = some_below (λ c. some_below (λ d. differ (in_force b store c d) (F c d)) (8 * width b)) (concepts b)

-- Some expression is marked and not in the least set, or the other way round.
unfoldable pub other_expression : (b : List ℕ) (F : Axioms) (store : List ℕ) → Bool
unfolding closure_of some_below differ byte_bit bit shape_of place row_of marks block_length table_length width set_rows held
other_expression b F store =
    let closed : ℕ = closure_of b F F in
    some_below
    (λ c. some_below (λ g. some_below (λ d. differ (held b store (fact c g d)) (marked (EL b) (presentation b F) closed (fact c g d))) (8 * width b)) (suc (roles b)))
    (concepts b)

-- Some element is no byte.
unfoldable pub other_byte : (b : List ℕ) (store : List ℕ) → Bool
unfolding word concepts roles some_below width used
other_byte b store = some_below (λ i. leb 256 (get_or store i 0)) (used b)

same : (s t : Bool) → differ s t ≡ false → s ≡ t
unfolding differ
same true true e = refl
same true false e = e
same false t e = sym e

module _ (b : List ℕ) (F : Axioms) (store : List ℕ) (wf : WellFormed b) (range : InRange b F) where
  -- Where no axiom is another, the rows mark F.
  axioms-marked : other_axiom b F store ≡ false → (c d : ℕ) → in_force b store c d ≡ F c d
  unfolding other_axiom in_force shape_of
  axioms-marked none c d =
      decides_agree (in_force b store c) (F c) (λ d. F c d ≡ true)
      (λ d. (
        λ h. let m = table_elim (shape_of b) (axiom_rows b store) c d h in sym (equal d m.concept m.bit_below) ∙ h,
        λ f. let r = range c d f in equal d r.0 (omega (arith, (width_fits b).0, r.1)) ∙ f,
      ))
      (λ d. (λ f. f, λ f. f)) d
    where
      equal : (d : ℕ) → c < concepts b → d < 8 * width b → in_force b store c d ≡ F c d
      equal d lc ld =
          same (in_force b store c d) (F c d)
          (none_below (λ d. differ (in_force b store c d) (F c d)) (8 * width b) d
          (none_below (λ c. some_below (λ d. differ (in_force b store c d) (F c d)) (8 * width b)) (concepts b) c none lc) ld)

  -- Where no expression is another, the rows mark the least set.
  set-marked : other_expression b F store ≡ false → Decides (held b store) (Closure b F)
  unfolding other_expression closure_of held shape_of
  set-marked none (fact c g d) = (
    λ h. let m = marks_elim (shape_of b) (set_rows b store) c g d h in
        (exact (fact c g d)).0 (sym (equal c g d m.concept m.group m.bit_below) ∙ h),
    λ l. let r = closure_bounded b F wf range (fact c g d) l in
        equal c g d r.0 r.1 (omega (arith, (width_fits b).0, r.2)) ∙ (exact (fact c g d)).1 l,
  )
    where
      exact : Decides (marked (EL b) (presentation b F) (closure_of b F F)) (Closure b F)
      exact = closure_computed b F F wf range (λ c d f. f)

      apart : ℕ → ℕ → ℕ → Bool
      apart c g d = differ (held b store (fact c g d)) (marked (EL b) (presentation b F) (closure_of b F F) (fact c g d))

      equal : (c g d : ℕ) → c < concepts b → g ≤ roles b → d < 8 * width b → held b store (fact c g d) ≡ marked (EL b) (presentation b F) (closure_of b F F) (fact c g d)
      equal c g d lc lg ld =
          same (held b store (fact c g d)) (marked (EL b) (presentation b F) (closure_of b F F) (fact c g d))
          (none_below (apart c g) (8 * width b) d
          (none_below (λ g. some_below (apart c g) (8 * width b)) (suc (roles b)) g
          (none_below (λ c. some_below (λ g. some_below (apart c g) (8 * width b)) (suc (roles b))) (concepts b) c none lc) (omega (arith, lg))) ld)

  pub fresh_computed : used b ≤ length store → other_axiom b F store ≡ false → other_expression b F store ≡ false → other_byte b store ≡ false → Fresh b F store
  unfolding other_byte
  fresh_computed long axioms set bytes =
      marks_fresh b F store wf range (axioms-marked axioms) (set-marked set) long
      (λ i l. leb-false 256 (get_or store i 0) (none_below (λ i. leb 256 (get_or store i 0)) (used b) i bytes l))
