-- `rows::any` meets its contract: where none is found every byte passed is 0, and where one is found a bit is set.
use mathlib.Core.Path.{◌≡◌, refl, sym}
use mathlib.Core.Bool.{Bool, true, false, ◌||◌, not, true≢false}
use Rattle.booleans.proofs.Booleans.{neither}
use Rattle.rows.specs.Bits.{any_bit}
use Rattle.rows.proofs.Lowest.{any_nonzero, any_zero}
use borrow.Author.Rules.{rules}
use borrow.Author.Count.{below_more}
use borrow.Author.Tests.{eqb-true, eqb-false, not-true, not-false}
use native.Mathlib.Omega.{arith}
use lib.ListN.{get_or}
use lib.Dec.{eqb}
use Rattle.rows.proofs.any.Goals as goal

one_of : {P : Type 0} (a b : Bool) → (a || not b) ≡ true → (a ≡ true → P) → (b ≡ false → P) → P
one_of true b e p q = p refl
one_of false b e p q = q (not-true b e)

decided : (a b : Bool) → (a ≡ true → b ≡ true) → (a ≡ false → b ≡ false) → a ≡ b
decided true b p q = sym (p refl)
decided false b p q = sym (q refl)

pub loop-byte-init : goal.loop-byte-init
loop-byte-init c = (search rules, λ e k l. absurd (let z : ⊥ = omega arith in z), λ e. absurd (true≢false (sym e)))

pub loop-byte-preserved : goal.loop-byte-preserved
loop-byte-preserved c =
    let row = c.args.row.now in
    let l = c.loop-byte in
    let byte = get_or row l.byte-index 0 in (
      search rules,
      λ e. below_more _ _ (l.invariant.1 (neither l.found (not (eqb byte 0)) e).0) (eqb-true byte 0 (not-false (eqb byte 0) (neither l.found (not (eqb byte 0)) e).1)),
      λ e. one_of l.found (eqb byte 0) e l.invariant.2 (λ n. any_nonzero row l.byte-index c.loop-byte-test.true (c.type_inv.row l.byte-index).fits (eqb-false byte 0 n)),
    )

pub returns : goal.returns
returns c = decided c.loop-byte.found (any_bit c.args.row.now) c.loop-byte.invariant.2 (λ e. any_zero c.args.row.now (λ k l. c.loop-byte.invariant.1 e k (omega arith)))
