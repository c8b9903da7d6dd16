-- `rows::or_into` meets its contract: each turn writes one byte of the joined row.
use borrow.Author.Rules.{rules}
use Prim.Native.Nat.{ℕ, ◌<◌}
use native.Mathlib.Omega.{arith}
use mathlib.Core.Path.{◌≡◌, sym, ap, ◌∙◌, subst}
use lib.ListN.{length, get_or, length-set}
use lib.Bits.{bit_or}
use Rattle.rows.specs.Bits.{or_row}
use Rattle.rows.proofs.Bits.{get_d_zip, length_zip}
use Rattle.rows.proofs.Front.{Front, front_none, front_more, front_all}
use Rattle.rows.proofs.or_into.Goals as goal

pub loop-i-init : goal.loop-i-init
loop-i-init c = (search rules, front_none (or_row c.args.row.now c.args.other.now) c.args.row.now)

pub bounds-other-i : goal.bounds-other-i
bounds-other-i c = omega (arith, c.loop-i.invariant.1.long, c.requires)

pub loop-i-preserved : goal.loop-i-preserved
unfolding or_row
loop-i-preserved c =
    let row₀ = c.args.row.now in
    let other = c.args.other.now in
    let i = c.loop-i.i in
    let row = c.loop-i.row in
    let front = c.loop-i.invariant.1 in
    let inside : i < length row₀ = omega (arith, front.long) in (
      omega arith,
      front_more (or_row row₀ other) row₀ row i (bit_or (get_or row i 0) (get_or other i 0)) front inside
          (ap (λ (x : ℕ). bit_or x (get_or other i 0)) (front.above i (omega arith)) ∙ sym (get_d_zip bit_or row₀ other i inside)),
    )

pub shape_of-row : goal.shape_of-row
shape_of-row c = c.loop-i.invariant.1.long

pub returns : goal.returns
unfolding or_row
returns c =
    let row₀ = c.args.row.now in
    let other = c.args.other.now in
    let front = c.loop-i.invariant.1 in
    let ended : c.loop-i.i ≡ length row₀ = omega (arith, front.long) in
    front_all (or_row row₀ other) row₀ c.loop-i.row (length_zip bit_or row₀ other)
    (subst (λ (k : ℕ). Front (or_row row₀ other) row₀ c.loop-i.row k) ended front)
