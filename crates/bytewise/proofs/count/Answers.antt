-- `bytewise::count` meets its contract: the total is the count of the bytes passed.
use mathlib.Core.Path.{refl, sym, ap, ◌∙◌, ◌≡◌}
use lib.Count.{ones, ones-le}
use Rattle.rows.proofs.Counting.{count_byte, count_le}
use Prim.Native.Nat.{ℕ, ◌+◌, ◌*◌}
use native.Mathlib.Omega.{arith}
use lib.ListN.{length, get_or}
use Rattle.rows.specs.Bits.{bit, count_below, count_bits}
use Rattle.bytewise.proofs.count.Goals as goal

pub loop-byte-init : goal.loop-byte-init
unfolding count_below
loop-byte-init c = refl

pub overflow_add-total : goal.overflow_add-total
overflow_add-total c =
    let row = c.args.row.now in
    let k = c.loop-byte.byte-index in
    omega (arith, ones-le 8 (get_or row k 0) (c.type_inv.row k).fits, count_le (bit row) (8 * k), c.loop-byte.invariant, c.requires)

pub loop-byte-preserved : goal.loop-byte-preserved
loop-byte-preserved c =
    let row = c.args.row.now in
    let k = c.loop-byte.byte-index in
    ap (λ (n : ℕ). n + ones (get_or row k 0)) c.loop-byte.invariant ∙ sym (count_byte row k (c.type_inv.row k).fits)

pub returns : goal.returns
unfolding count_bits
returns c =
    let row = c.args.row.now in
    c.loop-byte.invariant
    ∙ ap (λ (i : ℕ). count_below (bit row) (8 * i)) (let e : c.loop-byte.byte-index ≡ length row = omega arith in e)
