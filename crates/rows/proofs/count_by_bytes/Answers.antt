-- `rows::count_by_bytes` meets its contract: what is counted below the given byte and the total make the count of the bytes passed.
use mathlib.Core.Path.{◌≡◌, sym, ap, ◌∙◌}
use borrow.Author.Rules.{rules}
use Prim.Native.Nat.{ℕ, ◌+◌, ◌*◌}
use native.Mathlib.Nat.{add-zero, add_assoc}
use native.Mathlib.Omega.{arith}
use lib.ListN.{length, get_or}
use lib.Count.{ones, ones-le}
use Rattle.rows.specs.Bits.{bit, count_below, count_bits}
use Rattle.rows.proofs.Counting.{count_byte, count_le}
use Rattle.rows.proofs.count_by_bytes.Goals as goal

pub loop-k-init : goal.loop-k-init
loop-k-init c = (search rules, add-zero (count_below (bit c.args.row.now) (8 * c.args.from)))

pub overflow_cast-total : goal.overflow_cast-total
overflow_cast-total c =
    let byte = get_or c.args.row.now c.loop-k.k 0 in
    omega (arith, ones-le 8 byte (c.type_inv.row c.loop-k.k).fits)

pub overflow_add-total : goal.overflow_add-total
overflow_add-total c =
    let row = c.args.row.now in
    let k = c.loop-k.k in
    omega (
      arith,
      ones-le 8 (get_or row k 0) (c.type_inv.row k).fits,
      count_le (bit row) (8 * k),
      c.loop-k.invariant.1,
      c.requires,
    )

pub loop-k-preserved : goal.loop-k-preserved
loop-k-preserved c =
    let row = c.args.row.now in
    let k = c.loop-k.k in
    let byte = ones (get_or row k 0) in (
      search rules,
      sym (add_assoc (count_below (bit row) (8 * c.args.from)) c.loop-k.total byte)
          ∙ ap (λ (n : ℕ). n + byte) c.loop-k.invariant.1
          ∙ sym (count_byte row k (c.type_inv.row k).fits),
    )

pub returns : goal.returns
unfolding count_bits
returns c =
    let row = c.args.row.now in
    c.loop-k.invariant.1
    ∙ ap (λ (i : ℕ). count_below (bit row) (8 * i)) (let e : c.loop-k.k ≡ length row = omega arith in e)
