-- `bytewise::next_byte` meets its contract: every byte passed is 0.
use mathlib.Core.Path.{refl, sym, ap, ◌∙◌, ◌≡◌}
use Prim.Native.Nat.{◌/◌, ℕ, ◌+◌, ◌*◌}
use native.Mathlib.Nat.{div-one, add-zero}
use native.Mathlib.Decide.{dec_lt}
use lib.Count.{count_trailing_zeros, trailing_le}
use Rattle.rows.specs.Next.{next_bit}
use Rattle.std.proofs.Common.{Some}
use lib.Dec.{lit<}
use Rattle.rows.proofs.Bits.{bit_past}
use Rattle.rows.proofs.Lowest.{zero_byte, next_in_byte, next_skip, next_none}
use native.Mathlib.Omega.{arith}
use lib.ListN.{length, get_or}
use Rattle.bytewise.proofs.next_byte.Goals as goal

pub returns-then-byte-ne0 : goal.returns-then-byte-ne0
returns-then-byte-ne0 c =
    let row = c.args.row.now in
    let at = c.loop-at.at in
    let from = c.args.from in
    sym
    (next_skip row (8 * from) (8 * at) (omega arith)
    (λ a p q. zero_byte row (a / 8) (c.loop-at.invariant (a / 8) (omega arith) (omega arith)) a refl)
    ∙ ap (λ (k : ℕ). next_bit row k) (sym (add-zero (8 * at)))
    ∙ next_in_byte row at 0 (get_or row at 0) (omega arith) (lit< tt) (sym (div-one (get_or row at 0))) (c.type_inv.row at).fits c.if-byte-ne0.true
    ∙ ap (λ (k : ℕ). Some (k + count_trailing_zeros 8 (get_or row at 0))) (add-zero (8 * at)))

pub returns : goal.returns
returns c =
    let row = c.args.row.now in
    sym
    (next_none row (8 * c.args.from)
    (λ a p.
    elim (dec_lt a (8 * length row)) [
      | yes l ↦ zero_byte row (a / 8) (c.loop-at.invariant (a / 8) (omega arith) (omega arith)) a refl
      | no g ↦ bit_past row a (omega arith)
    ]))
