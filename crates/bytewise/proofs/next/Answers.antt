-- `bytewise::next` meets its contract: the rest of the first byte is looked at, and then the bytes after it.
use mathlib.Core.Path.{◌≡◌, sym, ap, ◌∙◌}
use Prim.Native.Nat.{ℕ, ◌+◌, ◌*◌, ◌/◌, ◌%◌, ◌^◌}
use native.Mathlib.Omega.{arith}
use lib.ListN.{get_or}
use lib.Count.{count_trailing_zeros, trailing_le}
use Rattle.rows.specs.Next.{next_bit}
use Rattle.std.proofs.Common.{Some}
use Rattle.rows.proofs.Bits.{bit_past}
use Rattle.rows.proofs.Lowest.{next_in_byte, next_skip, next_none, rest_clear}
use Rattle.bytewise.proofs.next.Goals as goal

pub returns-in_err-rest : goal.returns-in_err-rest
returns-in_err-rest c =
    let row = c.args.row.now in
    c.from_residual.ensures ∙ sym (next_none row c.args.from (λ a p. bit_past row a (omega (arith, c.in_err-rest.ensures.lookup))))

pub returns-then-rest-ne0 : goal.returns-then-rest-ne0
returns-then-rest-ne0 c =
    let row = c.args.row.now in
    let from = c.args.from in
    let (inside, read) = c.in_ok-rest.ensures.lookup.3 in
    let rest = c.in_ok-rest.field-0.now / 2 ^ (from % 8) in
    let split : 8 * (from / 8) + from % 8 ≡ from = omega arith in
    sym
    (ap (λ (k : ℕ). next_bit row k) (sym split)
    ∙ next_in_byte row (from / 8) (from % 8) rest inside (omega arith) (ap (λ (x : ℕ). x / 2 ^ (from % 8)) (read 0)) (c.type_inv.row (from / 8)).fits c.if-rest-ne0.true
    ∙ ap (λ (k : ℕ). Some (k + count_trailing_zeros 8 rest)) split)

pub returns : goal.returns
returns c =
    let row = c.args.row.now in
    let from = c.args.from in
    let rest : get_or row (from / 8) 0 / 2 ^ (from % 8) ≡ 0 = ap (λ (x : ℕ). x / 2 ^ (from % 8)) (sym (c.in_ok-rest.ensures.lookup.3.1 0)) ∙ c.if-rest-ne0.false in
    c.next_byte.ensures
    ∙ sym (next_skip row from (8 * (from / 8 + 1)) (omega arith) (λ a p q. rest_clear row (from / 8) (from % 8) (omega arith) rest a (omega arith) (omega arith)))
