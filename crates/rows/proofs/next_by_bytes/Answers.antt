-- `rows::next_by_bytes` meets its contract: a search from the given bit on goes on from the bit reached.
use mathlib.Core.Path.{◌≡◌, refl, sym, ap, ◌∙◌}
use Prim.Native.Nat.{ℕ, ◌+◌, ◌*◌, ◌/◌, ◌%◌, ◌^◌}
use native.Mathlib.Omega.{arith}
use lib.ListN.{get_or}
use lib.Count.{count_trailing_zeros}
use lib.Dec.{lit<}
use Rattle.rows.specs.Next.{next_bit}
use Rattle.std.proofs.Common.{Some}
use Rattle.rows.proofs.Bits.{bit_past}
use Rattle.rows.proofs.Lowest.{place_fits, zeros_fit, next_in_byte, next_skip, next_none, rest_clear}
use Rattle.rows.proofs.next_by_bytes.Goals as goal

pub loop-i-init : goal.loop-i-init
loop-i-init c = refl

pub overflow_cast-result : goal.overflow_cast-result
overflow_cast-result c = record { fits = zeros_fit 8 _ (lit< tt) }

pub overflow_add-result : goal.overflow_add-result
overflow_add-result c = record { fits = place_fits 8 _ _ (omega (arith, c.requires)) }

pub returns-then-rest-ne0 : goal.returns-then-rest-ne0
returns-then-rest-ne0 c =
    let row = c.args.row.now in
    let i = c.loop-i.i in
    let rest = get_or row (i / 8) 0 / 2 ^ (i % 8) in
    let split : 8 * (i / 8) + i % 8 ≡ i = omega arith in
    sym
    (c.loop-i.invariant
    ∙ ap (next_bit row) (sym split)
    ∙ next_in_byte row (i / 8) (i % 8) rest (omega arith) (omega arith) refl (c.type_inv.row (i / 8)).fits c.if-rest-ne0.true
    ∙ ap (λ (k : ℕ). Some (k + count_trailing_zeros 8 rest)) split)

pub overflow_add-i : goal.overflow_add-i
overflow_add-i c = omega (arith, c.requires)

pub loop-i-preserved : goal.loop-i-preserved
loop-i-preserved c =
    let row = c.args.row.now in
    let i = c.loop-i.i in
    c.loop-i.invariant
    ∙ next_skip row i (i / 8 * 8 + 8) (omega arith)
    (λ a p q. rest_clear row (i / 8) (i % 8) (omega arith) c.if-rest-ne0.false a (omega arith) (omega arith))

pub returns : goal.returns
returns c =
    let row = c.args.row.now in
    let i = c.loop-i.i in
    sym (c.loop-i.invariant ∙ next_none row i (λ a p. bit_past row a (omega arith)))
