-- `rows::count` meets its contract: the total is the count of the words passed, and what is left is counted byte by byte.
use mathlib.Core.Path.{◌≡◌, refl, sym, ap, ap₂, ◌∙◌}
use borrow.Author.Rules.{rules}
use Prim.Native.Nat.{ℕ, ◌+◌, ◌*◌, ◌/◌}
use native.Mathlib.Omega.{arith}
use lib.ListN.{length}
use lib.Count.{ones, ones-le}
use Rattle.rows.specs.Bits.{bit, count_below, count_bits}
use Rattle.rows.proofs.Counting.{count_le}
use Rattle.rows.proofs.Words.{count_number}
use Rattle.rows.proofs.count.Goals as goal

pub loop-k-init : goal.loop-k-init
unfolding count_below
loop-k-init c = refl

pub overflow_cast-total : goal.overflow_cast-total
overflow_cast-total c = omega (arith, ones-le 64 c.word.result (omega arith))

pub overflow_add-total : goal.overflow_add-total
overflow_add-total c =
    let row = c.args.row.now in
    let l = c.loop-k in
    omega (arith, ones-le 64 c.word.result (omega arith), count_le (bit row) (8 * (8 * l.k)), l.invariant, c.requires)

pub loop-k-preserved : goal.loop-k-preserved
loop-k-preserved c =
    let row = c.args.row.now in
    let l = c.loop-k in
    ap₂ (λ (n x : ℕ). n + ones x) l.invariant c.word.ensures
    ∙ sym (count_number row (8 * l.k) 8 (λ j h. (c.type_inv.row (8 * l.k + j)).fits))
    ∙ ap (λ (k : ℕ). count_below (bit row) (8 * k)) (let e : 8 * l.k + 8 ≡ 8 * (l.k + 1) = omega arith in e)

pub overflow_add-result : goal.overflow_add-result
unfolding count_bits
overflow_add-result c =
    let row = c.args.row.now in
    let l = c.loop-k in
    omega (arith, count_le (bit row) (8 * length row), count_le (bit row) (8 * (8 * l.k)), l.invariant, c.count_by_bytes.ensures, c.requires)

pub returns : goal.returns
returns c =
    let ended : c.loop-k.k ≡ length c.args.row.now / 8 = omega arith in
    ap (λ (n : ℕ). n + c.count_by_bytes.result) (c.loop-k.invariant ∙ ap (λ (k : ℕ). count_below (bit c.args.row.now) (8 * (8 * k))) ended) ∙ c.count_by_bytes.ensures
