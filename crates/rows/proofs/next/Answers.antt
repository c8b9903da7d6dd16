-- `rows::next` meets its contract: a search from the given bit on goes on from the word reached.
use mathlib.Core.Path.{◌≡◌, refl, sym, ap, ◌∙◌}
use borrow.Author.Rules.{rules}
use Prim.Native.Nat.{ℕ, ◌+◌, ◌*◌, ◌/◌, ◌%◌, ◌^◌}
use native.Mathlib.Omega.{arith}
use lib.Count.{count_trailing_zeros}
use lib.Dec.{lit<}
use Rattle.rows.specs.Next.{next_bit}
use Rattle.std.proofs.Common.{Some}
use Rattle.rows.proofs.Lowest.{place_fits, zeros_fit, next_in_number, next_skip, number_clear}
use Rattle.rows.proofs.next.Goals as goal

pub loop-i-init : goal.loop-i-init
loop-i-init c = (search rules, refl)

pub overflow_cast-result : goal.overflow_cast-result
overflow_cast-result c = record { fits = zeros_fit 64 _ (lit< tt) }

pub overflow_add-result : goal.overflow_add-result
overflow_add-result c = record { fits = place_fits 64 _ _ (omega (arith, c.requires)) }

pub returns-then-rest-ne0 : goal.returns-then-rest-ne0
returns-then-rest-ne0 c =
    let row = c.args.row.now in
    let l = c.loop-i in
    let at = l.i / 64 * 8 in
    let rest = c.word.result / 2 ^ (l.i % 64) in
    let split : 8 * at + l.i % 64 ≡ l.i = omega arith in
    sym
    (l.invariant.1
    ∙ ap (next_bit row) (sym split)
    ∙ next_in_number row at 8 (l.i % 64) rest (λ j h. (c.type_inv.row (at + j)).fits) (omega arith) (ap (λ (n : ℕ). n / 2 ^ (l.i % 64)) c.word.ensures) c.if-rest-ne0.true
    ∙ ap (λ (k : ℕ). Some (k + count_trailing_zeros 64 rest)) split)

pub overflow_add-i-in-loop-i : goal.overflow_add-i-in-loop-i
overflow_add-i-in-loop-i c = omega (arith, c.requires)

pub loop-i-preserved : goal.loop-i-preserved
loop-i-preserved c =
    let row = c.args.row.now in
    let l = c.loop-i in
    let at = l.i / 64 * 8 in (
      omega (arith, c.requires),
      l.invariant.1
          ∙ next_skip row l.i (l.i / 64 * 64 + 64) (omega arith)
          (λ a p q. number_clear row at 8 (l.i % 64) (λ j h. (c.type_inv.row (at + j)).fits) (ap (λ (n : ℕ). n / 2 ^ (l.i % 64)) (sym c.word.ensures) ∙ c.if-rest-ne0.false) a (omega arith) (omega arith)),
    )

pub returns : goal.returns
returns c = c.next_by_bytes.ensures ∙ sym c.loop-i.invariant.1
