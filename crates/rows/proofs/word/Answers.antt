-- `rows::word` meets its contract: each turn joins one byte on.
use mathlib.Core.Path.{◌≡◌, refl, sym, ap, ◌∙◌}
use borrow.Author.Rules.{rules}
use Prim.Native.Nat.{ℕ, ◌+◌, ◌*◌, ◌%◌, ◌^◌}
use native.Mathlib.Numerals.{add-one}
use native.Mathlib.Omega.{arith}
use lib.ListN.{get_or}
use lib.Bits.{bit_or}
use Rattle.rows.specs.Words.{number_at}
use Rattle.rows.proofs.Words.{number_more}
use Rattle.rows.proofs.word.Goals as goal

pub loop-k-init : goal.loop-k-init
unfolding number_at
loop-k-init c = (search rules, refl)

pub overflow_cast-number : goal.overflow_cast-number
overflow_cast-number c =
    let a = c.args in
    omega (arith, (c.type_inv.row (a.at + c.loop-k.k)).fits)

pub loop-k-preserved : goal.loop-k-preserved
loop-k-preserved c =
    let row = c.args.row.now in
    let at = c.args.at in
    let k = c.loop-k.k in
    let byte = get_or row (at + k) 0 in (
      search rules,
      ap (λ (n : ℕ). bit_or n (byte * 2 ^ (8 * k) % 2 ^ 64)) c.loop-k.invariant.1
          ∙ number_more row at k 64 (λ j l. (c.type_inv.row (at + j)).fits) (omega arith)
          ∙ ap (number_at row at) (sym (add-one k)),
    )

pub returns : goal.returns
returns c =
    let a = c.args in
    c.loop-k.invariant.1 ∙ ap (number_at a.row.now a.at) (let e : c.loop-k.k ≡ 8 = omega arith in e)
