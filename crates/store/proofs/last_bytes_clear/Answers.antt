-- `store::last_bytes_clear` meets its contract: no bit from bit i on is set in a row that was passed.
use Prim.Native.Nat.{◌+◌, ◌*◌, ◌/◌}
use native.Mathlib.Omega.{arith}
use mathlib.Core.Path.{sym, ap}
use mathlib.Core.Bool.{not}
use borrow.Author.Count.{below_more}
use Rattle.rows.proofs.Counting.{some_at, some_none}
use Rattle.layout.specs.Parts.{set_from}
use Rattle.store.proofs.LastBytes.{last_clear, last_set}
use Rattle.store.proofs.last_bytes_clear.Goals as goal

pub returns-then-rows-r-ne0 : goal.returns-then-rows-r-ne0
returns-then-rows-r-ne0 c =
    let a = c.args in
    let r = c.loop-r.r in
    let set = last_set a.w r a.i a.rows.now c.requires.below c.requires.last (c.type_inv.rows (r * a.w + a.i / 8)).fits c.if-rows-r-ne0.true in
    sym (ap not (some_at (set_from a.w a.i a.rows.now) a.count r c.loop-r-test.true set))

pub loop-r-preserved : goal.loop-r-preserved
loop-r-preserved c =
    let a = c.args in
    let r = c.loop-r.r in
    below_more _ _ c.loop-r.invariant (last_clear a.w r a.i a.rows.now c.requires.below c.requires.last c.if-rows-r-ne0.false)

pub returns : goal.returns
returns c =
    let a = c.args in
    sym (ap not (some_none (set_from a.w a.i a.rows.now) a.count (λ k l. c.loop-r.invariant k (omega arith))))
