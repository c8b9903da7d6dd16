-- `calls::call_at` meets its contract: the call with its own parts.
use Prim.Native.Nat.{ℕ, ◌+◌, ◌-◌, ◌*◌}
use native.Mathlib.Omega.{arith}
use mathlib.Core.Path.{◌≡◌, ap}
use mathlib.Core.List.{List}
use Rattle.catalogue.specs.Words.{word}
use Rattle.call_lists.specs.Requests.{part_of, gone_at, new_at}
use Rattle.call_lists.specs.Running.{space}
use Rattle.call_lists.proofs.Listed.{right_at}
use Rattle.call_lists.proofs.Answered.{answers_at}
use Rattle.call_lists.proofs.calls.call_at.Goals as goal

-- A part of another length that is the same.
part_is : (a w v : ℕ) (xs : List ℕ) → w ≡ v → part_of a w xs ≡ part_of a v xs
part_is a w v xs e = ap (λ (n : ℕ). part_of a n xs) e

pub bounds-calls-at : goal.bounds-calls-at
bounds-calls-at c =
    let r = right_at _ _ _ _ c.requires.0 c.requires.1 in
    omega (arith, r.whole)

pub overflow_add-out : goal.overflow_add-out
overflow_add-out c =
    let r = right_at _ _ _ _ c.requires.0 c.requires.1 in
    omega (arith, r.whole)

pub overflow_add-at : goal.overflow_add-at
overflow_add-at c =
    let r = right_at _ _ _ _ c.requires.0 c.requires.1 in
    omega (arith, r.whole)

pub word-requires : goal.word-requires
word-requires c =
    let r = right_at _ _ _ _ c.requires.0 c.requires.1 in
    omega (arith, r.whole)

pub overflow_add-out_end : goal.overflow_add-out_end
overflow_add-out_end c =
    let r = right_at _ _ _ _ c.requires.0 c.requires.1 in
    omega (arith, r.whole, r.gone_fits, c.word.ensures)

pub overflow_add-put : goal.overflow_add-put
overflow_add-put c =
    let r = right_at _ _ _ _ c.requires.0 c.requires.1 in
    omega (arith, r.whole)

pub overflow_add-at-2 : goal.overflow_add-at-2
overflow_add-at-2 c =
    let r = right_at _ _ _ _ c.requires.0 c.requires.1 in
    omega (arith, r.whole)

pub word-requires-2 : goal.word-requires-2
word-requires-2 c =
    let r = right_at _ _ _ _ c.requires.0 c.requires.1 in
    omega (arith, r.whole)

pub overflow_add-put_end : goal.overflow_add-put_end
overflow_add-put_end c =
    let r = right_at _ _ _ _ c.requires.0 c.requires.1 in
    omega (arith, r.whole, r.new_fits, c.word-2.ensures)

pub slice_bounds-call-count : goal.slice_bounds-call-count
slice_bounds-call-count c =
    let r = right_at _ _ _ _ c.requires.0 c.requires.1 in
    omega (arith, r.whole, r.gone_fits, c.word.ensures)

pub slice_bounds-call-start : goal.slice_bounds-call-start
slice_bounds-call-start c =
    let r = right_at _ _ _ _ c.requires.0 c.requires.1 in
    omega (arith, r.whole, r.gone_fits, c.word.ensures)

pub slice_bounds-call-end : goal.slice_bounds-call-end
slice_bounds-call-end c =
    let r = right_at _ _ _ _ c.requires.0 c.requires.1 in
    omega (arith, r.whole, r.gone_fits, c.word.ensures)

pub slice_bounds-call-count-2 : goal.slice_bounds-call-count-2
slice_bounds-call-count-2 c =
    let r = right_at _ _ _ _ c.requires.0 c.requires.1 in
    omega (arith, r.whole, r.new_fits, c.word-2.ensures)

pub slice_bounds-call-start-2 : goal.slice_bounds-call-start-2
slice_bounds-call-start-2 c =
    let r = right_at _ _ _ _ c.requires.0 c.requires.1 in
    omega (arith, r.whole, r.new_fits, c.word-2.ensures)

pub slice_bounds-call-end-2 : goal.slice_bounds-call-end-2
slice_bounds-call-end-2 c =
    let r = right_at _ _ _ _ c.requires.0 c.requires.1 in
    omega (arith, r.whole, r.new_fits, c.word-2.ensures)

pub returns : goal.returns
unfolding gone_at new_at
returns c =
    let a = c.args in
    let k = a.k in
    let calls = a.calls.now in
    let first = c.word in
    let second = c.word-2 in
    let gave = c.call in
    answers_at a.b.now calls k (1024 * k + 1024 - 1024 * k) (6 * k + 6 - 6 * k) (part_of (525 * k + 5) (525 * k + 5 + first.result - (525 * k + 5)) calls)
    (part_of (525 * k + 265) (525 * k + 265 + second.result - (525 * k + 265)) calls) (space a.store.now a.work.now a.lists.now a.answers.now)
    gave.new.store gave.new.work gave.new.list gave.new.entries
    (part_is (525 * k + 5) (525 * k + 5 + first.result - (525 * k + 5)) (word calls (525 * k + 1)) calls (omega (arith, first.ensures)))
    (part_is (525 * k + 265) (525 * k + 265 + second.result - (525 * k + 265)) (word calls (525 * k + 3)) calls (omega (arith, second.ensures))) (omega arith) (omega arith) gave.ensures
