-- `requests::check_calls` meets its contract: each question in its turn.
use Prim.Native.Nat.{◌+◌, ◌/◌}
use mathlib.Core.Path.{refl}
use lib.ListN.{length}
use borrow.Author.Rules.{rules}
use Rattle.call_lists.specs.Requests.{call_count, call_right}
use Rattle.call_lists.proofs.Listed.{answers_bad, answers_lists, answers_answers, answers_done}
use Rattle.call_lists.proofs.requests.check_calls.Goals as goal

pub returns-then-bad-count : goal.returns-then-bad-count
unfolding call_count
returns-then-bad-count c =
    let a = c.args in
    let bad = c.first_fault-bad in
    answers_bad a.calls.now a.lists a.answers ((length a.calls.now + 524) / 525) bad.result refl (bad.ensures (call_right a.calls.now) (search rules)) c.if-bad-count.true

pub returns-then-lists-count : goal.returns-then-lists-count
unfolding call_count
returns-then-lists-count c =
    let a = c.args in
    let bad = c.first_fault-bad in
    answers_lists a.calls.now a.lists a.answers ((length a.calls.now + 524) / 525) bad.result refl (bad.ensures (call_right a.calls.now) (search rules)) c.if-bad-count.false c.if-lists-count.true

pub returns-then-answers-count : goal.returns-then-answers-count
unfolding call_count
returns-then-answers-count c =
    let a = c.args in
    let bad = c.first_fault-bad in
    answers_answers a.calls.now a.lists a.answers ((length a.calls.now + 524) / 525) bad.result refl (bad.ensures (call_right a.calls.now) (search rules))
    c.if-bad-count.false c.if-lists-count.false c.if-answers-count.true

pub returns : goal.returns
unfolding call_count
returns c =
    let a = c.args in
    let bad = c.first_fault-bad in
    answers_done a.calls.now a.lists a.answers ((length a.calls.now + 524) / 525) bad.result refl (bad.ensures (call_right a.calls.now) (search rules))
    c.if-bad-count.false c.if-lists-count.false c.if-answers-count.false
