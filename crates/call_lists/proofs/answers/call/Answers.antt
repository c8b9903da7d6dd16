-- `answers::call` meets its contract: the call of each kind meets its own.
use mathlib.Core.Path.{ap}
use Prim.Native.Nat.{ℕ}
use Rattle.change_contract.specs.Edits.{lend}
use Rattle.call_lists.specs.Requests.{request_by}
use Rattle.call_lists.proofs.Listed.{changes}
use Rattle.call_lists.proofs.Answered.{answers_classify, answers_change}
use Rattle.call_lists.proofs.answers.call.Goals as goal

pub returns-in-0 : goal.returns-in-0
unfolding request_by
returns-in-0 c =
    let a = c.args in
    let kind = c.in-0.is in
    let gave = c.classify-answer in
    let entered = c.enter_classified in
    answers_classify (request_by a.kind a.withdrawn.now a.added.now) a.b.now a.store.now a.work.now a.list.now gave.result gave.new.store gave.new.work
    entered.new.entries (ap (λ (k : ℕ). request_by k a.withdrawn.now a.added.now) kind) gave.ensures entered.ensures

pub returns-in_default : goal.returns-in_default
returns-in_default c =
    let a = c.args in
    let other = c.in_default.in_default-own.rest in
    let gave = c.change-answer in
    let entered = c.enter_changed in
    answers_change (request_by a.kind a.withdrawn.now a.added.now) a.b.now a.withdrawn.now a.added.now (lend a.store.now a.work.now a.list.now) gave.result
    (lend gave.new.store gave.new.work gave.new.list) entered.new.entries
    (changes a.kind a.withdrawn.now a.added.now other.1) gave.ensures entered.ensures
