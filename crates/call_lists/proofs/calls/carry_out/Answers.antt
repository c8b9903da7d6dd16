-- `calls::carry_out` meets its contract: refused before the first call, or carried out.
use Prim.Native.Nat.{ℕ}
use native.Mathlib.Omega.{arith}
use mathlib.Core.Path.{◌≡◌, refl, sym, subst, ◌∙◌}
use Rattle.std.proofs.Common.{Result, Ok, Err}
use Rattle.call_lists.specs.declared.Fault.{Fault}
use Rattle.call_lists.specs.Running.{space, CarriesOut}
use Rattle.call_lists.proofs.Listed.{handed_on, done_runnable}
use Rattle.call_lists.proofs.Turns.{refuses_all, carries_all}
use Rattle.call_lists.proofs.calls.carry_out.Goals as goal

pub returns-in_err-count : goal.returns-in_err-count
returns-in_err-count c =
    let a = c.args in
    let u = space a.store.now a.work.now a.lists.now a.answers.now in
    let e = c.in_err-count.field-0.0 in
    subst (λ (r : Result ℕ Fault). CarriesOut a.b.now a.calls.now u r u) (sym (handed_on _ _ c.from_residual.ensures.1))
    (refuses_all a.b.now a.calls.now u (Err e) (sym c.in_err-count.was ∙ c.check_calls.ensures) (λ n e. let y : ◌≡◌ {A = ℕ} 0 1 = cc in omega arith))

pub run-requires : goal.run-requires
run-requires c =
    let a = c.args in
    let u = space a.store.now a.work.now a.lists.now a.answers.now in
    done_runnable a.calls.now u c.in_ok-count.count (sym c.check_calls.ensures ∙ c.in_ok-count.was)

pub returns : goal.returns
returns c =
    let a = c.args in
    let u = space a.store.now a.work.now a.lists.now a.answers.now in
    let gave = c.run in
    let v = space gave.new.store gave.new.work gave.new.lists gave.new.answers in
    carries_all a.b.now a.calls.now u (Ok c.in_ok-count.count) (sym c.in_ok-count.was ∙ c.check_calls.ensures) c.in_ok-count.count v refl gave.ensures
