-- `calls::run` meets its contract: one turn of the loop is one call more.
use Prim.Native.Nat.{ℕ, ◌+◌, ◌*◌, ◌≤◌}
use native.Mathlib.Omega.{arith}
use mathlib.Core.Path.{◌≡◌, refl, subst, ◌∙◌}
use lib.ListN.{length}
use Rattle.call_lists.specs.Running.{space, Runs}
use Rattle.call_lists.proofs.Turns.{Kept, runs_none, runs_more}
use Rattle.call_lists.proofs.calls.run.Goals as goal

pub loop-k-init : goal.loop-k-init
loop-k-init c =
    let a = c.args in
    let u = space a.store.now a.work.now a.lists.now a.answers.now in
    runs_none a.b.now a.calls.now u

pub call_at-requires : goal.call_at-requires
call_at-requires c =
    let all = c.requires in
    let kept = c.loop-k.auto in (
      record {
        right = all.right;
        lists_long = omega (arith, kept.lists, all.lists_long);
        answers_long = omega (arith, kept.answers, all.answers_long);
      },
      c.loop-k-test.true,
    )

pub loop-k-preserved : goal.loop-k-preserved
loop-k-preserved c =
    let a = c.args in
    let at = c.loop-k in
    let below = c.loop-k-test.true in
    let gave = c.call_at in
    let u = space a.store.now a.work.now a.lists.now a.answers.now in
    let v = space at.store at.work at.lists at.answers in
    let kept : Kept u v = record { store_long = at.auto.store; work_long = at.auto.work; lists_long = at.auto.lists; answers_long = at.auto.answers } in
    let w = space gave.new.store gave.new.work gave.new.lists gave.new.answers in
    let lists_room : 1024 * at.k + 1024 ≤ length a.lists.now = omega (arith, below, c.requires.lists_long) in
    let answers_room : 6 * at.k + 6 ≤ length a.answers.now = omega (arith, below, c.requires.answers_long) in
    runs_more a.b.now a.calls.now at.k u v w kept gave.ensures lists_room answers_room at.invariant

pub returns : goal.returns
returns c =
    let a = c.args in
    let at = c.loop-k in
    let u = space a.store.now a.work.now a.lists.now a.answers.now in
    let v = space at.store at.work at.lists at.answers in
    let all : at.k ≡ a.count = omega arith in
    subst (λ (n : ℕ). Runs a.b.now a.calls.now n u v) all at.invariant
