-- `marking::mark_axioms` meets its contract: after k steps the first k axioms are marked.
use native.Mathlib.Omega.{arith}
use mathlib.Core.Path.{◌≡◌, sym, ap, ◌∙◌}
use Rattle.rules.specs.Axioms.{Axioms}
use Rattle.layout.specs.Layout.{table}
use Rattle.change_contract.specs.Lists.{axioms_in}
use Rattle.axiom_rows.proofs.Marks.{with_first, first_none, first_all, marked_more}
use Rattle.axiom_rows.proofs.marking.mark_axioms.Goals as goal

pub loop-k-init : goal.loop-k-init
loop-k-init c = sym (first_none c.args.mode (table c.args.s c.args.rows.now) c.args.list.now)

pub axiom_at-a-requires : goal.axiom_at-a-requires
axiom_at-a-requires c = omega (arith, c.loop-k-test.true)

pub mark_axiom-requires : goal.mark_axiom-requires
unfolding axioms_in
mark_axiom-requires c =
    let p = c.requires in
    let a = c.axiom_at-a.ensures in
    let sides = p.sides c.loop-k.k (omega (arith, c.loop-k-test.true)) in
    record {
      long = omega (arith, p.long);
      left = omega (arith, a.left_is, sides.0);
      right = omega (arith, a.right_is, sides.1);
      room = p.room;
    }

pub loop-k-preserved : goal.loop-k-preserved
loop-k-preserved c =
    let a = c.axiom_at-a.ensures in
    let one = c.mark_axiom in
    marked_more c.args.mode c.args.s (table c.args.s c.args.rows.now) c.args.list.now c.loop-k.rows one.new.rows c.loop-k.k _ _
    c.loop-k.invariant a.left_is a.right_is one.ensures

pub returns : goal.returns
unfolding axioms_in
returns c =
    let F = table c.args.s c.args.rows.now in
    let end : c.loop-k.k ≡ axioms_in c.args.list.now = omega arith in
    record {
      kept_long = omega arith;
      marks = λ x y. ap (λ (G : Axioms). G x y) (c.loop-k.invariant ∙ ap (with_first c.args.mode F c.args.list.now) end ∙ first_all c.args.mode F c.args.list.now);
    }
