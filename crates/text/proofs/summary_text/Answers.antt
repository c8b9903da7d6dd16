-- `summary_text` meets its contract.
use Prim.Native.Nat.{◌≤◌}
use native.Mathlib.Omega.{arith}
use lib.ListN.{length}
use Rattle.text.specs.Text.{summary, newline}
use Rattle.text.proofs.Appending.{appended_more}
use Rattle.text.proofs.Decimals.{length-decimal-word}
use Rattle.text.proofs.summary_text.Goals as goal

pub put_labelled-concepts-requires : goal.put_labelled-concepts-requires
put_labelled-concepts-requires c =
    let d0 = length-decimal-word c.args.n (omega (arith, c.well_formed)) in
    omega (arith, c.requires)

pub put_labelled-axioms-requires : goal.put_labelled-axioms-requires
put_labelled-axioms-requires c =
    let p0 = c.put_labelled-concepts in
    let d0 = length-decimal-word c.args.n (omega (arith, c.well_formed)) in
    let d1 = length-decimal-word c.args.a (omega (arith, c.well_formed)) in
    omega (arith, c.requires, p0.ensures.ends, p0.auto.out)

pub put_labelled-held-requires : goal.put_labelled-held-requires
put_labelled-held-requires c =
    let p0 = c.put_labelled-concepts in
    let p1 = c.put_labelled-axioms in
    let d0 = length-decimal-word c.args.n (omega (arith, c.well_formed)) in
    let d1 = length-decimal-word c.args.a (omega (arith, c.well_formed)) in
    let d2 = length-decimal-word c.args.pairs (omega (arith, c.well_formed)) in
    omega (arith, c.requires, p0.ensures.ends, p0.auto.out, p1.ensures.ends, p1.auto.out)

pub put_labelled-end-requires : goal.put_labelled-end-requires
put_labelled-end-requires c =
    let p0 = c.put_labelled-concepts in
    let p1 = c.put_labelled-axioms in
    let p2 = c.put_labelled-held in
    let d0 = length-decimal-word c.args.n (omega (arith, c.well_formed)) in
    let d1 = length-decimal-word c.args.a (omega (arith, c.well_formed)) in
    let d2 = length-decimal-word c.args.pairs (omega (arith, c.well_formed)) in
    let d3 = length-decimal-word c.args.links (omega (arith, c.well_formed)) in
    omega (arith, c.requires, p0.ensures.ends, p0.auto.out, p1.ensures.ends, p1.auto.out, p2.ensures.ends, p2.auto.out)

pub put_text-requires : goal.put_text-requires
put_text-requires c =
    let p0 = c.put_labelled-concepts in
    let p1 = c.put_labelled-axioms in
    let p2 = c.put_labelled-held in
    let p3 = c.put_labelled-end in
    let d0 = length-decimal-word c.args.n (omega (arith, c.well_formed)) in
    let d1 = length-decimal-word c.args.a (omega (arith, c.well_formed)) in
    let d2 = length-decimal-word c.args.pairs (omega (arith, c.well_formed)) in
    let d3 = length-decimal-word c.args.links (omega (arith, c.well_formed)) in
    omega (arith, c.requires, p0.ensures.ends, p0.auto.out, p1.ensures.ends, p1.auto.out, p2.ensures.ends, p2.auto.out, p3.ensures.ends, p3.auto.out)

pub returns : goal.returns
unfolding summary newline
returns c =
    let none : 0 ≤ length c.args.out.now = omega arith in
    appended_more _ _ _ _ _ _ _ _ none (appended_more _ _ _ _ _ _ _ _ none (appended_more _ _ _ _ _ _ _ _ none (appended_more _ _ _ _ _ _ _ _ none c.put_labelled-concepts.ensures c.put_labelled-axioms.ensures) c.put_labelled-held.ensures) c.put_labelled-end.ensures) c.put_text.ensures
