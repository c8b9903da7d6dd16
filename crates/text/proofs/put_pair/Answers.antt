-- `put_pair` meets its contract.
use Prim.Native.Nat.{◌≤◌}
use native.Mathlib.Omega.{arith}
use lib.ListN.{length}
use Rattle.text.specs.Text.{pair_line, newline}
use Rattle.text.proofs.Appending.{appended_more}
use Rattle.text.proofs.Decimals.{length-pair_line}
use Rattle.text.proofs.put_pair.Goals as goal

pub put_decimal-second-requires : goal.put_decimal-second-requires
put_decimal-second-requires c =
    omega (arith, length-pair_line c.args.c c.args.d, c.requires)

pub put_labelled-end-requires : goal.put_labelled-end-requires
put_labelled-end-requires c =
    let p = c.put_decimal-second in
    omega (arith, length-pair_line c.args.c c.args.d, c.requires, p.ensures.ends, p.auto.out)

pub put_text-requires : goal.put_text-requires
put_text-requires c =
    let p = c.put_decimal-second in
    let q = c.put_labelled-end in
    omega (arith, length-pair_line c.args.c c.args.d, c.requires, p.ensures.ends, p.auto.out, q.ensures.ends, q.auto.out)

pub returns : goal.returns
unfolding pair_line newline
returns c =
    let low : c.args.at ≤ length c.args.out.now = omega (arith, c.requires) in
    appended_more _ _ _ _ _ _ _ _ low (appended_more _ _ _ _ _ _ _ _ low c.put_decimal-second.ensures c.put_labelled-end.ensures) c.put_text.ensures
