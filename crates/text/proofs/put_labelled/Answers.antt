-- `put_labelled` meets its contract.
use native.Mathlib.Omega.{arith}
use lib.ListN.{length-append}
use Rattle.text.specs.Text.{decimal}
use Rattle.text.proofs.Appending.{appended_more}
use Rattle.text.proofs.put_labelled.Goals as goal

pub put_text-place-requires : goal.put_text-place-requires
put_text-place-requires c =
    omega (arith, length-append c.args.label.now (decimal c.args.n), c.requires)

pub put_decimal-requires : goal.put_decimal-requires
put_decimal-requires c =
    let p = c.put_text-place in
    omega (arith, length-append c.args.label.now (decimal c.args.n), c.requires, p.ensures.ends, p.auto.out)

pub returns : goal.returns
returns c =
    appended_more _ _ _ _ _ _ _ _ (omega (arith, c.requires)) c.put_text-place.ensures c.put_decimal.ensures
