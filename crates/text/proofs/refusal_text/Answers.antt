-- `refusal_text` meets its contract.
use native.Mathlib.Omega.{arith}
use Rattle.text.specs.Text.{refusal, newline}
use Rattle.text.proofs.Appending.{appended_more}
use Rattle.text.proofs.Decimals.{length-decimal-word}
use Rattle.text.proofs.refusal_text.Goals as goal

pub put_labelled-end-requires : goal.put_labelled-end-requires
put_labelled-end-requires c =
    omega (arith, length-decimal-word c.args.number (omega arith), c.requires)

pub put_text-requires : goal.put_text-requires
put_text-requires c =
    let p = c.put_labelled-end in
    omega (arith, length-decimal-word c.args.number (omega arith), c.requires, p.ensures.ends, p.auto.out)

pub returns : goal.returns
unfolding refusal newline
returns c =
    appended_more _ _ _ _ _ _ _ _ (omega arith) c.put_labelled-end.ensures c.put_text.ensures
