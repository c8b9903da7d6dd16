-- `put_text` meets its contract.
use Rattle.std.proofs.Common.{arith, refl}
use Rattle.text.proofs.Appending.{overwritten_part, appended}
use Rattle.text.proofs.put_text.Goals as goal

pub returns : goal.returns
returns c =
    appended _ _ _ _ _ (omega (arith, c.requires)) refl
    (overwritten_part c.args.out.now c.args.at _ c.args.text.now _ (omega arith) c.copy_from_slice.ensures.after)
