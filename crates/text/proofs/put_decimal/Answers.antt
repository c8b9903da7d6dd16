-- `put_decimal` meets its contract.
use Rattle.std.proofs.Common.{arith, ap, subst, ◌∙◌, length}
use Rattle.text.specs.Text.{Appended}
use Rattle.text.proofs.Decimals.{digits_decimal}
use Rattle.text.proofs.put_decimal.Goals as goal

pub put_text-requires : goal.put_text-requires
put_text-requires c =
    let e = c.decimal-k.ensures in
    omega (arith, ap length (e.digits ∙ digits_decimal c.args.n c.decimal-k.result e.len), c.requires)

pub returns : goal.returns
returns c =
    let e = c.decimal-k.ensures in
    subst (λ t. Appended t c.args.out.now c.args.at c.put_text.result c.put_text.new.out) (e.digits ∙ digits_decimal c.args.n c.decimal-k.result e.len) c.put_text.ensures
