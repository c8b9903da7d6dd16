-- `put_if` meets its contract.
use mathlib.Core.Path.{sym, ap, ◌∙◌}
use mathlib.Core.Bool.{Bool}
use Rattle.rows.specs.Bits.{set_if}
use Rattle.rows.proofs.put_if.Goals as goal

pub returns-then-on : goal.returns-then-on
unfolding set_if
returns-then-on c =
    let a = c.args in
    c.put.ensures
    ∙ sym (ap (λ (on : Bool). set_if on a.row.now a.i) c.if-on.true)

pub returns-else-on : goal.returns-else-on
unfolding set_if
returns-else-on c =
    let a = c.args in
    sym (ap (λ (on : Bool). set_if on a.row.now a.i) c.if-on.false)
