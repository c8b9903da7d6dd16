-- `lists::count` counts the axioms of two lists.
use mathlib.Core.Path.{sym}
use Rattle.change_contract.specs.Lists.{axioms_in}
use Rattle.change_contract.proofs.Lists.{axioms_together}
use Rattle.change_checks.proofs.lists.count.Goals as goal

pub returns : goal.returns
unfolding axioms_in
returns c = sym (axioms_together c.args.first.now c.args.second.now c.requires.0.whole)
