-- `enter` meets its contract.
use mathlib.Core.Path.{refl}
use Rattle.booleans.proofs.Booleans.{not-both}
use Rattle.store.specs.Written.{set_word}
use Rattle.number_lists.proofs.enter.Goals as goal

pub returns-then-on : goal.returns-then-on
unfolding set_word
returns-then-on c = record { enters = λ _. (refl, c.put_number.ensures); skips = λ f. absurd (not-both c.if-on.true f) }

pub returns : goal.returns
returns c = record { enters = λ t. absurd (not-both t c.if-on.false); skips = λ _. (refl, refl) }
