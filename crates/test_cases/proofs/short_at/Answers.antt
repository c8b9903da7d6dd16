-- `test_cases::short_at` meets its contract: two bytes make a number of sixteen bits.
use Prim.Native.Nat.{ℕ, ◌<◌}
use mathlib.Core.Path.{sym, subst}
use Rattle.catalogue.proofs.Words.{word_below}
use Rattle.test_cases.proofs.short_at.Goals as goal

pub returns : goal.returns
returns c = (c.word.ensures, subst (λ (n : ℕ). n < 65536) (sym c.word.ensures) (word_below _ c.type_inv.text _))
