-- What a lookup says by a store: the pair's bit, and by a fresh store what the rules say.
use Prim.Native.Nat.{ℕ}
use mathlib.Core.Path.{◌≡◌, refl}
use mathlib.Core.Bool.{true}
use mathlib.Core.Logic.Iff
use mathlib.Core.Logic.{◌↔◌}
use mathlib.Core.List.{List}
use Rattle.rules.specs.Axioms.{Axioms}
use Rattle.rules.specs.Rules.{pair}
use Rattle.rules.specs.Says.{Says}
use Rattle.rules.proofs.Says.{says_closure}
use Rattle.layout.specs.Parts.{held}
use Rattle.store.specs.Fresh.{Fresh}
use Rattle.store.specs.Says.{says}

pub says_pair : (b store : List ℕ) (c d : ℕ) → says b store c d ≡ held b store (pair c d)
unfolding says
says_pair b store c d = refl

pub says_fresh : (b : List ℕ) (F : Axioms) (store : List ℕ) → Fresh b F store → (c d : ℕ) → (says b store c d ≡ true) ↔ Says b F c d
unfolding says
says_fresh b F store fresh c d = Iff.trans (fresh.set (pair c d)) (Iff.symm (says_closure b F c d))
