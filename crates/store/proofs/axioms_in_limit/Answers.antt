-- `store::axioms_in_limit` meets its contract.
use Prim.Native.Nat.{ℕ}
use mathlib.Core.Path.{ap}
use lib.Dec.{leb}
use Rattle.store.specs.Checks.{axioms_in_limit}
use Rattle.store.proofs.axioms_in_limit.Goals as goal

pub returns : goal.returns
unfolding axioms_in_limit
returns c = ap (λ (n : ℕ). leb n 4096) c.axiom_count.ensures
