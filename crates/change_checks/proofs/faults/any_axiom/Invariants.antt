-- `faults::any_axiom`: none of those passed so far is at fault.
use Prim.Native.Nat.{ℕ, ◌<◌}
use mathlib.Core.Path.{◌≡◌}
use mathlib.Core.Bool.{Bool, false}
use mathlib.Core.List.{◌++◌}
use Rattle.catalogue.specs.declared.records.Axiom.{Axiom}
use Rattle.change_contract.specs.Lists.{axioms_in, ReadAt}
use Rattle.change_checks.proofs.faults.any_axiom.Given as goal

abbrev pub invariant-loop-k : goal.invariant-loop-k
invariant-loop-k g l =
    (test : ℕ → Bool) → ((k : ℕ) (a : Axiom) (r : Bool) → k < axioms_in (l.first ++ l.second) → ReadAt (l.first ++ l.second) k a → g.F.Fn.post l.at_fault (k, (a, tt)) r → r ≡ test k) → (i : ℕ) → i < l.k → test i ≡ false
