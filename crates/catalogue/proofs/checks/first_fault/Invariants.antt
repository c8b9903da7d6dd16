-- `first_fault`: every record passed so far is right, and the loop is left at the first that is not.
use Prim.Native.Nat.{ℕ, ◌<◌}
use mathlib.Core.Path.{◌≡◌}
use mathlib.Core.Bool.{Bool, true}
use Rattle.catalogue.proofs.checks.first_fault.Given as goal

abbrev pub invariant-loop-k : goal.invariant-loop-k
invariant-loop-k g l =
    record {
      none_yet : l.first ≡ l.count;
      passed : (ok : ℕ → Bool) → ((k : ℕ) (r : Bool) → k < l.count → g.F.Fn.post l.right (k, tt) r → r ≡ ok k) → (j : ℕ) → j < l.k → ok j ≡ true;
    }
