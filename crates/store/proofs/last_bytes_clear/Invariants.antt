-- `store::last_bytes_clear` meets its contract: no bit from bit i on is set in a row that was passed.
use Prim.Native.Nat.{ℕ, ◌<◌}
use mathlib.Core.Path.{◌≡◌}
use mathlib.Core.Bool.{false}
use Rattle.layout.specs.Parts.{set_from}
use Rattle.store.proofs.last_bytes_clear.Given as goal

abbrev pub invariant-loop-r : goal.invariant-loop-r
invariant-loop-r l = (k : ℕ) → k < l.r → set_from l.w l.i l.rows k ≡ false
