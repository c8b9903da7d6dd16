-- `is_named` meets its contract.
use Prim.Native.Nat.{ℕ}
use mathlib.Core.Path.{ap₂}
use mathlib.Core.Bool.{Bool, not, ◌&&◌}
use lib.Dec.{eqb}
use Rattle.text.specs.Lines.{named}
use Rattle.text.proofs.lines.is_named.Goals as goal

pub returns : goal.returns
unfolding named
returns c =
    let a = c.args in
    ap₂ (λ (k : ℕ) (t : Bool). eqb k 0 && t) c.at-lower.ensures.kind_is
    (ap₂ (λ (k : ℕ) (t : Bool). eqb k 0 && (not (eqb a.c a.d) && t)) c.at-upper.ensures.kind_is c.has_pair.ensures)
