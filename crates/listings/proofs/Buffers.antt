-- What stands at the start of a buffer after a text has been put there.
use Prim.Native.Nat.{ℕ}
use native.Mathlib.Nat.{zero-add}
use mathlib.Core.Path.{◌≡◌, ap₂, ◌∙◌}
use mathlib.Core.List.{List}
use lib.ListN.{length, take}
use Rattle.std.proofs.Math.Seq.{take-append_seam}
use Rattle.text.specs.Text.{overwritten, Appended}

-- A text put at the start.
pub appended_front : (text out after : List ℕ) (place : ℕ) → Appended text out 0 place after → take place after ≡ text
unfolding overwritten
appended_front text out after place a = ap₂ take (a.ends ∙ zero-add (length text)) a.bytes ∙ take-append_seam text _
