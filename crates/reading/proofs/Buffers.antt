-- What stands at the start of a buffer after one more read.
use Prim.Native.Nat.{ℕ, ◌+◌, ◌≤◌}
use mathlib.Core.Path.{◌≡◌, ap, subst, ◌∙◌}
use mathlib.Core.List.{List, ◌++◌}
use lib.ListN.{length, take}
use borrow.Rule.Slice.PartMut.{put_mid}
use Rattle.std.proofs.lemmas.List.{length-take-le, take-append-le}
use Rattle.std.proofs.Math.Seq.{take-append-add}

-- A read of n bytes into the part from `done` on: the bytes read before, and then these.
pub taken_more : (done k n : ℕ) (buffer part : List ℕ) → done ≤ length buffer → n ≤ length part → take (done + n) (put_mid done k buffer part) ≡ take done buffer ++ take n part
taken_more done k n buffer part h l =
    subst (λ (m : ℕ). take (m + n) (put_mid done k buffer part) ≡ take done buffer ++ take n part)
    (length-take-le done buffer h)
    (take-append-add (take done buffer) _ n ∙ ap (λ (t : List ℕ). take done buffer ++ t) (take-append-le n part _ l))
