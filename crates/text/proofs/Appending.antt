-- Laws of texts appended to a buffer.
use Prim.Native.Nat.{ℕ, ◌+◌, ◌≤◌}
use native.Mathlib.Omega.{arith}
use native.Mathlib.Nat.{add_assoc}
use mathlib.Core.Path.{◌≡◌, sym, ap, ap₂, ◌∙◌}
use mathlib.Core.List.{List, [], ◌++◌, append_assoc, append-nil}
use lib.ListN.{length, take, drop, length-append, length-drop, take-append-drop}
use lib.Seq.{length-take-le, take_at, drop-append-add, drop-drop}
use borrow.Rule.Slice.PartMut.{put_mid}
use Rattle.io.specs.Counts.{IsPrefixLen}
use Rattle.text.specs.Text.{overwritten, Appended}

-- A place within a buffer counts its first bytes.
counts_within : (n : ℕ) (xs : List ℕ) → n ≤ length xs → IsPrefixLen n xs
counts_within n xs h = (h, sym (length-take-le n xs h))

-- What stands before the place after a text.
length_front : (out : List ℕ) (at : ℕ) (text : List ℕ) → at ≤ length out → length (take at out ++ text) ≡ at + length text
length_front out at text h = length-append (take at out) text ∙ ap (λ (k : ℕ). k + length text) (length-take-le at out h)

-- A text within the buffer leaves its length.
pub length-overwritten : (out : List ℕ) (at : ℕ) (text : List ℕ) → at + length text ≤ length out → length (overwritten out at text) ≡ length out
unfolding overwritten
length-overwritten out at text h =
    let front : length (take at out ++ text) ≡ at + length text = length_front out at text (omega arith) in
    omega (arith, length-append (take at out ++ text) (drop (at + length text) out), length-drop (at + length text) out)

-- No text leaves the buffer.
pub overwritten_nothing : (out : List ℕ) (at : ℕ) → overwritten out at [] ≡ out
unfolding overwritten
overwritten_nothing out at =
    let none : at + 0 ≡ at = omega arith in
    ap₂ (λ (f : List ℕ) (k : ℕ). f ++ drop k out) (append-nil (take at out)) none ∙ take-append-drop at out

-- A text copied over the part from a place on that is as long.
pub overwritten_part : (out : List ℕ) (at k : ℕ) (text part : List ℕ) → k ≡ length text → part ≡ text → put_mid at k out part ≡ overwritten out at text
unfolding overwritten
overwritten_part out at k text part e p =
    ap₂ (λ (p r : List ℕ). take at out ++ (p ++ r)) p (drop-drop k at out ∙ ap (λ (n : ℕ). drop (at + n) out) e)
    ∙ sym (append_assoc (take at out) text (drop (at + length text) out))

-- Two texts, one after the other, are their concatenation.
pub overwritten-append : (out : List ℕ) (at : ℕ) (s t : List ℕ) → at ≤ length out → overwritten (overwritten out at s) (at + length s) t ≡ overwritten out at (s ++ t)
unfolding overwritten
overwritten-append out at s t h =
    let front : List ℕ = take at out ++ s in
    let rest : List ℕ = drop (at + length s) out in
    let long : length front ≡ at + length s = length_front out at s h in
    let taken : take (at + length s) (front ++ rest) ≡ front = take_at front rest (at + length s) long in
    let left : drop (at + length s + length t) (front ++ rest) ≡ drop (at + length (s ++ t)) out =
    ap (λ (k : ℕ). drop (k + length t) (front ++ rest)) (sym long)
    ∙ drop-append-add front rest (length t)
    ∙ drop-drop (length t) (at + length s) out
    ∙ ap (λ (k : ℕ). drop k out) (add_assoc at (length s) (length t) ∙ ap (λ (k : ℕ). at + k) (sym (length-append s t)))
    in
    ap₂ (λ (f r : List ℕ). f ++ t ++ r) taken left
    ∙ ap (λ (f : List ℕ). f ++ drop (at + length (s ++ t)) out) (append_assoc (take at out) s t)

pub appended_nothing : (out : List ℕ) (at : ℕ) → at ≤ length out → Appended [] out at at out
appended_nothing out at h = record { ends = omega arith; bytes = sym (overwritten_nothing out at); counts = counts_within at out h }

-- A text that the buffer has room for.
pub appended : (text out : List ℕ) (at place : ℕ) (after : List ℕ) → at + length text ≤ length out → place ≡ at + length text → after ≡ overwritten out at text → Appended text out at place after
appended text out at place after h e w =
    let long : length after ≡ length out = ap length w ∙ length-overwritten out at text h in
    record { ends = e; bytes = w; counts = counts_within place after (omega arith) }

-- One text after another.
pub appended_more : (s t out : List ℕ) (at place end : ℕ) (middle after : List ℕ) → at ≤ length out → Appended s out at place middle → Appended t middle place end after → Appended (s ++ t) out at end after
appended_more s t out at place end middle after h p q =
    record {
      ends = omega (arith, p.ends, q.ends, length-append s t);
      bytes = q.bytes
          ∙ ap₂ (λ (m : List ℕ) (k : ℕ). overwritten m k t) p.bytes p.ends
          ∙ overwritten-append out at s t h;
      counts = q.counts;
    }
