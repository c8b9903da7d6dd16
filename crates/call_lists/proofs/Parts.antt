-- Parts of a list written one after the other: what stands in front of a place, and the part at that place.
use Prim.Native.Nat.{ℕ, ◌+◌, ◌≤◌}
use native.Mathlib.Omega.{arith}
use mathlib.Core.Path.{◌≡◌, sym, ap, ap₂, ◌∙◌}
use mathlib.Core.List.{List, [], ◌∷◌, ◌++◌, append-nil, append_assoc, flat_map}
use lib.ListN.{length, take, drop, length-append, length-drop}
use lib.Seq.{take_at, drop_at, drop-length, drop-drop, sets, sets-eq}

pub nothing_left : (xs : List ℕ) (n : ℕ) → length xs ≡ n → drop n xs ≡ []
nothing_left xs n e = ap (λ (k : ℕ). drop k xs) (sym e) ∙ drop-length xs

-- A list that is written from end to end.
pub all_written : (ys xs : List ℕ) → length xs ≡ length ys → sets xs 0 ys ≡ ys
all_written ys xs e =
    sets-eq ys xs 0 (omega arith)
    ∙ ap (λ (l : List ℕ). ys ++ l) (nothing_left xs (0 + length ys) (omega arith))
    ∙ append-nil ys

-- So far a front is written up to the a-th number.
module _ (a : ℕ) (before now front : List ℕ) (within : a ≤ length before) (long : length now ≡ length before) (so_far : now ≡ front ++ drop a before) where
  front_long : length front ≡ a
  front_long = omega (arith, ap length so_far, length-append front (drop a before), length-drop a before)

  rest_same : drop a now ≡ drop a before
  rest_same = ap (drop a) so_far ∙ drop_at front (drop a before) a front_long

  -- The next part is still as it was.
  pub part_kept : (w : ℕ) → take w (drop a now) ≡ take w (drop a before)
  part_kept w = ap (take w) rest_same

  -- With the next part written, the front is longer by it.
  pub part_written : (w : ℕ) (part after : List ℕ) → after ≡ take a now ++ (part ++ drop (a + w) now) → after ≡ (front ++ part) ++ drop (a + w) before
  part_written w part after e =
      let left : take a now ≡ front = ap (take a) so_far ∙ take_at front (drop a before) a front_long in
      let right : drop (a + w) now ≡ drop (a + w) before = sym (drop-drop w a now) ∙ ap (drop w) rest_same ∙ drop-drop w a before in
      e
      ∙ ap₂ (λ (x y : List ℕ). x ++ (part ++ y)) left right
      ∙ sym (append_assoc front part (drop (a + w) before))

-- The parts of one more element.
pub flat_more : {A : Type 0} (f : A → List ℕ) (xs : List A) (x : A) → flat_map f (xs ++ (x ∷ [])) ≡ flat_map f xs ++ f x
unfolding flat_map
flat_more f [] x = append-nil (f x)
flat_more f (y ∷ ys) x = ap (λ (l : List ℕ). f y ++ l) (flat_more f ys x) ∙ sym (append_assoc (f y) (flat_map f ys) (f x))
