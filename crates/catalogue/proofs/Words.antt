-- Laws of numbers of two bytes.
use Prim.Native.Nat.{ℕ, ◌+◌, ◌*◌, ◌<◌}
use native.Mathlib.Omega.{arith}
use mathlib.Core.Path.{◌≡◌, ap, ap₂, ◌∙◌}
use mathlib.Core.List.{List}
use lib.ListN.{get_or, drop}
use lib.Seq.{get_or-drop}
use mir.Syntax.{w8}
use mir.Val.{Fits}
use Rattle.catalogue.specs.Words.{word}

-- Two bytes that stand side by side are the number at the first.
pub two_bytes : (b : List ℕ) (p q i : ℕ) → p ≡ i → q ≡ i + 1 → get_or b p 0 + 256 * get_or b q 0 ≡ word b i
unfolding word
two_bytes b p q i low high = rw (low, high)

-- Bytes make a number of sixteen bits.
pub word_below : (b : List ℕ) → ((i : ℕ) → Fits w8 (get_or b i 0)) → (i : ℕ) → word b i < 65536
unfolding word
word_below b bytes i = omega (arith, bytes i, bytes (i + 1))

-- A number of what is left from a place on.
pub word-drop : (k : ℕ) (b : List ℕ) (i : ℕ) → word (drop k b) i ≡ word b (k + i)
unfolding word
word-drop k b i =
    let next : k + (i + 1) ≡ k + i + 1 = omega arith in
    ap₂ (λ (x y : ℕ). x + 256 * y) (get_or-drop k b i 0) (get_or-drop k b (i + 1) 0 ∙ ap (λ (j : ℕ). get_or b j 0) next)
