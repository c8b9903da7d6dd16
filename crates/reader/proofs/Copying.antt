-- Copying two bytes more: a number split into its bytes, and stored after what is copied.
use Prim.Native.Nat.{ℕ, suc, ◌+◌, ◌-◌, ◌/◌, ◌%◌, ◌≤◌, ◌<◌}
use native.Mathlib.Omega.{arith}
use mathlib.Core.Path.{◌≡◌, sym, ap, ◌∙◌}
use mathlib.Core.List.{List}
use lib.ListN.{length, get_or, drop, set, length-drop}
use lib.Seq.{paste-suc, get_or-drop}
use Rattle.catalogue.specs.Words.{word}
use Rattle.reader.specs.Copied.{copied}

-- The low byte and the high byte of a number.
pub low_byte : (b : List ℕ) (i : ℕ) → get_or b i 0 < 256 → word b i % 256 ≡ get_or b i 0
unfolding word
low_byte b i h = omega arith

pub high_byte : (b : List ℕ) (i : ℕ) → get_or b i 0 < 256 → word b i / 256 ≡ get_or b (i + 1) 0
unfolding word
high_byte b i h = omega arith

pub word_fits : (b : List ℕ) (i : ℕ) → ((k : ℕ) → get_or b k 0 < 256) → word b i < 65536
unfolding word
word_fits b i h = omega (arith, h i, h (i + 1))

pub copied_more : (src : List ℕ) (at : ℕ) (dst : List ℕ) (to j : ℕ) → at + j + 2 ≤ length src → to + j + 2 ≤ length dst → get_or src (at + j) 0 < 256
    → set (set (copied src at dst to j) (to + j) (word src (at + j) % 256)) (to + j + 1) (word src (at + j) / 256) ≡ copied src at dst to (suc (suc j))
copied_more src at dst to j hs hd h =
    let s : List ℕ = drop at src in
    let l : length s ≡ length src - at = length-drop at src in
    let low : word src (at + j) % 256 ≡ get_or s j 0 = low_byte src (at + j) h ∙ sym (get_or-drop at src j 0) in
    let next : at + j + 1 ≡ at + suc j = omega arith in
    let high : word src (at + j) / 256 ≡ get_or s (suc j) 0 = high_byte src (at + j) h ∙ (ap (λ (i : ℕ). get_or src i 0) next ∙ sym (get_or-drop at src (suc j) 0)) in
    let place : to + j + 1 ≡ to + suc j = omega arith in
    rw (low, high, place, paste-suc dst to s j 0 (omega arith) (omega arith)) (paste-suc dst to s (suc j) 0 (omega arith) (omega arith))
