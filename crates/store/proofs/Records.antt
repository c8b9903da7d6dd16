-- Laws of numbers in bytes: a number written, and axiom records one after the other.
use Prim.Native.Nat.{ℕ, zero, suc, ◌+◌, ◌*◌, ◌/◌, ◌%◌, ◌<◌}
use native.Mathlib.Nat.{not-suc-le-zero, le_of_suc-le-suc}
use native.Mathlib.Omega.{arith}
use mathlib.Core.Path.{◌≡◌, refl, ap, ap₂, ◌∙◌}
use mathlib.Core.Logic.{◌⊎◌, inl, inr, ⊎_elim}
use mathlib.Core.List.{List, [], ◌∷◌, ◌++◌}
use lib.ListN.{length, get_or, set, length-set, get_or-append}
use lib.Seq.{get_or-set_same, get_or-set_other, get_or-append-add}
use Rattle.catalogue.specs.Words.{word, bytes_of}
use Rattle.store.specs.Written.{set_word, sides_of}

-- ---- a number written

pub length-set_word : (b : List ℕ) (i x : ℕ) → length (set_word b i x) ≡ length b
unfolding set_word
length-set_word b i x = length-set (set b i (x % 256)) (i + 1) (x / 256) ∙ length-set b i (x % 256)

get_d_set_word : (b : List ℕ) (i x k : ℕ) → (k < i) ⊎ (i + 1 < k) → get_or (set_word b i x) k 0 ≡ get_or b k 0
unfolding set_word
get_d_set_word b i x k h =
    get_or-set_other (set b i (x % 256)) (i + 1) k (x / 256) 0 (λ e. ⊎_elim (λ l. absurd (let z : ⊥ = omega arith in z)) (λ l. absurd (let z : ⊥ = omega arith in z)) h)
    ∙ get_or-set_other b i k (x % 256) 0 (λ e. ⊎_elim (λ l. absurd (let z : ⊥ = omega arith in z)) (λ l. absurd (let z : ⊥ = omega arith in z)) h)

pub word_set_here : (b : List ℕ) (i x : ℕ) → i + 1 < length b → word (set_word b i x) i ≡ x
unfolding word set_word
word_set_here b i x h =
    let low : get_or (set (set b i (x % 256)) (i + 1) (x / 256)) i 0 ≡ x % 256 =
    get_or-set_other (set b i (x % 256)) (i + 1) i (x / 256) 0 (λ e. omega arith) ∙ get_or-set_same b i (x % 256) 0 (omega arith)
    in
    let high : get_or (set (set b i (x % 256)) (i + 1) (x / 256)) (i + 1) 0 ≡ x / 256 =
    get_or-set_same (set b i (x % 256)) (i + 1) (x / 256) 0 (omega (arith, length-set b i (x % 256)))
    in
    omega arith

pub word_set_other : (b : List ℕ) (i x j : ℕ) → (j + 1 < i) ⊎ (i + 1 < j) → word (set_word b i x) j ≡ word b j
unfolding word
word_set_other b i x j h =
    ap₂ (λ (l h : ℕ). l + 256 * h)
    (get_d_set_word b i x j (⊎_elim (λ l. inl (omega arith)) inr h))
    (get_d_set_word b i x (j + 1) (⊎_elim (λ l. inl (omega arith)) (λ l. inr (omega arith)) h))

-- ---- a number in the first or the second of two byte lists

pub word_first : (xs ys : List ℕ) (i : ℕ) → i + 1 < length xs → word (xs ++ ys) i ≡ word xs i
unfolding word
word_first xs ys i h =
    ap₂ (λ (l h : ℕ). l + 256 * h) (get_or-append xs ys 0 i (omega arith)) (get_or-append xs ys 0 (i + 1) h)

pub word-second : (xs ys : List ℕ) (n i : ℕ) → length xs ≡ n → word (xs ++ ys) (n + i) ≡ word ys i
unfolding word
word-second xs ys n i e =
    let at : (j k : ℕ) → j ≡ n + k → get_or (xs ++ ys) j 0 ≡ get_or ys k 0 =
    λ j k s. ap (λ (x : ℕ). get_or (xs ++ ys) x 0) (let z : j ≡ length xs + k = omega arith in z) ∙ get_or-append-add xs ys k 0
    in
    ap₂ (λ (l h : ℕ). l + 256 * h) (at (n + i) i refl) (at (n + i + 1) (i + 1) (omega arith))

-- A number past the first two bytes.
pub word_later : (a0 a1 : ℕ) (xs : List ℕ) (i j : ℕ) → i ≡ suc (suc j) → word (a0 ∷ a1 ∷ xs) i ≡ word xs j
unfolding word
word_later a0 a1 xs i j e =
    let s : i + 1 ≡ suc (suc (j + 1)) = omega arith in
    ap₂ (λ (l h : ℕ). get_or (a0 ∷ a1 ∷ xs) l 0 + 256 * get_or (a0 ∷ a1 ∷ xs) h 0) e s

-- ---- axiom records

word_next : (a0 a1 a2 a3 : ℕ) (xs : List ℕ) (i j : ℕ) → i ≡ suc (suc (suc (suc j))) → word (a0 ∷ a1 ∷ a2 ∷ a3 ∷ xs) i ≡ word xs j
word_next a0 a1 a2 a3 xs i j e = word_later a0 a1 (a2 ∷ a3 ∷ xs) i (suc (suc j)) e ∙ word_later a2 a3 xs (suc (suc j)) j refl

pub length_records : (n : ℕ) (ps : List ℕ) → length (bytes_of (sides_of n ps)) ≡ 4 * length ps
unfolding bytes_of sides_of
length_records n [] = refl
length_records n (p ∷ ps) = let e = length_records n ps in omega arith

pub left_record : (n : ℕ) (ps : List ℕ) (k : ℕ) → k < length ps → word (bytes_of (sides_of n ps)) (4 * k) ≡ get_or ps k 0 / n
unfolding bytes_of sides_of word
left_record n [] k l = absurd (not-suc-le-zero l)
left_record n (p ∷ ps) zero l = omega arith
left_record n (p ∷ ps) (suc k) l = word_next _ _ _ _ (bytes_of (sides_of n ps)) (4 * suc k) (4 * k) (omega arith) ∙ left_record n ps k (le_of_suc-le-suc l)

pub right_record : (n : ℕ) (ps : List ℕ) (k : ℕ) → k < length ps → word (bytes_of (sides_of n ps)) (4 * k + 2) ≡ get_or ps k 0 % n
unfolding bytes_of sides_of word
right_record n [] k l = absurd (not-suc-le-zero l)
right_record n (p ∷ ps) zero l = omega arith
right_record n (p ∷ ps) (suc k) l = word_next _ _ _ _ (bytes_of (sides_of n ps)) (4 * suc k + 2) (4 * k + 2) (omega arith) ∙ right_record n ps k (le_of_suc-le-suc l)
