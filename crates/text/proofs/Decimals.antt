-- Decimal digits: how many there are, and that they are those of the kit's `io::decimal`.
use Prim.Native.Nat.{ℕ, zero, suc, ◌+◌, ◌-◌, ◌*◌, ◌/◌, ◌%◌, ◌^◌, ◌≤◌, ◌<◌}
use native.Mathlib.Nat.{pow-suc, one-le-pow, le_refl}
use native.Mathlib.Omega.{arith}
use borrow.Author.Tests.{ltb-true, ltb-false, lt-ltb, le-ltb}
use mathlib.Core.Path.{◌≡◌, refl, sym, ap, ap₂, subst, ◌∙◌}
use mathlib.Core.Bool.{Bool, cond}
use mathlib.Core.List.{List, [], ◌∷◌, ◌++◌}
use lib.Dec.{ltb}
use lib.ListN.{length, length-append}
use Rattle.booleans.proofs.Booleans.{by_bool}
use Rattle.io.specs.Digits.{last_digits, hex_digit_ascii, IsDigitCount}
use Rattle.text.specs.Text.{digits_of, decimal, summary, pair_line, newline}

glyph_digit : (d : ℕ) → d < 10 → hex_digit_ascii d ≡ 48 + d
glyph_digit d h = ap (λ (t : Bool). cond t (48 + d) (87 + d)) (lt-ltb d 10 h)

-- One digit, and several.
digits_of_one : (most n : ℕ) → n < 10 → digits_of most n ≡ (48 + n) ∷ []
unfolding digits_of
digits_of_one zero n h = refl
digits_of_one (suc most) n h = ap (λ (t : Bool). cond t ((48 + n) ∷ []) (digits_of most (n / 10) ++ ((48 + n % 10) ∷ []))) (lt-ltb n 10 h)

digits_of_more : (most n : ℕ) → 10 ≤ n → digits_of (suc most) n ≡ digits_of most (n / 10) ++ ((48 + n % 10) ∷ [])
unfolding digits_of
digits_of_more most n h = ap (λ (t : Bool). cond t ((48 + n) ∷ []) (digits_of most (n / 10) ++ ((48 + n % 10) ∷ []))) (le-ltb n 10 h)

-- The fewest digits that hold n are those of digits_of.
digits_digits_of : (k most n : ℕ) → IsDigitCount 10 1 n k → n ≤ most → last_digits 10 k n ≡ digits_of most n
digits_digits_of zero most n f h = absurd (omega (arith, f.0))
digits_digits_of (suc zero) most n f h =
    let ten : n < 10 = f.1 in
    let last : n % 10 ≡ n = omega arith in
    ap (λ (x : ℕ). x ∷ []) (glyph_digit (n % 10) (omega arith) ∙ ap (λ (x : ℕ). 48 + x) last) ∙ sym (digits_of_one most n ten)
digits_digits_of (suc (suc k)) most n f h =
    let e : suc (suc k) - 1 ≡ suc k = omega arith in
    let least : 10 ^ suc k ≤ n = subst (λ (j : ℕ). 10 ^ j ≤ n) e (f.2 (omega arith)) in
    let some : 0 < 10 ^ k = one-le-pow k 10 (omega arith) in
    let power : 10 ^ suc k ≡ 10 ^ k * 10 = pow-suc 10 k in
    let power' : 10 ^ suc (suc k) ≡ 10 ^ suc k * 10 = pow-suc 10 (suc k) in
    let below : n < 10 ^ suc (suc k) = f.1 in
    let e' : k ≡ suc k - 1 = omega arith in
    let tenth : 10 ^ k ≤ n / 10 = omega arith in
    digits_several k most n (omega arith) h (λ most' h'. digits_digits_of (suc k) most' (n / 10) (omega arith, omega arith, λ _. subst (λ (j : ℕ). 10 ^ j ≤ n / 10) e' tenth) h')
  where
    digits_several : (k most n : ℕ) → 10 ≤ n → n ≤ most → ((most' : ℕ) → n / 10 ≤ most' → last_digits 10 (suc k) (n / 10) ≡ digits_of most' (n / 10)) → last_digits 10 (suc (suc k)) n ≡ digits_of most n
    digits_several k zero n ten h rec = absurd (omega arith)
    digits_several k (suc most) n ten h rec = ap₂ (λ (l : List ℕ) (x : ℕ). l ++ (x ∷ [])) (rec most (omega arith)) (glyph_digit (n % 10) (omega arith)) ∙ sym (digits_of_more most n ten)

pub digits_decimal : (n k : ℕ) → IsDigitCount 10 1 n k → last_digits 10 k n ≡ decimal n
unfolding decimal
digits_decimal n k f = digits_digits_of k n n f (le_refl n)

-- A number below a power of ten has at most so many digits.
length-digits_of : (most n k : ℕ) → n < 10 ^ suc k → length (digits_of most n) ≤ suc k
unfolding digits_of
length-digits_of zero n k h = omega arith
length-digits_of (suc most) n zero h = let one : length (digits_of (suc most) n) ≡ 1 = ap length (digits_of_one (suc most) n h) in omega arith
length-digits_of (suc most) n (suc k) h =
    by_bool (ltb n 10)
    (λ t. let one : length (digits_of (suc most) n) ≡ 1 = ap length (digits_of_one (suc most) n (ltb-true n 10 t)) in omega arith)
    (λ t.
    let power : 10 ^ suc (suc k) ≡ 10 ^ suc k * 10 = pow-suc 10 (suc k) in
    let rest : length (digits_of most (n / 10)) ≤ suc k = length-digits_of most (n / 10) k (omega arith) in
    let more : length (digits_of (suc most) n) ≡ length (digits_of most (n / 10) ++ ((48 + n % 10) ∷ [])) = ap length (digits_of_more most n (ltb-false n 10 t)) in
    omega (arith, length-append (digits_of most (n / 10)) ((48 + n % 10) ∷ [])))

pub length-decimal : (n k : ℕ) → n < 10 ^ suc k → length (decimal n) ≤ suc k
unfolding decimal
length-decimal n k h = length-digits_of n n k h

-- A machine word has at most 20 digits.
pub length-decimal-word : (n : ℕ) → n < 2 ^ 64 → length (decimal n) ≤ 20
length-decimal-word n h = let below : n < 100000000000000000000 = omega arith in length-decimal n 19 below

-- The length of a pair's line.
pub length-pair_line : (c d : ℕ) → length (pair_line c d) ≡ length (decimal c) + length (decimal d) + 2
unfolding pair_line newline
length-pair_line c d =
    let line : List ℕ = decimal c ++ ((32 ∷ []) ++ decimal d) in
    omega (arith, length-append line (10 ∷ []), length-append (decimal c) ((32 ∷ []) ++ decimal d))

-- A line of counts, each a machine word, has at most 112 bytes.
pub summary_most : (n a pairs links : ℕ) → n < 2 ^ 64 → a < 2 ^ 64 → pairs < 2 ^ 64 → links < 2 ^ 64 → length (summary n a pairs links) ≤ 112
unfolding summary newline
summary_most n a pairs links hn ha hp hl =
    let n' = length-decimal-word n hn in
    let a' = length-decimal-word a ha in
    let p' = length-decimal-word pairs hp in
    let l' = length-decimal-word links hl in
    simp length-append (omega arith)
