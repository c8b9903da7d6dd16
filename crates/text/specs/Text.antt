-- The listing program's texts as lists of bytes (document 01, Examples), and what it is to append one to a buffer.
use Rattle.std.specs.Prelude.{ℕ, zero, suc, ◌+◌, ◌/◌, ◌%◌, ◌≡◌, cond, List, [], ◌∷◌, ◌++◌, ltb, length, take, drop}
use Rattle.io.specs.Counts.{IsPrefixLen}

-- The decimal digits of n, which has at most suc most of them, the most significant first.
unfoldable pub digits_of : (most n : ℕ) → List ℕ
digits_of zero n = (48 + n) ∷ []
digits_of (suc most) n = cond (ltb n 10) ((48 + n) ∷ []) (digits_of most (n / 10) ++ ((48 + n % 10) ∷ []))

-- A number in decimal, by the fewest digits.
unfoldable pub decimal : ℕ → List ℕ
decimal n = digits_of n n

-- The end of a line.
unfoldable pub newline : List ℕ
newline = 10 ∷ []

-- `concepts n axioms a pairs p links l`, a line.
unfoldable pub summary : (n a pairs links : ℕ) → List ℕ
summary n a pairs links =
    (99 ∷ 111 ∷ 110 ∷ 99 ∷ 101 ∷ 112 ∷ 116 ∷ 115 ∷ 32 ∷ []) ++ decimal n
    ++ ((32 ∷ 97 ∷ 120 ∷ 105 ∷ 111 ∷ 109 ∷ 115 ∷ 32 ∷ []) ++ decimal a)
    ++ ((32 ∷ 112 ∷ 97 ∷ 105 ∷ 114 ∷ 115 ∷ 32 ∷ []) ++ decimal pairs)
    ++ ((32 ∷ 108 ∷ 105 ∷ 110 ∷ 107 ∷ 115 ∷ 32 ∷ []) ++ decimal links)
    ++ newline

-- `refused n`, a line.
unfoldable pub refusal : ℕ → List ℕ
refusal number = (114 ∷ 101 ∷ 102 ∷ 117 ∷ 115 ∷ 101 ∷ 100 ∷ 32 ∷ []) ++ decimal number ++ newline

-- `C D`, a line.
unfoldable pub pair_line : (c d : ℕ) → List ℕ
pair_line c d = decimal c ++ ((32 ∷ []) ++ decimal d) ++ newline

-- A buffer with a text from byte `at` on, and its other bytes as they are.
unfoldable pub overwritten : (out : List ℕ) (at : ℕ) (text : List ℕ) → List ℕ
overwritten out at text = take at out ++ text ++ drop (at + length text) out

-- A text is appended after `at` bytes: the place after it, which lies within the buffer, and the buffer afterwards.
pub record Appended (text out : List ℕ) (at place : ℕ) (after : List ℕ) : Type 0 where
  pub ends : place ≡ at + length text
  pub bytes : after ≡ overwritten out at text
  pub counts : IsPrefixLen place after
