-- What a call leaves in the work space (document 01, Store and Questions).
use Rattle.std.specs.Prelude.{ℕ, Bool, true, false, List, ◌++◌, drop, replicate}

-- With the part that a call takes zero: after every accepted call.
unfoldable pub zeroed : (taken : ℕ) → List ℕ → List ℕ
zeroed taken work = replicate taken 0 ++ drop taken work

-- With that part zero, or as it was.
abbrev pub zeroed_if : Bool → (taken : ℕ) → List ℕ → List ℕ
zeroed_if true taken work = zeroed taken work
zeroed_if false taken work = work

-- After a refusal by a question's number: zero where the call zeroes at that number, and else as it was.
unfoldable pub work_after : (zeroes : ℕ → Bool) (taken number : ℕ) → List ℕ → List ℕ
work_after zeroes taken number work = zeroed_if (zeroes number) taken work

-- A call that zeroes at no number.
abbrev pub at_none : ℕ → Bool
at_none number = false
