-- How an exported function answers: a number returned, and four entries of a list. One definition for every call.
use Rattle.std.specs.Prelude.{ℕ, ◌+◌, ◌*◌, ◌≤◌, ◌<◌, ◌≡◌, Bool, true, false, List, length, set, Result, Ok, Err}
use Rattle.catalogue.specs.declared.checks.Refusal.{Refusal}
use Rattle.replies.specs.declared.Entries.{Entries}

-- What an exported call replies: the four entries, or the refusal.
abbrev pub Reply : Type 0
Reply = Result Entries Refusal

-- Four entries.
abbrev pub four : (first second third fourth : ℕ) → Entries
four a b c d = record { first = a; second = b; third = c; fourth = d }

-- The number that a reply returns: 0 where it is accepted; where it is refused, that of the question and 65,536 times the record at fault.
abbrev pub returned : Reply → ℕ
returned (Ok e) = 0
returned (Err e) = e.number + 65536 * e.at

-- The answer with its four entries written. Those from 4 on are never written.
unfoldable pub answered : Entries → List ℕ → List ℕ
answered e answer = set (set (set (set answer 0 e.first) 1 e.second) 2 e.third) 3 e.fourth

-- The answer after a reply: as it was where it is refused.
abbrev pub entries : Reply → List ℕ → List ℕ
entries (Ok e) answer = answered e answer
entries (Err e) answer = answer

-- A reply given: the number returned, and the answer afterwards.
pub record Given (reply : Reply) (answer : List ℕ) (r : ℕ) (answer' : List ℕ) : Type 0 where
  pub returns : r ≡ returned reply
  pub writes : answer' ≡ entries reply answer

-- Whether an answer has fewer than four entries.
pub record TellsShort (answer : List ℕ) (r : Bool) : Type 0 where
  pub short : r ≡ true → length answer < 4
  pub long : r ≡ false → 4 ≤ length answer

-- Nothing is changed where the answer is too short.
pub record TooShort {L : Type 0} (lent : L) (answer : List ℕ) (r : ℕ) (lent' : L) (answer' : List ℕ) : Type 0 where
  pub returns : r ≡ 65535
  pub lent_kept : lent' ≡ lent
  pub answer_kept : answer' ≡ answer

-- Called: some answer of the call, with what it leaves in the buffers lent, and its reply given.
pub record Called {C L : Type 0} (Calls : C → L → Type 0) (reply_of : C → Reply) (answer : List ℕ) (r : ℕ) (lent' : L) (answer' : List ℕ) : Type 0 where
  pub call : C
  pub calls : Calls call lent'
  pub gives : Given (reply_of call) answer r answer'

-- An exported call. `Calls` says what the call answers and leaves, by its own definitions, and `reply_of` which reply an answer is. The buffers that it is
-- lent to write, besides the answer, hold `lent` before and `lent'` after.
pub record Exported {C L : Type 0} (Calls : C → L → Type 0) (reply_of : C → Reply) (lent : L) (answer : List ℕ) (r : ℕ) (lent' : L) (answer' : List ℕ)
    : Type 0
  where
    pub short : length answer < 4 → TooShort lent answer r lent' answer'
    pub long : 4 ≤ length answer → Called Calls reply_of answer r lent' answer'
