-- A list of calls as bytes (document 02, request Four), 525 for each: its kind (0 classify, 1 change), the bytes of its two lists of axioms, two bytes each,
-- low byte first, and room for each list, 260 bytes: the axioms withdrawn and those added, from the front of their room. Of a classify only the lengths are asked.
-- What is asked of the bytes before the first call, and the answer.
use Rattle.std.specs.Prelude.{ℕ, zero, suc, ◌+◌, ◌*◌, ◌/◌, Bool, true, false, ◌&&◌, List, [], ◌∷◌, ◌++◌, length, get_or, take, drop, leb, eqb, Result, Ok, Err}
use Rattle.catalogue.specs.Words.{word}
use Rattle.catalogue.specs.Outcome.{first_fault}
use Rattle.demands.specs.Sequences.{Request, classify, change}
use Rattle.call_lists.specs.declared.Fault.{Fault}
use Rattle.call_lists.specs.declared.Fault.TheVariants.{BadCall, ShortLists, ShortAnswers}

-- ---- the calls

unfoldable pub request_by : (kind : ℕ) (withdrawn added : List ℕ) → Request
request_by zero withdrawn added = classify
request_by (suc kind) withdrawn added = change withdrawn added

-- The part of w numbers from the a-th on.
abbrev pub part_of : (a w : ℕ) → List ℕ → List ℕ
part_of a w xs = take w (drop a xs)

-- The two lists of call k.
unfoldable pub gone_at : List ℕ → ℕ → List ℕ
gone_at calls k = part_of (525 * k + 5) (word calls (525 * k + 1)) calls

unfoldable pub new_at : List ℕ → ℕ → List ℕ
new_at calls k = part_of (525 * k + 265) (word calls (525 * k + 3)) calls

-- Call k.
unfoldable pub request_at : List ℕ → ℕ → Request
request_at calls k = request_by (get_or calls (525 * k) 0) (gone_at calls k) (new_at calls k)

-- The first k calls, in order.
unfoldable pub requests : List ℕ → ℕ → List Request
requests calls zero = []
requests calls (suc k) = requests calls k ++ (request_at calls k ∷ [])

-- ---- what is asked of them

-- How many calls there are; the last may be cut.
unfoldable pub call_count : List ℕ → ℕ
call_count calls = (length calls + 524) / 525

-- The list begins with a classify; a later call is of either kind.
unfoldable pub last_kind_by : (first : Bool) → ℕ
last_kind_by true = 0
last_kind_by false = 1

unfoldable pub last_kind : ℕ → ℕ
last_kind k = last_kind_by (eqb k 0)

-- Call k is whole and of a kind that it may be, and its lists are no longer than their room.
unfoldable pub call_right : List ℕ → ℕ → Bool
call_right calls k =
    leb (525 * k + 525) (length calls)
    && ((leb (get_or calls (525 * k) 0) (last_kind k) && leb (word calls (525 * k + 1)) 260) && leb (word calls (525 * k + 3)) 260)

-- On yes the rest is asked, on no this is the answer.
unfoldable pub ask : Bool → Result ℕ Fault → Result ℕ Fault → Result ℕ Fault
ask true answer rest = rest
ask false answer rest = answer

-- The answer, by the bytes and the lengths of the two buffers alone: the first call that is not right; no room for 1,024 bytes of list for each call, or for
-- six numbers of answer; or the number of calls carried out.
unfoldable pub carried : (calls : List ℕ) (lists answers : ℕ) → Result ℕ Fault
carried calls lists answers =
    let n = call_count calls in
    let bad = first_fault (call_right calls) n in
    ask (leb n bad) (Err (BadCall bad)) (ask (leb n (lists / 1024)) (Err ShortLists) (ask (leb n (answers / 6)) (Err ShortAnswers) (Ok n)))
