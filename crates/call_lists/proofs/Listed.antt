-- Laws of a list of calls: one call more, the first, and the answer by the bytes and the lengths.
use Prim.Native.Nat.{ℕ, zero, suc, ◌+◌, ◌*◌, ◌/◌, ◌≤◌, ◌<◌}
use native.Mathlib.Omega.{arith}
use native.Mathlib.Numerals.{add-one}
use mathlib.Core.Path.{◌≡◌, refl, sym, ap, ◌∙◌}
use mathlib.Core.Bool.{Bool, true, false, ◌&&◌}
use mathlib.Core.List.{List, [], ◌∷◌, ◌++◌}
use lib.ListN.{length, get_or}
use lib.Dec.{leb}
use borrow.Author.Tests.{leb-true, le-leb, lt-leb}
use Rattle.std.proofs.Common.{Result, Ok, Err, IsErrAnd}
use Rattle.std.proofs.lemmas.Result.{err_from_is_err_and}
use Rattle.booleans.proofs.Booleans.{and_left, and_right}
use Rattle.catalogue.specs.Words.{word}
use Rattle.catalogue.specs.Outcome.{first_fault}
use Rattle.catalogue.proofs.FirstFault.{first_fault_lem}
use Rattle.demands.specs.Sequences.{Request, classify, change}
use Rattle.call_lists.specs.declared.Fault.{Fault}
use Rattle.call_lists.specs.declared.Fault.TheVariants.{BadCall, ShortLists, ShortAnswers}
use Rattle.call_lists.specs.Requests.{request_by, gone_at, new_at, request_at, requests, call_count, last_kind_by, last_kind, call_right, ask, carried}
use Rattle.call_lists.specs.Running.{Space, Runnable}

pub requests_more : (calls : List ℕ) (k : ℕ) → requests calls (k + 1) ≡ requests calls k ++ (request_at calls k ∷ [])
unfolding requests
requests_more calls k = ap (requests calls) (add-one k)

-- The first call stands in front.
pub requests-first : (calls : List ℕ) (k : ℕ) → (rest : List Request) × (requests calls (suc k) ≡ request_at calls 0 ∷ rest)
unfolding requests
requests-first calls zero = ([], refl)
requests-first calls (suc k) =
    let (rest, e) = requests-first calls k in
    (rest ++ (request_at calls (suc k) ∷ []), ap (λ (l : List Request). l ++ (request_at calls (suc k) ∷ [])) e)

-- A call that is right is whole, and its lists have room.
pub record Right (calls : List ℕ) (k : ℕ) : Type 0 where
  pub whole : 525 * k + 525 ≤ length calls
  pub kind-right : get_or calls (525 * k) 0 ≤ last_kind k
  pub gone_fits : word calls (525 * k + 1) ≤ 260
  pub new_fits : word calls (525 * k + 3) ≤ 260

pub call_right_lem : (calls : List ℕ) (k : ℕ) → call_right calls k ≡ true → Right calls k
unfolding call_right
call_right_lem calls k e =
    let kind = leb (get_or calls (525 * k) 0) (last_kind k) in
    let withdrawn = leb (word calls (525 * k + 1)) 260 in
    let added = leb (word calls (525 * k + 3)) 260 in
    let rest = and_right (leb (525 * k + 525) (length calls)) ((kind && withdrawn) && added) e in
    let first = and_left (kind && withdrawn) added rest in
    record {
      whole = leb-true (525 * k + 525) (length calls) (and_left (leb (525 * k + 525) (length calls)) ((kind && withdrawn) && added) e);
      kind-right = leb-true (get_or calls (525 * k) 0) (last_kind k) (and_left kind withdrawn first);
      gone_fits = leb-true (word calls (525 * k + 1)) 260 (and_right kind withdrawn first);
      new_fits = leb-true (word calls (525 * k + 3)) 260 (and_right (kind && withdrawn) added rest);
    }

pub right_at : (calls : List ℕ) (n k : ℕ) (u : Space) → Runnable calls n u → k < n → Right calls k
right_at calls n k u r l = call_right_lem calls k (r.right k l)

-- A call that is no classify is a change.
pub changes : (kind : ℕ) (withdrawn added : List ℕ) → ¬ (kind ≡ 0) → request_by kind withdrawn added ≡ change withdrawn added
unfolding request_by
changes zero withdrawn added n = absurd (n refl)
changes (suc kind) withdrawn added n = refl

-- The first call is a classify.
pub first_classify : (calls : List ℕ) → call_right calls 0 ≡ true → request_at calls 0 ≡ classify
unfolding request_at request_by last_kind last_kind_by
first_classify calls right =
    let none : get_or calls 0 0 ≡ 0 = omega (arith, (call_right_lem calls 0 right).kind-right) in
    ap (λ (kind : ℕ). request_by kind (gone_at calls 0) (new_at calls 0)) none

-- ---- the answer

asked_yes : (t : Bool) (answer rest : Result ℕ Fault) → t ≡ true → ask t answer rest ≡ rest
unfolding ask
asked_yes t answer rest e = ap (λ (s : Bool). ask s answer rest) e

asked_no : (t : Bool) (answer rest : Result ℕ Fault) → t ≡ false → ask t answer rest ≡ answer
unfolding ask
asked_no t answer rest e = ap (λ (s : Bool). ask s answer rest) e

-- For n calls, of which the first that is not right is `bad`.
module _ (calls : List ℕ) (lists answers n bad : ℕ) (counted : n ≡ call_count calls) (found : bad ≡ first_fault (call_right calls) n) where
  abbrev after_lists : Result ℕ Fault
  after_lists = ask (leb n (answers / 6)) (Err ShortAnswers) (Ok n)

  abbrev after_bytes : Result ℕ Fault
  after_bytes = ask (leb n (lists / 1024)) (Err ShortLists) after_lists

  as_asked : carried calls lists answers ≡ ask (leb n bad) (Err (BadCall bad)) after_bytes
  unfolding carried
  as_asked = cc

  pub answers_bad : bad < n → Err (BadCall bad) ≡ carried calls lists answers
  answers_bad l = sym (as_asked ∙ asked_no _ _ after_bytes (lt-leb n bad l))

  module _ (right : n ≤ bad) where
    asked_lists : carried calls lists answers ≡ after_bytes
    asked_lists = as_asked ∙ asked_yes _ (Err (BadCall bad)) _ (le-leb n bad right)

    pub answers_lists : lists / 1024 < n → Err ShortLists ≡ carried calls lists answers
    answers_lists l = sym (asked_lists ∙ asked_no _ _ after_lists (lt-leb n (lists / 1024) l))

    module _ (lists_fit : n ≤ lists / 1024) where
      asked_answers : carried calls lists answers ≡ after_lists
      asked_answers = asked_lists ∙ asked_yes _ (Err ShortLists) _ (le-leb n (lists / 1024) lists_fit)

      pub answers_answers : answers / 6 < n → Err ShortAnswers ≡ carried calls lists answers
      answers_answers l = sym (asked_answers ∙ asked_no _ _ (Ok n) (lt-leb n (answers / 6) l))

      pub answers_done : n ≤ answers / 6 → Ok n ≡ carried calls lists answers
      answers_done l = sym (asked_answers ∙ asked_yes _ (Err ShortAnswers) _ (le-leb n (answers / 6) l))

-- A question that was answered yes: its own answer is another.
asked-through : (t : Bool) (answer rest : Result ℕ Fault) (n : ℕ) → ask t answer rest ≡ Ok n → ((answer ≡ Ok n) → ⊥) → (t ≡ true) × (rest ≡ Ok n)
unfolding ask
asked-through true answer rest n e other = (refl, e)
asked-through false answer rest n e other = absurd (other e)

-- What `?` hands on: the fault itself.
pub handed_on : (r : Result ℕ Fault) (e : Fault) → IsErrAnd r (λ x. x ≡ e) → r ≡ Err e
handed_on r e h =
    let k = err_from_is_err_and r h in
    k.1 ∙ ap Err k.2

-- Carried out: every call is right, and there is room.
pub done_runnable : (calls : List ℕ) (u : Space) (n : ℕ) → carried calls (length u.lists) (length u.answers) ≡ Ok n → Runnable calls n u
unfolding carried
done_runnable calls u n e =
    let m = call_count calls in
    let bad = first_fault (call_right calls) m in
    let (right, e₁) = asked-through (leb m bad) (Err (BadCall bad)) _ n e (λ z. let y : ◌≡◌ {A = ℕ} 0 1 = cc in omega arith) in
    let (lists, e₂) = asked-through (leb m (length u.lists / 1024)) (Err ShortLists) _ n e₁ (λ z. let y : ◌≡◌ {A = ℕ} 0 1 = cc in omega arith) in
    let (answers, e₃) = asked-through (leb m (length u.answers / 6)) (Err ShortAnswers) (Ok m) n e₂ (λ z. let y : ◌≡◌ {A = ℕ} 0 1 = cc in omega arith) in
    let same : m ≡ n = cc in
    let within : m ≤ bad = leb-true m bad right in
    let lists_fit : m ≤ length u.lists / 1024 = leb-true m (length u.lists / 1024) lists in
    let answers_fit : m ≤ length u.answers / 6 = leb-true m (length u.answers / 6) answers in
    record {
      right = λ k l. (first_fault_lem (call_right calls) m).passed k (omega arith);
      lists_long = omega arith;
      answers_long = omega arith;
    }
