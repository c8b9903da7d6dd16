-- A list of calls carried out on one catalogue (document 01, Edits in a row): every call is lent the whole store, the whole work space and its own part of
-- the lists, and its answer has its own part of the answers.
use Rattle.std.specs.Prelude.{ℕ, ◌+◌, ◌*◌, ◌≤◌, ◌<◌, ◌≡◌, true, length, take, drop, Result, Ok, Err}
use mathlib.Core.List.{List, [], ◌∷◌, ◌++◌, map, flat_map}
use Rattle.catalogue.specs.Outcome.{accepted}
use Rattle.rules.specs.Axioms.{none}
use Rattle.classification.specs.Classified.{classify_checks}
use Rattle.change_contract.specs.Edits.{Lent, lend}
use Rattle.demands.specs.Sequences.{Request, classify, Call, Answer, classified, changed, Turn, Meets, Ran, Sequence, after_calls, AllCorrect, ClassifiedAfresh}
use Rattle.call_lists.specs.declared.Fault.{Fault}
use Rattle.call_lists.specs.Requests.{request_at, requests, part_of, call_right, carried}

-- The buffers that are lent.
pub record Space : Type 0 where
  pub store : List ℕ
  pub work : List ℕ
  pub lists : List ℕ
  pub answers : List ℕ

abbrev pub space : (store work lists answers : List ℕ) → Space
space store work lists answers = record { store = store; work = work; lists = lists; answers = answers }

-- ---- one call

-- The six numbers of an answer: the number of the question that was answered no and the record at fault, 0 and 0 where none was; and then the counts,
-- pairs and links for a classify, removed, returned, gained and touched for a change, and 0 past them.
unfoldable pub entries_of : Answer → List ℕ
entries_of (classified (Ok c)) = 0 ∷ 0 ∷ c.pairs ∷ c.links ∷ 0 ∷ 0 ∷ []
entries_of (classified (Err e)) = e.number ∷ e.at ∷ 0 ∷ 0 ∷ 0 ∷ 0 ∷ []
entries_of (changed (Ok c)) = 0 ∷ 0 ∷ c.removed ∷ c.returned ∷ c.gained ∷ c.touched ∷ []
entries_of (changed (Err e)) = e.number ∷ e.at ∷ 0 ∷ 0 ∷ 0 ∷ 0 ∷ []

-- A call met its own contract, and its answer is entered. A classify leaves its list as it was.
pub record Answers (b : List ℕ) (q : Request) (u v : Lent) (entries : List ℕ) : Type 0 where
  pub answer : Answer
  pub meets : Meets b u v q answer
  pub entered : entries ≡ entries_of answer
  pub list_kept : q ≡ classify → v.list ≡ u.list

-- Call k of the list, with its own parts.
pub record AnswersAt (b calls : List ℕ) (k : ℕ) (u v : Space) : Type 0 where
  pub list : List ℕ
  pub entries : List ℕ
  pub answers : Answers b (request_at calls k) (lend u.store u.work (part_of (1024 * k) 1024 u.lists)) (lend v.store v.work list) entries
  pub lists_are : v.lists ≡ take (1024 * k) u.lists ++ (list ++ drop (1024 * k + 1024) u.lists)
  pub answers_are : v.answers ≡ take (6 * k) u.answers ++ (entries ++ drop (6 * k + 6) u.answers)

-- ---- the calls in a row

-- The arguments of each call.
abbrev pub call_of : List ℕ → Space → Request → Call
call_of b u q = record { request = q; catalogue = b; lent = record { store = length u.store; work = length u.work; list = 1024 }; from = 0 }

-- The work space goes from each turn to the next, and a classify leaves its list as it was.
pub data PassedOn : List ℕ → List Turn → List ℕ → Type 0 where
  nothing : {work : List ℕ} → PassedOn work [] work
  first : {work last : List ℕ} {t : Turn} {ts : List Turn} → t.work ≡ work → (t.call.request ≡ classify → t.list_after ≡ t.list)
      → PassedOn t.work_after ts last → PassedOn work (t ∷ ts) last

-- The first n calls: a turn for each, in order, from the store before to the store after, and what they leave in the other buffers.
pub record Runs (b calls : List ℕ) (n : ℕ) (u v : Space) : Type 0 where
  pub turns : List Turn
  pub calls_are : map (λ (t : Turn). t.call) turns ≡ map (call_of b u) (requests calls n)
  pub ran : Ran u.store turns v.store
  pub passed_on : PassedOn u.work turns v.work
  pub lists_lent : take (1024 * n) u.lists ≡ flat_map (λ (t : Turn). t.list) turns
  pub lists_are : v.lists ≡ flat_map (λ (t : Turn). t.list_after) turns ++ drop (1024 * n) u.lists
  pub answers_are : v.answers ≡ flat_map (λ (t : Turn). entries_of t.answer) turns ++ drop (6 * n) u.answers

-- n calls that are right, with room for each.
pub record Runnable (calls : List ℕ) (n : ℕ) (u : Space) : Type 0 where
  pub right : (k : ℕ) → k < n → call_right calls k ≡ true
  pub lists_long : 1024 * n ≤ length u.lists
  pub answers_long : 6 * n ≤ length u.answers

-- The turns of these calls are a list as in demand 3, and its conclusion holds of them: each is correct, and the store at the end is classified afresh from
-- the axioms in force by the calls' arguments alone.
pub record Concludes (b : List ℕ) (calls : List Call) (turns : List Turn) (store last : List ℕ) : Type 0 where
  pub head : Turn
  pub rest : List Turn
  pub turns_are : turns ≡ head ∷ rest
  pub sequence : Sequence b store head rest last
  pub correct : AllCorrect b none store turns
  pub afresh : ClassifiedAfresh b (after_calls b none calls) last

-- n calls carried out, with demand 3 of them where the first, a classify, is accepted.
pub record Carries (b calls : List ℕ) (n : ℕ) (u v : Space) : Type 0 where
  pub runs : Runs b calls n u v
  pub concludes : 0 < n → classify_checks b (length u.store) (length u.work) ≡ accepted
      → Concludes b (map (call_of b u) (requests calls n)) runs.turns u.store v.store

-- Carrying out a list of calls: carried out, or refused with every buffer kept.
pub record CarriesOut (b calls : List ℕ) (u : Space) (answer : Result ℕ Fault) (v : Space) : Type 0 where
  pub answers : answer ≡ carried calls (length u.lists) (length u.answers)
  pub carries : (n : ℕ) → answer ≡ Ok n → Carries b calls n u v
  pub refuses : ((n : ℕ) → ¬ (answer ≡ Ok n)) → v ≡ u
