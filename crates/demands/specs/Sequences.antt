-- Classify and change in a row on one store (document 01, Edits in a row; document 02, request Four): what it is for a list of calls to have run, the axioms
-- in force by the calls' arguments alone (document 01: the book), and demand 3, one claim about every such list.
use Rattle.std.specs.Prelude.{ℕ, ◌≤◌, ◌<◌, ◌≡◌, Bool, true, ◌⊎◌, length, take, drop, Result}
use Rattle.std.proofs.Math.Decide.{ℕ_discrete}
use mathlib.Core.List.{List, [], ◌∷◌, ◌++◌, map, Memᴰ, List-discrete}
use Rattle.catalogue.specs.declared.checks.Refusal.{Refusal}
use Rattle.catalogue.specs.Header.{concepts, roles}
use Rattle.catalogue.specs.Outcome.{Outcome, accepted, refused}
use Rattle.rules.specs.Axioms.{Axioms, catalogue_axioms, none}
use Rattle.rules.specs.Rules.{Closure}
use Rattle.rules.specs.Changes.{TouchedPartition}
use Rattle.layout.specs.Parts.{used, pair_row_at, link_row_at, row_at}
use Rattle.store.specs.Fresh.{Fresh}
use Rattle.store.specs.Written.{written}
use Rattle.number_lists.specs.Lists.{with_front}
use Rattle.classification.specs.Classified.{classify_checks, Classifies, outcome_of as classifyOutcome}
use Rattle.classification.specs.declared.Classified.{Classified}
use Rattle.change_contract.specs.Answers.{outcome_of as changeOutcome}
use Rattle.change_contract.specs.Lists.{edited}
use Rattle.change_contract.specs.Questions.{Lengths, change_checks}
use Rattle.change_contract.specs.Edits.{Effects, Lent, lend, lengths, Edits}
use Rattle.change_contract.specs.declared.Changed.{Changed}
use Rattle.demands.specs.Afresh.{ClassifiesAfresh, ClassifiesAlike}

-- ---- calls

-- Classify, or a change that withdraws the axioms of `withdrawn` and adds those of `added`.
pub data Request : Type 0 where
  classify : Request
  change : (withdrawn added : List ℕ) → Request

-- The arguments of a call: its lists of axioms, the catalogue, and of each buffer its length alone; and the byte of the store at which the part begins that
-- it is lent, which no question reads.
pub record Call : Type 0 where
  pub request : Request
  pub catalogue : List ℕ
  pub lent : Lengths
  pub from : ℕ

pub data Answer : Type 0 where
  classified : Result Classified Refusal → Answer
  changed : Result Changed Refusal → Answer

abbrev pub outcome_of : Answer → Outcome
outcome_of (classified a) = classifyOutcome a
outcome_of (changed a) = changeOutcome a

-- A call with what it was lent besides the store, what it answered, and what it left in each buffer.
pub record Turn : Type 0 where
  pub call : Call
  pub work : List ℕ
  pub list : List ℕ
  pub answer : Answer
  pub work_after : List ℕ
  pub list_after : List ℕ
  pub store_after : List ℕ

-- ---- the list

-- A call met its own contract. Classify is lent no list.
pub data Meets (b : List ℕ) (u v : Lent) : Request → Answer → Type 0 where
  classifies : {a : Result Classified Refusal} → Classifies b u.store u.work a v.store v.work → Meets b u v classify (classified a)
  changes : {withdrawn added : List ℕ} {a : Result Changed Refusal} → Edits b withdrawn added u a v → Meets b u v (change withdrawn added) (changed a)

-- The part of the store that a call is lent, as long as it says.
abbrev pub lent_to : Turn → List ℕ → Lent
lent_to t store = lend (take t.call.lent.store (drop t.call.from store)) t.work t.list

-- From its front; or any part that is too short for the call's catalogue.
abbrev pub FrontOrShort : Call → Type 0
FrontOrShort c = (c.from ≡ 0) ⊎ (c.lent.store < used c.catalogue)

-- A turn with this store before it: what is lent is as long as the call says, the call met its contract, and the rest of the store stays.
pub record RunsOn (store : List ℕ) (t : Turn) : Type 0 where
  pub lent_is : lengths (lent_to t store) ≡ t.call.lent
  pub part : FrontOrShort t.call
  pub part_after : List ℕ
  pub contract : Meets t.call.catalogue (lent_to t store) (lend part_after t.work_after t.list_after) t.call.request t.answer
  pub store_is : t.store_after ≡ take t.call.from store ++ (part_after ++ drop t.call.lent.store (drop t.call.from store))

-- Turns in a row from one store to another, each with the store as the one before left it.
pub data Ran : List ℕ → List Turn → List ℕ → Type 0 where
  nothing : {store : List ℕ} → Ran store [] store
  first : {store last : List ℕ} {t : Turn} {ts : List Turn} → RunsOn store t → Ran t.store_after ts last → Ran store (t ∷ ts) last

-- Every accepted call among these turns got catalogue b.
abbrev pub AcceptedWith : List ℕ → List Turn → Type 0
AcceptedWith b ts = (x : Turn) → Memᴰ x ts → outcome_of x.answer ≡ accepted → x.call.catalogue ≡ b

-- A list as in demand 3, turn t and then ts: it begins with an accepted classify on a store of any content, and every accepted call got catalogue b. A
-- refused one may have come with any.
pub record Sequence (b store : List ℕ) (t : Turn) (ts : List Turn) (last : List ℕ) : Type 0 where
  pub ran : Ran store (t ∷ ts) last
  pub begins : t.call.request ≡ classify
  pub begins_accepted : outcome_of t.answer ≡ accepted
  pub one_catalogue : AcceptedWith b (t ∷ ts)

-- ---- the axioms in force by arguments alone

-- A call's questions, with 13 and 14 passed, and 16 to 18 asked of F.
unfoldable pub questions : Request → List ℕ → Lengths → Axioms → Outcome
questions classify b lent F = classify_checks b lent.store lent.work
questions (change withdrawn added) b lent F = change_checks b withdrawn added lent true true F

-- The axioms that it puts in force, accepted.
unfoldable pub puts : Request → List ℕ → Axioms → Axioms
puts classify b F = catalogue_axioms b
puts (change withdrawn added) b F = edited F withdrawn added

-- With catalogue b a call is asked its questions; with another it is refused, and nothing says by which.
pub data Expected : Type 0 where
  asked : Outcome → Expected
  other_catalogue : Expected

unfoldable pub expected_by : {A : Type 0} → Dec A → Outcome → Expected
expected_by (yes same) o = asked o
expected_by (no other) o = other_catalogue

unfoldable pub expected : List ℕ → Axioms → Call → Expected
expected b F c = expected_by (List-discrete ℕ_discrete c.catalogue b) (questions c.request b c.lent F)

-- Accepted, G; refused, F stays.
unfoldable pub after_by : Expected → (F G : Axioms) → Axioms
after_by (asked accepted) F G = G
after_by (asked (refused number at)) F G = F
after_by other_catalogue F G = F

-- The axioms in force after a call, and after calls in a row.
unfoldable pub after_call : List ℕ → Axioms → Call → Axioms
after_call b F c = after_by (expected b F c) F (puts c.request b F)

unfoldable pub after_calls : List ℕ → Axioms → List Call → Axioms
after_calls b F [] = F
after_calls b F (c ∷ cs) = after_calls b (after_call b F c) cs

-- The calls of some turns.
abbrev pub calls_of : List Turn → List Call
calls_of ts = map (λ (t : Turn). t.call) ts

-- After the calls of a list: none are in force before it.
unfoldable pub in_force_after : List ℕ → List Turn → Axioms
in_force_after b ts = after_calls b none (calls_of ts)

-- ---- what holds of the list

-- The answer is as expected: by the same number and record with catalogue b, and some refusal with another.
pub data Agrees : Expected → Outcome → Type 0 where
  same : {o : Outcome} → Agrees (asked o) o
  refuses : {number at : ℕ} → Agrees other_catalogue (refused number at)

-- Concept c has the same rows, of pairs as of links.
pub record SameRows (b : List ℕ) (c : ℕ) (store store' : List ℕ) : Type 0 where
  pub pairs : row_at b store' (pair_row_at b c) ≡ row_at b store (pair_row_at b c)
  pub links : (r : ℕ) → r < roles b → row_at b store' (link_row_at b c r) ≡ row_at b store (link_row_at b c r)

-- An accepted change from F to G: it has the effects of the change on the least set of F, its list has the names of exactly the touched concepts, rising, and
-- every other concept's rows are the same after as before.
pub record Changes (b : List ℕ) (F G : ℕ → ℕ → Bool) (store : List ℕ) (t : Turn) : Type 0 where
  pub answer : Result Changed Refusal
  pub names : List ℕ
  pub answer_is : t.answer ≡ changed answer
  pub effects : Effects b F G (Closure b F) names answer
  pub list_is : t.list_after ≡ with_front names t.list
  pub others : (c : ℕ) → c < concepts b → ¬ (TouchedPartition b F G (Closure b F) c) → SameRows b c store t.store_after

-- A turn with F in force before it.
pub record Correct (b : List ℕ) (F : ℕ → ℕ → Bool) (store : List ℕ) (t : Turn) : Type 0 where
  pub agrees : Agrees (expected b F t.call) (outcome_of t.answer)
  pub keeps : (number at : ℕ) → outcome_of t.answer ≡ refused number at → t.store_after ≡ store
  pub rest : drop (used b) t.store_after ≡ drop (used b) store
  pub fresh : Fresh b (after_call b F t.call) t.store_after
  pub changes : (withdrawn added : List ℕ) → t.call.request ≡ change withdrawn added → outcome_of t.answer ≡ accepted → Changes b F (edited F withdrawn added) store t

-- Each turn in a row.
pub data AllCorrect (b : List ℕ) : (ℕ → ℕ → Bool) → List ℕ → List Turn → Type 0 where
  nothing : {F : ℕ → ℕ → Bool} {store : List ℕ} → AllCorrect b F store []
  first : {F : ℕ → ℕ → Bool} {store : List ℕ} {t : Turn} {ts : List Turn} → Correct b F store t → AllCorrect b (after_call b F t.call) t.store_after ts
      → AllCorrect b F store (t ∷ ts)

-- Every byte of the used part equals that of a store classified afresh from F, and that of the store that classify leaves when lent the catalogue with F as
-- its axioms.
pub record ClassifiedAfresh (b : List ℕ) (F : ℕ → ℕ → Bool) (store : List ℕ) : Type 0 where
  pub fresh : Fresh b F store
  pub bytes : (other : List ℕ) → Fresh b F other → take (used b) store ≡ take (used b) other
  pub classifies : ClassifiesAfresh b F (written b F)
  pub alike : ClassifiesAlike b store (written b F)

-- Demand 3: "For every list of classify, add and withdraw calls, refused ones included, under one catalogue, that begins with an accepted classify on a store
-- of any content, each later call getting the store as the last one left it" (`Sequence`): "after the list, every byte of the store's used part equals that
-- of a store classified afresh from the axioms then in force" (`ClassifiedAfresh`). And document 02, request Four: "In demand 3 this change takes the place of
-- add and withdraw: accepted, F loses the one list's axioms and gains the other's" (`puts`); "every list of classify and such changes still leaves the freshly
-- classified store, and each accepted change names exactly the touched, every other concept's rows of pairs and of links staying the same" (`Changes` in
-- `AllCorrect`).
abbrev pub DemandThree : Type 0
DemandThree =
    (b store : List ℕ) (t : Turn) (ts : List Turn) (last : List ℕ) → Sequence b store t ts last
    → AllCorrect b none store (t ∷ ts) × ClassifiedAfresh b (in_force_after b (t ∷ ts)) last

-- P of every front of a store that is long enough, the whole among them: what a later call is lent.
abbrev pub EachFront : List ℕ → List ℕ → (List ℕ → Type 0) → Type 0
EachFront b store P = (k : ℕ) → used b ≤ length (take k store) → P (take k store)

-- After every such list: P of the catalogue, of the axioms F then in force, and of the store that is left, or a front of it.
abbrev pub AfterCalls : (List ℕ → Axioms → List ℕ → Type 0) → Type 0
AfterCalls P =
    (b store : List ℕ) (t : Turn) (ts : List Turn) (last : List ℕ) → Sequence b store t ts last → (F : Axioms) → F ≡ in_force_after b (t ∷ ts)
    → EachFront b last (P b F)
