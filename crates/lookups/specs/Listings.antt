-- Listing under D: the answer and the list (document 01, Changes, last paragraph).
use Rattle.std.specs.Prelude.{ℕ, ◌≡◌, Bool, ◌&&◌, List, [], ◌∷◌, eqb, length, Result, Ok, Err}
use Rattle.catalogue.specs.Header.{concepts}
use Rattle.catalogue.specs.Records.{kind}
use Rattle.catalogue.specs.Outcome.{Outcome, accepted, refused}
use Rattle.catalogue.specs.Verdicts.{refusal}
use Rattle.catalogue.specs.declared.checks.Refusal.{Refusal}
use Rattle.store.specs.Says.{says}
use Rattle.store.specs.Written.{rising}
use Rattle.number_lists.specs.Lists.{with_front}
use Rattle.read_checks.specs.Checks.{list_checks}

-- C is atomic, and the store says C⊑D.
unfoldable pub atomic_under : (b store : List ℕ) (d c : ℕ) → Bool
atomic_under b store d c = eqb (kind b c) 0 && says b store c d

-- The atomic concepts under D, rising.
unfoldable pub kinds_under : (b : List ℕ) (d : ℕ) (store : List ℕ) → List ℕ
kinds_under b d store = rising (atomic_under b store d) (concepts b)

-- `Ok k`: every question is answered yes, and k concepts are listed.
-- `Err e`: question `e.number` is answered no, and record `e.at` is at fault (0 where none is named).
abbrev pub list_outcome : Result ℕ Refusal → Outcome
list_outcome (Ok k) = accepted
list_outcome (Err e) = refused e.number e.at

-- The answer by the outcome of the questions.
abbrev pub listed : Outcome → List ℕ → Result ℕ Refusal
listed accepted names = Ok (length names)
listed (refused number at) names = Err (refusal number at)

-- The list afterwards: refused, it keeps its bytes.
abbrev pub list_after : Outcome → (names list : List ℕ) → List ℕ
list_after accepted names list = with_front names list
list_after (refused number at) names list = list

-- The answer r and the list after a call of listing under D.
pub record Lists (b : List ℕ) (d : ℕ) (store list : List ℕ) (r : Result ℕ Refusal) (after : List ℕ) : Type 0 where
  pub answer : r ≡ listed (list_checks b (d ∷ []) store (length list)) (kinds_under b d store)
  pub entries : after ≡ list_after (list_checks b (d ∷ []) store (length list)) (kinds_under b d store) list
