-- What the number that an exported call returns says: whether the call is accepted.
use Rattle.std.specs.Prelude.{ℕ, ◌≤◌, ◌≡◌, ◌↔◌, List, [], ◌∷◌, length}
use Rattle.catalogue.specs.Outcome.{Outcome, accepted}
use Rattle.catalogue.specs.Checks.{checked}
use Rattle.classification.specs.Classified.{classify_checks}
use Rattle.change_contract.specs.Edits.{lend, asked}
use Rattle.read_checks.specs.Checks.{read_checks, list_checks}
use Rattle.writing.specs.Write.{write_checks}
use Rattle.replies.specs.Check.{CheckExported}
use Rattle.replies.specs.Classify.{ClassifyExported}
use Rattle.replies.specs.Change.{ChangeExported}
use Rattle.replies.specs.Lookups.{LookupExported, ListExported, RowExported}
use Rattle.replies.specs.Write.{WriteExported}

-- 0 exactly if the answer has four entries and every question is answered yes.
abbrev pub ZeroExactly : (answer : List ℕ) (o : Outcome) (r : ℕ) → Type 0
ZeroExactly answer o r = (r ≡ 0) ↔ ((4 ≤ length answer) × (o ≡ accepted))

-- So of every call, whatever it is lent.
pub record ZeroIfAccepted : Type 0 where
  pub check : (b answer : List ℕ) (r : ℕ) (answer' : List ℕ) → CheckExported b answer r answer' → ZeroExactly answer (checked b) r
  pub classify : (b store work answer : List ℕ) (r : ℕ) (store' work' answer' : List ℕ) → ClassifyExported b store work answer r store' work' answer'
      → ZeroExactly answer (classify_checks b (length store) (length work)) r
  pub change : (b withdrawn added store work list answer : List ℕ) (r : ℕ) (store' work' list' answer' : List ℕ)
      → ChangeExported b withdrawn added store work list answer r store' work' list' answer' → ZeroExactly answer (asked b withdrawn added (lend store work list)) r
  pub lookup : (b : List ℕ) (c d : ℕ) (store answer : List ℕ) (r : ℕ) (answer' : List ℕ) → LookupExported b c d store answer r answer'
      → ZeroExactly answer (read_checks b (c ∷ d ∷ []) store) r
  pub list : (b : List ℕ) (d : ℕ) (store list answer : List ℕ) (r : ℕ) (list' answer' : List ℕ) → ListExported b d store list answer r list' answer'
      → ZeroExactly answer (list_checks b (d ∷ []) store (length list)) r
  pub row : (b : List ℕ) (c : ℕ) (store answer : List ℕ) (r : ℕ) (answer' : List ℕ) → RowExported b c store answer r answer'
      → ZeroExactly answer (read_checks b (c ∷ []) store) r
  pub write : (b store output answer : List ℕ) (r : ℕ) (output' answer' : List ℕ) → WriteExported b store output answer r output' answer'
      → ZeroExactly answer (write_checks b store (length output)) r
