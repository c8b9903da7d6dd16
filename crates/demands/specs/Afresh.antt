-- Classified afresh by the call itself (document 01, Edits in a row): classify leaves just what is meant when lent the catalogue with F as its axioms.
use Rattle.std.specs.Prelude.{ℕ, ◌≤◌, ◌≡◌, Bool, List, length, take, Result}
use Rattle.catalogue.specs.declared.checks.Refusal.{Refusal}
use Rattle.catalogue.specs.Outcome.{accepted}
use Rattle.catalogue.specs.Checks.{checked}
use Rattle.rules.specs.Axioms.{InRange}
use Rattle.layout.specs.Parts.{used, work_used}
use Rattle.store.specs.Fresh.{Fresh}
use Rattle.store.specs.Written.{axiom_count, written}
use Rattle.classification.specs.Classified.{classify_checks, Classifies}
use Rattle.classification.specs.declared.Classified.{Classified}

-- Catalogue w in place of b: it asks for buffers as long as b does and is accepted with them, and classify of it leaves a store that is fresh
-- for F under b.
pub record ClassifiesAfresh (b : List ℕ) (F : ℕ → ℕ → Bool) (w : List ℕ) : Type 0 where
  pub same_used : used w ≡ used b
  pub same_work : work_used w ≡ work_used b
  pub accepts : (store_length work_length : ℕ) → used b ≤ store_length → work_used b ≤ work_length → classify_checks w store_length work_length ≡ accepted
  pub leaves : (store work : List ℕ) (answer : Result Classified Refusal) (store' work' : List ℕ)
      → used b ≤ length store → work_used b ≤ length work → Classifies w store work answer store' work' → Fresh b F store'

-- Classified afresh from F: classify leaves just this when lent the catalogue with F as its axioms (document 01, Edits in a row).
abbrev pub FreshByClassify : Type 0
FreshByClassify =
    (b : List ℕ) (F : ℕ → ℕ → Bool) → checked b ≡ accepted → InRange b F → axiom_count b F ≤ 4096 → ClassifiesAfresh b F (written b F)

-- Classify of w, with a store and a work space of any content that are long enough, leaves the used part of this store.
abbrev pub ClassifiesAlike : (b store w : List ℕ) → Type 0
ClassifiesAlike b left w =
    (store work : List ℕ) (answer : Result Classified Refusal) (store' work' : List ℕ)
    → used b ≤ length store → work_used b ≤ length work → Classifies w store work answer store' work' → take (used b) store' ≡ take (used b) left
