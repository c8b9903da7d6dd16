-- What the answers say of atomic kinds, which occur with axioms or without, and what is left for 19 (document 02, Two).
use Rattle.std.specs.Prelude.{ℕ, ◌*◌, ◌≤◌, ◌<◌, ◌≡◌, Bool, ◌↔◌, ◌⊎◌, List, length, Result, Ok, Err, true, false}
use Rattle.catalogue.specs.declared.checks.Refusal.{Refusal}
use Rattle.catalogue.specs.Verdicts.{refusal}
use Rattle.catalogue.specs.Header.{concepts}
use Rattle.catalogue.specs.Records.{kind}
use Rattle.catalogue.specs.Words.{word}
use Rattle.rules.specs.Occurrence.{Atomic, Occurs}
use Rattle.rules.specs.Models.{Entails, Refuted}
use Rattle.lookups.specs.Answers.{looked_up}
use Rattle.lookups.specs.Listings.{Lists}
use Rattle.row_parts.specs.Rows.{row_answer}

-- Record c is a top or a composite, and does not occur.
abbrev pub Absent : List ℕ → (ℕ → ℕ → Bool) → ℕ → Type 0
Absent b F c = (c < concepts b) × ¬ (kind b c ≡ 0) × ¬ (Occurs b F c)

-- Of a store, by the axioms F in force.
pub record AtomicMeans (b : List ℕ) (F : ℕ → ℕ → Bool) (store : List ℕ) : Type 0 where
  -- "A yes or no now means what it meant for any atomic kind as well": a lookup of two of them is answered, and so never refused by 19.
  pub yes_means : (c d : ℕ) → Atomic b c → Atomic b d → (looked_up b c d store ≡ Ok true) ↔ Entails b F c d
  pub no_means : (c d : ℕ) → Atomic b c → Atomic b d → (looked_up b c d store ≡ Ok false) ↔ Refuted b F c d
  pub answers : (c d : ℕ) → Atomic b c → Atomic b d → (looked_up b c d store ≡ Ok true) ⊎ (looked_up b c d store ≡ Ok false)
  -- A listing under one, with a list that is long enough, has the kind itself among its entries.
  pub lists_itself : (d : ℕ) → Atomic b d → (list : List ℕ) (r : Result ℕ Refusal) (after : List ℕ) → Lists b d store list r after → 2 * concepts b ≤ length list
      → (k : ℕ) × (r ≡ Ok k) × (i : ℕ) × (i < k) × (word after (2 * i) ≡ d)
  -- "19 and demand 1's refusal stay for those that don't occur": exactly where a top or a composite doesn't.
  pub lookup_absent : (c d : ℕ) → (looked_up b c d store ≡ Err (refusal 19 0)) ↔ ((c < concepts b) × (d < concepts b) × (Absent b F c ⊎ Absent b F d))
  pub listing_absent : (d : ℕ) (list : List ℕ) (r : Result ℕ Refusal) (after : List ℕ) → Lists b d store list r after
      → (r ≡ Err (refusal 19 0)) ↔ ((2 * concepts b ≤ length list) × Absent b F d)
  pub row_absent : (c : ℕ) → (row_answer b c store ≡ Err (refusal 19 0)) ↔ Absent b F c
