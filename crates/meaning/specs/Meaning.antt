-- What the answers mean by the axioms in force F, in every finite interpretation (demands 1 and 2).
use Rattle.std.specs.Prelude.{ℕ, suc, ◌*◌, ◌≤◌, ◌<◌, ◌≡◌, Bool, true, false, ◌↔◌, ◌⊎◌, List, [], length, get_or, Result, Ok, Err}
use Rattle.row_parts.specs.declared.Place.{Place}
use Rattle.row_parts.specs.Rows.{placed}
use Rattle.catalogue.specs.declared.checks.Refusal.{Refusal}
use Rattle.catalogue.specs.Verdicts.{refusal}
use Rattle.catalogue.specs.Header.{concepts}
use Rattle.catalogue.specs.Records.{kind}
use Rattle.catalogue.specs.Words.{word}
use Rattle.rows.specs.Bits.{bit}
use Rattle.rules.specs.Occurrence.{Occurs}
use Rattle.rules.specs.Models.{Entails, Refuted}
use Rattle.layout.specs.Parts.{width, pair_row_at}
use Rattle.number_lists.specs.Lists.{with_front}

-- A lookup of C and D: yes exactly if both occur and C lies within D in every finite interpretation, no exactly if both occur and one refutes
-- it, 19 exactly if both are concepts and one does not occur, 15 exactly if one is no concept. There is no other answer.
pub record LookupMeans (b : List ℕ) (F : ℕ → ℕ → Bool) (c d : ℕ) (r : Result Bool Refusal) : Type 0 where
  pub yes_means : (r ≡ Ok true) ↔ (Occurs b F c × Occurs b F d × Entails b F c d)
  pub no_means : (r ≡ Ok false) ↔ (Occurs b F c × Occurs b F d × Refuted b F c d)
  pub absent : (r ≡ Err (refusal 19 0)) ↔ ((c < concepts b) × (d < concepts b) × ¬ (Occurs b F c × Occurs b F d))
  pub outside : (r ≡ Err (refusal 15 0)) ↔ ¬ ((c < concepts b) × (d < concepts b))
  pub one_of : (r ≡ Ok true) ⊎ ((r ≡ Ok false) ⊎ ((r ≡ Err (refusal 19 0)) ⊎ (r ≡ Err (refusal 15 0))))

-- C is one of the names.
abbrev pub Among : List ℕ → ℕ → Type 0
Among names c = (i : ℕ) × (i < length names) × (get_or names i 0 ≡ c)

-- C is an atomic kind that occurs and lies under D in every finite interpretation.
abbrev pub KindUnder : (b : List ℕ) → (ℕ → ℕ → Bool) → (d c : ℕ) → Type 0
KindUnder b F d c = (kind b c ≡ 0) × Occurs b F c × Entails b F c d

-- A listing under D with a list of so many bytes, where the names are listed: accepted exactly if the list is long enough and D occurs; the
-- names are then exactly the atomic kinds that occur and lie under D in every finite interpretation, so that an empty list comes only where
-- there is none. 12 exactly if the list is too short, 15 exactly if it is not and D is no concept, 19 exactly if D is one and does not occur.
pub record ListingMeans (b : List ℕ) (F : ℕ → ℕ → Bool) (d long : ℕ) (r : Result ℕ Refusal) (names : List ℕ) : Type 0 where
  pub counts : (2 * concepts b ≤ long) → Occurs b F d → r ≡ Ok (length names)
  pub exact : Occurs b F d → (c : ℕ) → Among names c ↔ KindUnder b F d c
  pub empty : (r ≡ Ok 0) ↔ ((2 * concepts b ≤ long) × Occurs b F d × ((c : ℕ) → ¬ (KindUnder b F d c)))
  pub short : (r ≡ Err (refusal 12 0)) ↔ ¬ (2 * concepts b ≤ long)
  pub outside : (r ≡ Err (refusal 15 0)) ↔ ((2 * concepts b ≤ long) × ¬ (d < concepts b))
  pub absent : (r ≡ Err (refusal 19 0)) ↔ ((2 * concepts b ≤ long) × (d < concepts b) × ¬ (Occurs b F d))

-- A listing under D by the axioms F, with its list before and after, where the names are listed: they rise. Accepted, they stand in front, two bytes
-- each, and what is past them stays: the entries are exactly the atomic kinds that occur and lie under D. Refused, the list keeps its bytes.
pub record ListingFinds (b : List ℕ) (F : ℕ → ℕ → Bool) (d : ℕ) (names list : List ℕ) (r : Result ℕ Refusal) (after : List ℕ) : Type 0 where
  pub means : ListingMeans b F d (length list) r names
  pub rises : (i : ℕ) → suc i < length names → get_or names i 0 < get_or names (suc i) 0
  pub front : (k : ℕ) → r ≡ Ok k → (k ≡ length names) × (after ≡ with_front names list)
  pub entries : (k : ℕ) → r ≡ Ok k → (c : ℕ) → ((i : ℕ) × (i < k) × (word after (2 * i) ≡ c)) ↔ KindUnder b F d c
  pub keeps : (number at : ℕ) → r ≡ Err (refusal number at) → after ≡ list

-- The row of C by the axioms F: handed out exactly if C occurs. Its bit D is set exactly where C lies within D in every finite interpretation, and
-- clear exactly where one refutes it, for D that occurs; for any other D it is clear. 19 exactly if C is a concept and does not occur, 15 exactly
-- if it is none; the part is then empty.
pub record RowMeans (b : List ℕ) (F : ℕ → ℕ → Bool) (c : ℕ) (answer : Result Place Refusal) (part : List ℕ) : Type 0 where
  pub hands_out : (answer ≡ Ok (placed (pair_row_at b c) (width b))) ↔ Occurs b F c
  pub bits : Occurs b F c → (d : ℕ) → Occurs b F d → ((bit part d ≡ true) ↔ Entails b F c d) × ((bit part d ≡ false) ↔ Refuted b F c d)
  pub others : (d : ℕ) → ¬ (Occurs b F d) → bit part d ≡ false
  pub absent : (answer ≡ Err (refusal 19 0)) ↔ ((c < concepts b) × ¬ (Occurs b F c))
  pub outside : (answer ≡ Err (refusal 15 0)) ↔ ¬ (c < concepts b)
  pub empty : ¬ (Occurs b F c) → part ≡ []
