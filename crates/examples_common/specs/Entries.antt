-- What the worked examples say of a set of axioms, and of a change: counts, rows and lists, about the defined sets.
use Rattle.std.specs.Prelude.{ℕ, ◌≡◌, ◌↔◌, Bool, true, get_or}
use mathlib.Core.List.{List, Memᴰ}
use Rattle.catalogue.specs.Header.{concepts}
use Rattle.derivation.specs.Tables.{has}
use Rattle.rules.specs.Rules.{Expression, pair, Closure}
use Rattle.rules.specs.Counts.{Size, Pairs, Links}
use Rattle.rules.specs.Changes.{OverDeleted, BrokenPartition, NewSet, ReturnedSet, GainedSet, GainingPartition, TouchedPartition}
use Rattle.change_contract.specs.Edits.{Members}

-- The pair rows of a set: bit d of row c, counted from the lowest, says whether C⊑D is a member.
abbrev pub Rows : (Expression → Type 0) → List ℕ → Type 0
Rows S rows = (c d : ℕ) → (has (get_or rows c 0) d ≡ true) ↔ S (pair c d)

-- The least set of F has so many pairs and links, and these pair rows.
pub record Classified (b : List ℕ) (F : ℕ → ℕ → Bool) (pairs links : ℕ) (rows : List ℕ) : Type 0 where
  pub pairs_right : Size b (Pairs (Closure b F)) pairs
  pub links_right : Size b (Links (Closure b F)) links
  pub rows_right : Rows (Closure b F) rows

-- The change from F to G of the least set of F: the three counts, the broken partitions, those that gained, the touched ones, rising, and the set after it.
pub record Changed (b : List ℕ) (F G : ℕ → ℕ → Bool) (removed returned gained : ℕ) (broken gaining touched : List ℕ) : Type 0 where
  pub removed-right : Size b (OverDeleted b F G (Closure b F)) removed
  pub returned-right : Size b (ReturnedSet b F G (Closure b F)) returned
  pub gained-right : Size b (GainedSet b F G (Closure b F)) gained
  pub broken_right : (c : ℕ) → Memᴰ c broken ↔ BrokenPartition b F G (Closure b F) c
  pub gaining_right : (c : ℕ) → Memᴰ c gaining ↔ GainingPartition b F G (Closure b F) c
  pub touched_right : Members (concepts b) (TouchedPartition b F G (Closure b F)) touched
  pub after : (e : Expression) → NewSet b F G (Closure b F) e ↔ Closure b G e
