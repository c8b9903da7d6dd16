-- The catalogue with other axioms in it, count and total to match (document 01, Edits in a row).
use Rattle.std.specs.Prelude.{ℕ, zero, suc, ◌+◌, ◌*◌, ◌/◌, ◌%◌, ◌<◌, ◌≡◌, Bool, true, false, List, [], ◌∷◌, ◌++◌, take, set}
use Rattle.catalogue.specs.Words.{bytes_of}
use Rattle.catalogue.specs.Header.{concepts, roles, inclusions, compositions, axioms_at}
use Rattle.catalogue.specs.Records.{kind, first, second, within, around, role1, role2, result}
use Rattle.rows.specs.Bits.{count_below}
use Rattle.rules.specs.Axioms.{Axioms}

-- The numbers below k that pass a test, rising.
unfoldable pub rising : (ℕ → Bool) → ℕ → List ℕ
rising test zero = []
rising test (suc k) = elim (test k) [ true ↦ rising test k ++ (k ∷ []) | false ↦ rising test k ]

-- Axiom (c, d) under the number c · n + d: they rise by left, then right.
unfoldable pub numbered : ℕ → Axioms → ℕ → Bool
numbered n F p = F (p / n) (p % n)

-- How many axioms F has.
unfoldable pub axiom_count : List ℕ → Axioms → ℕ
axiom_count b F = count_below (numbered (concepts b) F) (concepts b * concepts b)

-- The sides of the axioms with the given numbers, left and right in turn.
unfoldable pub sides_of : ℕ → List ℕ → List ℕ
sides_of n [] = []
sides_of n (p ∷ ps) = p / n ∷ p % n ∷ sides_of n ps

-- The axiom records of F: strictly rising by left, then right, two numbers each.
unfoldable pub axiom_records : List ℕ → Axioms → List ℕ
axiom_records b F = bytes_of (sides_of (concepts b) (rising (numbered (concepts b) F) (concepts b * concepts b)))

-- The bytes with the number x at byte i.
unfoldable pub set_word : List ℕ → ℕ → ℕ → List ℕ
set_word b i x = set (set b i (x % 256)) (i + 1) (x / 256)

-- The header with total and count of axioms replaced, the records before the axioms as they are, and then the axioms of F.
unfoldable pub written : List ℕ → Axioms → List ℕ
written b F =
    set_word (set_word (take (axioms_at b) b) 0 (axioms_at b + 4 * axiom_count b F)) 10 (axiom_count b F) ++ axiom_records b F

-- Two catalogues have the same records but for their axioms: what the rules read of them is the same.
pub record SameRecords (b b' : List ℕ) : Type 0 where
  pub concepts_same : concepts b' ≡ concepts b
  pub roles_same : roles b' ≡ roles b
  pub inclusions_same : inclusions b' ≡ inclusions b
  pub compositions_same : compositions b' ≡ compositions b
  pub kind_same : (i : ℕ) → i < concepts b → kind b' i ≡ kind b i
  pub first_same : (i : ℕ) → i < concepts b → first b' i ≡ first b i
  pub second_same : (i : ℕ) → i < concepts b → second b' i ≡ second b i
  pub within_same : (k : ℕ) → k < inclusions b → within b' k ≡ within b k
  pub around_same : (k : ℕ) → k < inclusions b → around b' k ≡ around b k
  pub role1_same : (k : ℕ) → k < compositions b → role1 b' k ≡ role1 b k
  pub role2_same : (k : ℕ) → k < compositions b → role2 b' k ≡ role2 b k
  pub result_same : (k : ℕ) → k < compositions b → result b' k ≡ result b k
