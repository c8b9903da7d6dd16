-- What acceptance by questions 1 to 9 gives: the facts that every later layer uses.
use Rattle.std.specs.Prelude.{ℕ, suc, ◌+◌, ◌*◌, ◌≤◌, ◌<◌, ◌≡◌, ◌⊎◌, List, length}
use Rattle.catalogue.specs.Header.{concepts, roles, inclusions, compositions, axioms, concepts_at, inclusions_at, compositions_at, axioms_at}
use Rattle.catalogue.specs.Records.{kind, first, second, within, around, role1, role2, result, left, right}

-- Counts in their limits, sections one after the other, kinds, parts, roles and sides in range, axioms strictly rising.
pub record WellFormed (b : List ℕ) : Type 0 where
  pub some_concept : 1 ≤ concepts b
  pub concepts_limit : concepts b ≤ 512
  pub roles_limit : roles b ≤ 16
  pub inclusions_limit : inclusions b ≤ 64
  pub compositions_limit : compositions b ≤ 64
  pub axioms_limit : axioms b ≤ 4096
  pub concepts_start : concepts_at b ≡ 20
  pub inclusions_start : inclusions_at b ≡ 20 + 6 * concepts b
  pub compositions_start : compositions_at b ≡ inclusions_at b + 4 * inclusions b
  pub axioms_start : axioms_at b ≡ compositions_at b + 6 * compositions b
  pub whole : length b ≡ axioms_at b + 4 * axioms b
  pub kinds : (i : ℕ) → i < concepts b → kind b i ≤ 3
  pub atomic : (i : ℕ) → i < concepts b → kind b i ≤ 1 → (first b i ≡ 0) × (second b i ≡ 0)
  pub conjuncts : (i : ℕ) → i < concepts b → kind b i ≡ 2 → (first b i < i) × (second b i < i)
  pub existential : (i : ℕ) → i < concepts b → kind b i ≡ 3 → (first b i < roles b) × (second b i < i)
  pub inclusion : (k : ℕ) → k < inclusions b → (within b k < roles b) × (around b k < roles b)
  pub composition : (k : ℕ) → k < compositions b → (role1 b k < roles b) × (role2 b k < roles b) × (result b k < roles b)
  pub sides : (k : ℕ) → k < axioms b → (left b k < concepts b) × (right b k < concepts b)
  pub rising : (k : ℕ) → suc k < axioms b → (left b k < left b (suc k)) ⊎ ((left b k ≡ left b (suc k)) × (right b k < right b (suc k)))
