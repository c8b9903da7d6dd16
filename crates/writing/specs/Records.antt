-- Axiom records written one after the other: those of the numbers below p that pass a test stand from `start` on.
use Rattle.std.specs.Prelude.{ℕ, ◌+◌, ◌*◌, ◌/◌, ◌%◌, ◌≤◌, ◌<◌, ◌≡◌, Bool, List, ◌++◌, length, take}
use Rattle.catalogue.specs.Words.{bytes_of}
use Rattle.catalogue.specs.Header.{axioms_at}
use Rattle.rows.specs.Bits.{bit, count_below, place}
use Rattle.layout.specs.Parts.{Clear, in_force}
use Rattle.store.specs.Written.{rising, sides_of, axiom_count}

-- After `head` stand the records of the numbers below p that pass the test, up to `at`.
pub record Recorded (n : ℕ) (test : ℕ → Bool) (p : ℕ) (head out : List ℕ) (at : ℕ) : Type 0 where
  pub ends : at ≡ length head + 4 * length (rising test p)
  pub bytes : take at out ≡ head ++ bytes_of (sides_of n (rising test p))

-- A row of right sides for one left side, and room for its records.
pub record RowFits (row : List ℕ) (n left : ℕ) (out : List ℕ) (start : ℕ) : Type 0 where
  pub row_short : length row ≤ 1048576
  pub number_fits : n ≤ 65536
  pub left_below : left < n
  pub room : start + 4 * count_below (bit row) n ≤ length out

-- Its records are written after what stands there.
pub record WritesRow (row : List ℕ) (n left : ℕ) (out : List ℕ) (start : ℕ) (out' : List ℕ) (at : ℕ) : Type 0 where
  pub long : length out' ≡ length out
  pub ends : at ≡ start + 4 * count_below (bit row) n
  pub recorded : (test : ℕ → Bool) (head : List ℕ) → ((d : ℕ) → d < n → test (left * n + d) ≡ bit row d) → Recorded n test (left * n) head out start → Recorded n test (left * n + n) head out' at

-- n rows of w bytes by left side, and room for their records. Number c · n + d is the axiom (c, d).
abbrev pub in_rows : (rows : List ℕ) (n w : ℕ) → ℕ → Bool
in_rows rows n w p = bit rows (place w (p / n) (p % n))

pub record TableFits (rows : List ℕ) (n w : ℕ) (out : List ℕ) (start : ℕ) : Type 0 where
  pub some : 1 ≤ n
  pub small : n ≤ 512
  pub width_fits : n ≤ 8 * w
  pub width_small : w ≤ 64
  pub rows_long : n * w ≤ length rows
  pub room : start + 4 * count_below (in_rows rows n w) (n * n) ≤ length out

pub record WritesTable (rows : List ℕ) (n w : ℕ) (out : List ℕ) (start : ℕ) (out' : List ℕ) : Type 0 where
  pub long : length out' ≡ length out
  pub recorded : (test : ℕ → Bool) (head : List ℕ) → ((c d : ℕ) → c < n → d < n → test (c * n + d) ≡ bit rows (place w c d)) → Recorded n test 0 head out start → Recorded n test (n * n) head out' (start + 4 * count_below test (n * n))

-- A catalogue and a store with no stray bit, the count of the axioms in force, and a space of exactly the length of what is written.
pub record CatalogueFits (b store : List ℕ) (count : ℕ) (out : List ℕ) : Type 0 where
  pub clear : Clear b store
  pub count_is : count ≡ axiom_count b (in_force b store)
  pub limit : count ≤ 4096
  pub out_long : length out ≡ axioms_at b + 4 * count
