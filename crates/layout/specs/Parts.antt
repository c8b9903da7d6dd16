-- The parts of a store and of a work space (document 01, Store), and the sets that a store holds, whatever the places of their bits.
use Rattle.std.specs.Prelude.{ℕ, ◌+◌, ◌-◌, ◌*◌, ◌/◌, ◌≤◌, ◌<◌, ◌≡◌, Bool, true, not, List, length, take, drop}
use Rattle.catalogue.specs.Header.{concepts, roles}
use Rattle.catalogue.specs.WellFormed.{WellFormed}
use Rattle.rows.specs.Bits.{bit, some_below, place}
use Rattle.rules.specs.Axioms.{Axioms}
use Rattle.rules.specs.Rules.{Expression}
use Rattle.layout.specs.Layout.{shape_of, table, marks, table_length, block_length}

-- The bytes of a row: n/8 rounded up.
unfoldable pub width : List ℕ → ℕ
width b = (concepts b + 7) / 8

-- The used part of a store: n rows of axioms by left side, n of pairs, and for each first concept m of links. Bytes past it are not read.
unfoldable pub used : List ℕ → ℕ
used b = concepts b * width b * (roles b + 2)

-- The used part of a work space: a block of pairs and links.
unfoldable pub work_used : List ℕ → ℕ
work_used b = concepts b * width b * (roles b + 1)

-- The offsets of rows in a store: of the axioms with left side c, of the pairs of c, of the links of c by role r.
unfoldable pub axiom_row_at : List ℕ → ℕ → ℕ
axiom_row_at b c = c * width b

unfoldable pub pair_row_at : List ℕ → ℕ → ℕ
pair_row_at b c = (concepts b + c) * width b

unfoldable pub link_row_at : List ℕ → ℕ → ℕ → ℕ
link_row_at b c r = (concepts b + concepts b + (c * roles b + r)) * width b

-- The row at an offset.
unfoldable pub row_at : List ℕ → List ℕ → ℕ → List ℕ
row_at b store offset = take (width b) (drop offset store)

-- The axiom rows of a store, and its block of pairs and links.
unfoldable pub axiom_rows : List ℕ → List ℕ → List ℕ
axiom_rows b store = take (table_length (shape_of b)) store

unfoldable pub set_rows : List ℕ → List ℕ → List ℕ
set_rows b store = take (block_length (shape_of b)) (drop (table_length (shape_of b)) store)

-- The axioms in force, and the pairs and links held.
unfoldable pub in_force : List ℕ → List ℕ → Axioms
in_force b store = table (shape_of b) (axiom_rows b store)

unfoldable pub held : List ℕ → List ℕ → Expression → Bool
held b store = marks (shape_of b) (set_rows b store)

-- The rows of a used part.
unfoldable pub row_count : List ℕ → ℕ
row_count b = concepts b * (roles b + 2)

-- Some bit of row r from bit i upward is set, in rows of w bytes.
unfoldable pub set_from : (w i : ℕ) → List ℕ → ℕ → Bool
set_from w i rows r = some_below (λ k. bit rows (place w r (i + k))) (8 * w - i)

-- All row bits from n upward are clear.
unfoldable pub spare_clear : List ℕ → List ℕ → Bool
spare_clear b store = not (some_below (set_from (width b) (concepts b) store) (row_count b))

-- The catalogue is well-formed, and the store is as long as it asks: what questions 1 to 10 give.
pub record Sized (b store : List ℕ) : Type 0 where
  pub well_formed : WellFormed b
  pub long : used b ≤ length store

-- No spare bit is set besides: what questions 1 to 13 give.
pub record Clear (b store : List ℕ) : Type 0 where
  pub sized : Sized b store
  pub spare : spare_clear b store ≡ true

-- Bit i lies in the last byte of a row, in so many rows of w bytes.
pub record InLastByte (w count i : ℕ) (rows : List ℕ) : Type 0 where
  pub below : i < 8 * w
  pub last : 8 * w ≤ i + 8
  pub long : count * w ≤ length rows
