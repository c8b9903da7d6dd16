-- The sizes of a store: its used part is its axiom rows and its block, as many rows as `row_count` says, and its limits.
use Prim.Native.Nat.{ℕ, ◌+◌, ◌*◌, ◌≤◌, ◌<◌}
use native.Mathlib.Nat.{add-mul, mul-add, mul_right_comm, mul-le-mul}
use native.Mathlib.Omega.{arith}
use mathlib.Core.Path.{◌≡◌, refl}
use mathlib.Core.List.{List}
use Rattle.catalogue.specs.Header.{concepts, roles}
use Rattle.catalogue.specs.WellFormed.{WellFormed}
use Rattle.layout.specs.Layout.{shape_of, table_length, block_length}
use Rattle.layout.specs.Parts.{width, used, work_used, row_count}

-- What the shape of a catalogue's blocks has, in the store's words.
pub table_long : (b : List ℕ) → table_length (shape_of b) ≡ concepts b * width b
unfolding table_length shape_of width
table_long b = refl

pub block_long : (b : List ℕ) → block_length (shape_of b) ≡ (concepts b + concepts b * roles b) * width b
unfolding block_length shape_of width
block_long b = refl

-- A used part: the axiom rows, and then a block.
pub used_split : (b : List ℕ) → used b ≡ table_length (shape_of b) + block_length (shape_of b)
unfolding used
used_split b =
    omega (
      arith,
      table_long b,
      block_long b,
      mul-add (concepts b * width b) (roles b) 2,
      add-mul (concepts b) (concepts b * roles b) (width b),
      mul_right_comm (concepts b) (roles b) (width b),
    )

pub work_is_block : (b : List ℕ) → work_used b ≡ block_length (shape_of b)
unfolding work_used
work_is_block b =
    omega (
      arith,
      block_long b,
      mul-add (concepts b * width b) (roles b) 1,
      add-mul (concepts b) (concepts b * roles b) (width b),
      mul_right_comm (concepts b) (roles b) (width b),
    )

pub used_rows : (b : List ℕ) → used b ≡ row_count b * width b
unfolding used row_count
used_rows b = mul_right_comm (concepts b) (width b) (roles b + 2)

pub rows_split : (b : List ℕ) → row_count b ≡ concepts b + (concepts b + concepts b * roles b)
unfolding row_count
rows_split b = omega (arith, mul-add (concepts b) (roles b) 2)

-- A row has room for every concept, and at most seven bits more.
pub width_fits : (b : List ℕ) → (concepts b ≤ 8 * width b) × (8 * width b < concepts b + 8)
unfolding width
width_fits b = omega arith

-- Limits.
module _ {b : List ℕ} (wf : WellFormed b) where
  pub some-width : 1 ≤ width b
  unfolding width
  some-width = omega (arith, wf.some_concept)

  pub table_limit : concepts b * width b ≤ 32768
  unfolding width
  table_limit = mul-le-mul {n₂ = 512} {m₂ = 64} wf.concepts_limit (omega (arith, wf.concepts_limit))

  pub rows_limit : row_count b ≤ 9216
  unfolding row_count
  rows_limit = mul-le-mul {n₂ = 512} {m₂ = 18} wf.concepts_limit (omega (arith, wf.roles_limit))

  pub used_limit : used b ≤ 589824
  unfolding used
  used_limit = mul-le-mul {n₂ = 32768} {m₂ = 18} table_limit (omega (arith, wf.roles_limit))

  pub work_limit : work_used b ≤ 557056
  unfolding work_used
  work_limit = mul-le-mul {n₂ = 32768} {m₂ = 17} table_limit (omega (arith, wf.roles_limit))
