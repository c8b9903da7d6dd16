-- Where pairs and pair rows stand in a store, and that they lie within it.
use Prim.Native.Nat.{ℕ, ◌+◌, ◌*◌, ◌≤◌, ◌<◌}
use native.Mathlib.Nat.{mul-le-mul}
use native.Mathlib.Omega.{arith}
use mathlib.Core.Path.{◌≡◌}
use mathlib.Core.List.{List}
use lib.ListN.{length}
use Rattle.catalogue.specs.Header.{concepts}
use Rattle.catalogue.specs.WellFormed.{WellFormed}
use Rattle.rows.specs.Bits.{bit, place}
use Rattle.rules.specs.Rules.{pair}
use Rattle.layout.specs.Layout.{row_of}
use Rattle.rows.proofs.Places.{row_within}
use Rattle.layout.specs.Parts.{Sized, width, pair_row_at, row_count, held}
use Rattle.layout.proofs.StoreSizes.{used_rows, rows_split, width_fits}
use Rattle.layout.proofs.StoreRows.{held-bit}

-- A pair row begins before byte 65,536.
pub offset_limit : (b : List ℕ) (c : ℕ) → WellFormed b → c < concepts b → pair_row_at b c ≤ 65536
unfolding pair_row_at width
offset_limit b c f l = mul-le-mul {n₂ = 1024} {m₂ = 64} (omega arith) (omega arith)

-- A pair is a bit of its row.
pub held_pair : (b store : List ℕ) (c d : ℕ) → c < concepts b → d < concepts b → held b store (pair c d) ≡ bit store (8 * pair_row_at b c + d)
unfolding place row_of pair_row_at
held_pair b store c d lc ld = held-bit b store c 0 d lc (omega arith) (omega (arith, width_fits b))

-- The row of a concept lies within a store that is long enough.
pub row_in_store : (b store : List ℕ) (c : ℕ) → Sized b store → c < concepts b → pair_row_at b c + width b ≤ length store
unfolding pair_row_at
row_in_store b store c s l =
    let inside : (concepts b + c) * width b + width b ≤ row_count b * width b = row_within (width b) (concepts b + c) (row_count b) (omega (arith, rows_split b)) in
    omega (arith, used_rows b, s.long)
