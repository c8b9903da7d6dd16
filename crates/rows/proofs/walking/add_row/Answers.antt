-- `walking::add_row` meets its contract: the row is joined as it lies in the block.
use Prim.Native.Nat.{◌+◌, ◌-◌, ◌*◌}
use native.Mathlib.Omega.{arith}
use borrow.Rule.Slice.PartMut.{mid_of}
use Rattle.rows.specs.Bits.{Bytes}
use Rattle.rows.proofs.RowParts.{bytes_mid, row_read, span}
use Rattle.rows.proofs.Unions.{adds_same, adds_row}
use Rattle.rows.proofs.walking.add_row.Goals as goal

pub returns : goal.returns
returns c =
    let a = c.args in
    let start = a.r * a.w in
    let part = mid_of start ((start + a.w) - start) a.rows.now in
    let bytes : Bytes part = bytes_mid a.rows.now start ((start + a.w) - start) (λ i. (c.type_inv.rows i).fits) in
    rw c.or_into.ensures
    (adds_same (λ d l. row_read a.rows.now a.w a.r start (start + a.w) d (span a.w a.r) (omega arith))
    (adds_row a.out.now part bytes))
