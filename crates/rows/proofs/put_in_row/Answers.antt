-- `rows::put_in_row` meets its contract: a bit set in the lent part is that bit of the whole.
use Prim.Native.Nat.{◌+◌, ◌*◌}
use native.Mathlib.Omega.{arith}
use Rattle.rows.proofs.Bits.{set_part}
use Rattle.rows.proofs.put_in_row.Goals as goal

pub returns : goal.returns
returns c =
    let a = c.args in
    rw c.put.ensures
    (set_part a.rows.now (a.r * a.w) (a.r * a.w + a.w) a.i (omega arith) (omega arith) (omega arith))
