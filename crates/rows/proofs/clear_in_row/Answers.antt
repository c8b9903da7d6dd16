-- `rows::clear_in_row` meets its contract: a bit cleared in the lent part is that bit of the whole.
use Prim.Native.Nat.{◌+◌, ◌*◌}
use native.Mathlib.Omega.{arith}
use Rattle.rows.proofs.Bits.{clear_part}
use Rattle.rows.proofs.clear_in_row.Goals as goal

pub returns : goal.returns
returns c =
    let a = c.args in
    rw c.clear.ensures
    (clear_part a.rows.now (a.r * a.w) (a.r * a.w + a.w) a.i (omega arith) (omega arith) (omega arith))
