-- `rows::has` meets its contract: a bit of a byte that is there, and false past the end.
use mathlib.Core.Path.{refl, sym}
use native.Mathlib.Omega.{arith}
use Rattle.rows.specs.Bits.{bit, byte_bit}
use Rattle.rows.proofs.Bits.{bit_past}
use Rattle.rows.proofs.has.Goals as goal

pub returns-then-at-row : goal.returns-then-at-row
unfolding bit byte_bit
returns-then-at-row c = refl

pub returns-else-at-row : goal.returns-else-at-row
returns-else-at-row c = sym (bit_past c.args.row.now c.args.i (omega arith))
