-- `rows::clear` meets its contract: one shifted by a place is the power of two with that place.
use Prim.Native.Nat.{ℕ, ◌-◌, ◌/◌, ◌%◌}
use native.Mathlib.Omega.{arith}
use mathlib.Core.Path.{ap}
use lib.ListN.{get_or, set}
use lib.Bits.{bit_and}
use Rattle.rows.specs.Bits.{clear_bit}
use Rattle.rows.proofs.Bits.{shifted_one}
use Rattle.rows.proofs.clear.Goals as goal

pub returns : goal.returns
unfolding clear_bit
returns c =
    let row = c.args.row.now in
    let i = c.args.i in
    ap (λ (x : ℕ). set row (i / 8) (bit_and (get_or row (i / 8) 0) (255 - x))) (shifted_one (i % 8) (omega arith))
