-- `reader::copy_numbers` meets its contract. The loop's invariant: the first k numbers are copied.
use Prim.Native.Nat.{suc, ◌+◌, ◌*◌, ◌<◌}
use native.Mathlib.Omega.{arith}
use mathlib.Core.Path.{◌≡◌, ◌∙◌}
use lib.ListN.{get_or}
use Rattle.reader.proofs.Copying.{word_fits, copied_more}
use Rattle.reader.proofs.copy_numbers.Goals as goal

pub put_number-requires : goal.put_number-requires
put_number-requires c =
    let byte = c.type_inv.src in
    (omega (arith, c.requires.1), rw c.number_after-n.ensures (word_fits _ _ (λ i. omega (arith, byte i))))

pub loop-k-preserved : goal.loop-k-preserved
loop-k-preserved c =
    let l = c.loop-k in
    let t = c.loop-k-test.true in
    let i = c.args.at + 2 * l.k in
    let low : get_or c.args.src.now i 0 < 256 = omega (arith, c.type_inv.src i) in
    let n = c.number_after-n in
    let p = c.put_number in
    let e : suc (suc (2 * l.k)) ≡ 2 * (l.k + 1) = omega arith in
    p.ensures ∙ rw (l.invariant, n.ensures, ← e) (copied_more c.args.src.now c.args.at c.args.dst.now c.args.to (2 * l.k) (omega (arith, t, c.requires.0)) (omega (arith, t, c.requires.1)) low)
