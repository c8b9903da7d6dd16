-- `put_rows` meets its contract. The invariant: the lines of the pairs of the concepts below c are written.
use Prim.Native.Nat.{ℕ}
use native.Mathlib.Omega.{arith}
use mathlib.Core.Path.{◌≡◌, refl, subst, ◌∙◌}
use Rattle.catalogue.specs.Header.{concepts}
use Rattle.layout.specs.Parts.{held}
use Rattle.text.specs.Text.{Appended}
use Rattle.text.specs.Lines.{rows_below, pair_lines}
use Rattle.text.proofs.Listing.{rows_below_most, rows_none, rows_step}
use Rattle.text.proofs.lines.put_rows.Goals as goal

pub loop-c-init : goal.loop-c-init
loop-c-init c = rows_none _ _ _ _ (omega arith)

pub put_row-place-requires : goal.put_row-place-requires
put_row-place-requires c =
    let (sized, room) = c.requires in
    let n = c.concepts-n.ensures in
    let test = c.loop-c-test.true in
    let limit = sized.well_formed.concepts_limit in
    let b = c.args.b.now in
    let short = rows_below_most b (held b c.args.store.now) c.loop-c.c limit (omega (arith, n, test)) in
    (sized, omega (arith, n, test), omega (arith, n, test, limit, c.loop-c.invariant.ends, short, room))

pub loop-c-preserved : goal.loop-c-preserved
loop-c-preserved c =
    rows_step _ _ _ _ (omega (arith, c.requires.1)) _ _ _ _ _ c.loop-c.invariant c.put_row-place.ensures

pub returns : goal.returns
unfolding pair_lines
returns c =
    let a = c.args in
    let l = c.loop-c in
    let all : l.c ≡ concepts a.b.now = omega (arith, c.concepts-n.ensures) in
    subst (λ (k : ℕ). Appended (rows_below a.b.now (held a.b.now a.store.now) k) a.out.now a.at l.place l.out) all l.invariant
