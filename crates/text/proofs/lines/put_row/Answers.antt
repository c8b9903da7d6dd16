-- `put_row` meets its contract. The invariant: the lines of the concepts below d are written.
use Prim.Native.Nat.{ℕ}
use native.Mathlib.Omega.{arith}
use mathlib.Core.Path.{◌≡◌, refl, subst, ◌∙◌}
use Rattle.catalogue.specs.Header.{concepts}
use Rattle.layout.specs.Parts.{held}
use Rattle.text.specs.Text.{Appended}
use Rattle.text.specs.Lines.{lines_below, row_lines}
use Rattle.text.proofs.Listing.{lines_below_most, lines_none, lines_step}
use Rattle.text.proofs.lines.put_row.Goals as goal

pub loop-d-init : goal.loop-d-init
loop-d-init c = lines_none _ _ _ _ (omega arith) _

pub put_named-place-requires : goal.put_named-place-requires
put_named-place-requires c =
    let (sized, below, room) = c.requires in
    let n = c.concepts-n.ensures in
    let test = c.loop-d-test.true in
    let limit = sized.well_formed.concepts_limit in
    let b = c.args.b.now in
    let short = lines_below_most b (held b c.args.store.now) c.args.c c.loop-d.d (omega (arith, below, limit)) (omega (arith, n, test, limit)) in
    (sized, below, omega (arith, n, test), omega (arith, n, test, limit, c.loop-d.invariant.ends, short, room))

pub loop-d-preserved : goal.loop-d-preserved
loop-d-preserved c =
    lines_step _ _ _ _ (omega (arith, c.requires.2)) _ _ _ _ _ _ c.loop-d.invariant c.put_named-place.ensures

pub returns : goal.returns
unfolding row_lines
returns c =
    let a = c.args in
    let l = c.loop-d in
    let all : l.d ≡ concepts a.b.now = omega (arith, c.concepts-n.ensures) in
    subst (λ (k : ℕ). Appended (lines_below a.b.now (held a.b.now a.store.now) a.c k) a.out.now a.at l.place l.out) all l.invariant
