-- `both_occur` meets its contract: atomic records occur; else the marks are those of the axioms in force, in a row of w of the 64 bytes.
use Prim.Native.Nat.{ℕ, ◌<◌}
use mathlib.Core.Path.{◌≡◌, sym, ap₂, ◌∙◌}
use mathlib.Core.Bool.{true, ◌&&◌}
use mathlib.Core.List.{List}
use borrow.Author.Tests.{eqb-true}
use lib.Dec.{eqb}
use lib.Seq.{length-take-le}
use Rattle.booleans.proofs.Booleans.{and_left, and_right}
use Rattle.catalogue.specs.Header.{concepts}
use Rattle.catalogue.specs.Records.{kind}
use Rattle.rules.specs.Occurrence.{occurs, atomic}
use Rattle.rules.proofs.Occurrence.{occurs_exact}
use Rattle.layout.specs.Parts.{Clear, in_force}
use Rattle.layout.proofs.StoreRows.{in_force_range}
use Rattle.layout.proofs.Sizes.{shape_sizes, shape_width}
use Rattle.store.proofs.Checks.{every_two}
use Rattle.read_checks.proofs.both_occur.Goals as goal

-- An atomic record occurs.
atomic_occurs : (b store : List ℕ) (c : ℕ) → Clear b store → c < concepts b → eqb (kind b c) 0 ≡ true → occurs b (in_force b store) c ≡ true
atomic_occurs b store c h l k = (occurs_exact b (in_force b store) h.sized.well_formed (in_force_range b store h.spare) c).1 (atomic (l, eqb-true (kind b c) 0 k))

pub returns-then-both_atomic : goal.returns-then-both_atomic
returns-then-both_atomic c =
    let b = c.args.b.now in
    let first = eqb (kind b c.args.c) 0 in
    let second = eqb (kind b c.args.d) 0 in
    let both = sym c.both_atomic.ensures ∙ c.if-both_atomic.true in
    sym
    (every_two _ c.args.c c.args.d
    ∙ ap₂ ◌&&◌ (atomic_occurs b c.args.store.now c.args.c c.requires.0 c.requires.1 (and_left first second both))
    (atomic_occurs b c.args.store.now c.args.d c.requires.0 c.requires.2 (and_right first second both)))

pub slice_bounds-marks-end : goal.slice_bounds-marks-end
slice_bounds-marks-end c = (shape_sizes c.requires.0.sized.well_formed c.of-s.ensures).width_limit

pub slice_bounds-both_marked-end : goal.slice_bounds-both_marked-end
slice_bounds-both_marked-end c = sym (length-take-le _ _ (shape_sizes c.requires.0.sized.well_formed c.of-s.ensures).width_limit)

pub both_marked-requires : goal.both_marked-requires
both_marked-requires c =
    let e = c.of-s.ensures in
    (c.requires.0, length-take-le _ _ (shape_sizes c.requires.0.sized.well_formed e).width_limit ∙ shape_width c.args.b.now e)
