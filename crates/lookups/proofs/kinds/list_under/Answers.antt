-- `list_under` meets its contract. The invariant: of the concepts below c those that pass stand in front, and the rest of the list is as it was.
use Rattle.catalogue.specs.Header.{concepts}
use Prim.Native.Nat.{ℕ}
use native.Mathlib.Omega.{arith}
use mathlib.Core.Path.{◌≡◌, refl, subst, ◌∙◌}
use Rattle.store.specs.Written.{rising}
use Rattle.number_lists.specs.Lists.{Filled}
use Rattle.number_lists.proofs.Filling.{filled_none, filled_most, filled_step}
use Rattle.lookups.specs.Listings.{atomic_under, kinds_under}
use Rattle.lookups.proofs.kinds.list_under.Goals as goal

pub loop-c-init : goal.loop-c-init
loop-c-init c = (omega arith, refl, filled_none _ _)

pub atomic_under-requires : goal.atomic_under-requires
atomic_under-requires c =
    let (sized, below, room) = c.requires in
    let n = c.concepts-n.ensures in
    let test = c.loop-c-test.true in
    (sized, omega arith, below)

pub enter-count-requires : goal.enter-count-requires
enter-count-requires c =
    let (sized, below, room) = c.requires in
    let (most, long, filled) = c.loop-c.invariant in
    let n = c.concepts-n.ensures in
    let test = c.loop-c-test.true in
    (omega (arith, filled_most _ _ filled), omega (arith, sized.well_formed.concepts_limit))

pub loop-c-preserved : goal.loop-c-preserved
loop-c-preserved c =
    let (sized, below, room) = c.requires in
    let (most, long, filled) = c.loop-c.invariant in
    let n = c.concepts-n.ensures in
    let test = c.loop-c-test.true in
    (omega arith, c.enter-count.auto.list ∙ long, filled_step _ _ _ _ _ _ _ (omega (arith, filled_most _ _ filled)) filled c.atomic_under.ensures c.enter-count.ensures)

pub shape_of-list : goal.shape_of-list
shape_of-list c = c.loop-c.invariant.1

pub returns : goal.returns
unfolding kinds_under
returns c =
    let (most, long, filled) = c.loop-c.invariant in
    let all : c.loop-c.c ≡ concepts c.args.b.now = omega (arith, c.loop-c-test.false, c.concepts-n.ensures) in
    subst (λ (k : ℕ). Filled (rising (atomic_under c.args.b.now c.args.store.now c.args.d) k) c.args.list.now c.loop-c.count c.loop-c.list) all filled
