-- `writing::put_row` meets its contract: before each turn the records of the right sides passed are written.
use native.Mathlib.Omega.{arith}
use Rattle.writing.proofs.Recording.{row_begins, row_goes_on, row_room, row_ends}
use Rattle.writing.proofs.put_row.Goals as goal

pub loop-right-init : goal.loop-right-init
loop-right-init c = row_begins c.args.left c.args.out.now c.args.start c.into_iter-right-iterator.ensures.into_iter_gives c.marked-right-items.ensures

pub put_axiom-requires : goal.put_axiom-requires
put_axiom-requires c =
    let p = c.requires in
    let room = row_room c.loop-right.invariant c.next.ensures.steps c.in-Some.is p.room in
    (room.0, omega (arith, p.left_below, p.number_fits), omega (arith, p.number_fits, room.1))

pub overflow_add-at : goal.overflow_add-at
overflow_add-at c =
    let room = row_room c.loop-right.invariant c.next.ensures.steps c.in-Some.is c.requires.room in
    omega (arith, room.0)

pub loop-right-preserved : goal.loop-right-preserved
loop-right-preserved c = row_goes_on c.loop-right.invariant c.next.ensures.steps c.in-Some.is c.requires.room c.put_axiom.ensures

pub returns : goal.returns
returns c = row_ends c.loop-right.invariant c.next.ensures.steps c.in-None.is
