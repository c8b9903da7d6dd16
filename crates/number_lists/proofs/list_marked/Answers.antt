-- `list_marked` meets its contract: at each turn the marked numbers passed stand in front.
use native.Mathlib.Omega.{arith}
use Rattle.number_lists.proofs.Filling.{walked_none, walked_room, walked_more, walked_all}
use Rattle.number_lists.proofs.list_marked.Goals as goal

pub loop-c-init : goal.loop-c-init
loop-c-init c = walked_none c.args.list.now c.into_iter-c-iterator.ensures.into_iter_gives c.marked-c-items.ensures

pub enter-count-requires : goal.enter-count-requires
enter-count-requires c =
    let room = walked_room c.requires.2 c.loop-c.invariant c.next.ensures.steps c.in-Some.is in
    (omega (arith, room.0), omega (arith, room.1))

pub loop-c-preserved : goal.loop-c-preserved
loop-c-preserved c = walked_more c.requires.2 c.loop-c.invariant c.next.ensures.steps c.in-Some.is c.enter-count.ensures

pub returns : goal.returns
returns c = walked_all c.loop-c.invariant c.next.ensures.steps c.in-None.is
