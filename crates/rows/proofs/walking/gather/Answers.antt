-- `walking::gather` meets its contract: at each turn the rows of the marked numbers passed are added.
use Rattle.rows.specs.Walks.{row_bit}
use Rattle.rows.proofs.Walks.{walked_none, walked_more, walked_all}
use Rattle.rows.proofs.walking.gather.Goals as goal

pub loop-c-init : goal.loop-c-init
loop-c-init c =
    let a = c.args in
    walked_none (row_bit a.rows.now a.first a.step a.w) a.out.now c.into_iter-c-iterator.ensures.into_iter_gives c.marked-c-items.ensures

pub loop-c-preserved : goal.loop-c-preserved
unfolding row_bit
loop-c-preserved c = walked_more c.loop-c.invariant c.next.ensures.steps c.in-Some.is c.add_row.ensures

pub returns : goal.returns
returns c = walked_all c.loop-c.invariant c.next.ensures.steps c.in-None.is
