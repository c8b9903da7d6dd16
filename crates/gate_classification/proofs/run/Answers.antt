-- `run` meets its contract: a store that classify accepted is as long as its catalogue asks.
use Rattle.classification.proofs.Outcomes.{done_sized}
use Rattle.gate_classification.proofs.run.Goals as goal

pub say_classified-requires : goal.say_classified-requires
say_classified-requires g c =
    let called = c.classify in
    done_sized c.args.b.now c.args.store.now c.args.work.now called.result called.new.store called.new.work c.in-Ok.counts called.ensures c.in-Ok.is
