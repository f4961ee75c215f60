use Rattle.keyed_queues.proofs.DelaySteps.{new_are}
use Rattle.keyed_queues.proofs.delays.KeyedDelays.new.Goals as goal

pub invariant_of-result : goal.invariant_of-result
invariant_of-result g c =
    let m = g.met.K.Named in
    new_are g.K.Named.order m.ordered m.apart g.K.Named.says g.K.Ord.cmp m.alike c.new.result.entries c.new-2.result.keys c.new.ensures.empty c.new-2.ensures.empty c.new-2.ensures.ordered
