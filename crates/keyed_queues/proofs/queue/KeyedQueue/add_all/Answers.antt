use Rattle.keyed_queues.specs.Lists.{said}
use Rattle.keyed_queues.proofs.Undone.{next_added}
use Rattle.keyed_queues.proofs.queue.KeyedQueue.add_all.Goals as goal

pub loop-key-preserved : goal.loop-key-preserved
loop-key-preserved g c =
    let R = g.K.Named.order in
    let say = g.K.Named.says in
    record {
      made = c.in_default.ensures.fresh (said R say c.args.self.now) c.loop-key.invariant.made;
      added = next_added say (said R say c.args.self.now) (said R say c.loop-key.self) (said R say c.add_fresh.new.self) c.args.keys.now c.loop-key.key-index c.key-item.result c.loop-key-test.true c.key-item.is c.loop-key.invariant.added c.in_default.ensures.ok;
    }
