use Rattle.std.proofs.Common.{◌≡◌, map, take}
use Rattle.keyed_queues.specs.Queues.{added_all}
use Rattle.keyed_queues.specs.Lists.{said}
use Rattle.keyed_queues.specs.Undoing.{IsUndoable}
use Rattle.keyed_queues.proofs.queue.KeyedQueue.add_all.Given as goal

abbrev pub invariant-loop-key : goal.invariant-loop-key
invariant-loop-key g l =
    let R = g.K.Named.order in
    let say = g.K.Named.says in
    record {
      made : IsUndoable (said R say l.fn.self) (map say l.fresh.items) (said R say l.self);
      added : said R say l.self ≡ added_all (map say (take l.key-index l.keys)) (said R say l.fn.self);
    }
