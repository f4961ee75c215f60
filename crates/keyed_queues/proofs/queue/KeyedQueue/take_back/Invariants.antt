use Rattle.std.proofs.Common.{map}
use Rattle.keyed_queues.specs.Queues.{KeyQueue}
use Rattle.keyed_queues.specs.Lists.{said}
use Rattle.keyed_queues.specs.Undoing.{IsUndoable}
use Rattle.keyed_queues.proofs.queue.KeyedQueue.take_back.Given as goal

abbrev pub invariant-loop-key : goal.invariant-loop-key
invariant-loop-key g l =
    let R = g.K.Named.order in
    let say = g.K.Named.says in
    (first : KeyQueue R) → IsUndoable first (map say l.fn.fresh.items) (said R say l.fn.self) → IsUndoable first (map say l.fresh.items) (said R say l.self)

abbrev pub decreases-loop-key : goal.decreases-loop-key
decreases-loop-key g l = goal.left-loop-key g l
