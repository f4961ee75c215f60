use Rattle.std.proofs.Common.{◌≡◌, length}
use Rattle.keyed_queues.specs.Delays.{due, still_delayed}
use Rattle.keyed_queues.specs.Numbers.{said}
use Rattle.keyed_queues.proofs.delays.KeyedDelays.drop_due.Given as goal

-- what is left in the end stays the same
abbrev pub invariant-loop-key : goal.invariant-loop-key
invariant-loop-key g l =
    let R = g.K.Named.order in
    let say = g.K.Named.says in
    record {
      left : still_delayed l.now (said R say l.self) ≡ still_delayed l.fn.now (said R say l.fn.self);
      now : l.now ≡ l.fn.now;
    }

abbrev pub decreases-loop-key : goal.decreases-loop-key
decreases-loop-key g l = length (due l.now (said g.K.Named.order g.K.Named.says l.self))
