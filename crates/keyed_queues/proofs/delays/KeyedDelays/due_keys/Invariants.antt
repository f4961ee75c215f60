use Rattle.std.proofs.Common.{◌≡◌, ◌++◌, map}
use Rattle.keyed_queues.specs.Delays.{KeyDelays, AreAlarms, due}
use Rattle.keyed_queues.specs.Numbers.{said}
use Rattle.keyed_queues.specs.Said.{alarm_said}
use Rattle.keyed_queues.proofs.delays.KeyedDelays.due_keys.Given as goal

-- what was copied, then what is due of the delays whose alarms are left, is all
abbrev pub invariant-loop-alarm : goal.invariant-loop-alarm
invariant-loop-alarm g l =
    let R = g.K.Named.order in
    let say = g.K.Named.says in
    (m : KeyDelays R) × AreAlarms R m (map (alarm_said say) l.alarm-iterator) × (map say l.keys.items ++ due l.now m ≡ due l.fn.now (said R say l.fn.self))
