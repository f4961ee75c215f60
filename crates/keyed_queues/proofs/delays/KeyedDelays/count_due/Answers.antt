use Rattle.std.proofs.Common.{ap, ◌∙◌, length, map}
use Rattle.keyed_queues.specs.Delays.{due}
use Rattle.keyed_queues.specs.Numbers.{said}
use Rattle.keyed_queues.specs.Said.{alarm_said}
use Rattle.spec_client_go.proofs.Due.{count_first}
use Rattle.keyed_queues.proofs.DelaySteps.{leading_said}
use Rattle.keyed_queues.proofs.delays.KeyedDelays.count_due.Goals as goal

pub returns : goal.returns
returns g c =
    let m = g.met.K.Named in
    let R = g.K.Named.order in
    let say = g.K.Named.says in
    c.leading.ensures
    ∙ leading_said say c.self.inside.alarms.keys c.args.now
    ∙ count_first R m.ordered m.apart c.args.now (said R say c.self.inside.moments.entries) (map (alarm_said say) c.self.inside.alarms.keys) c.self.invariant
    ∙ ap (λ l. length (due c.args.now (said R say l))) c.self.view_is
