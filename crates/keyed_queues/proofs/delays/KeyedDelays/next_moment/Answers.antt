use Rattle.std.proofs.Common.{ap, sym, ◌∙◌, subst, ◌∷◌, [], map}
use Rattle.keyed_queues.specs.Delays.{AreAlarms, next_moment}
use Rattle.keyed_queues.specs.Numbers.{said}
use Rattle.keyed_queues.specs.Said.{alarm_said}
use Rattle.spec_client_go.proofs.Due.{next_is_first}
use Rattle.keyed_queues.proofs.DelaySteps.{head_is, no_keys}
use Rattle.keyed_queues.proofs.delays.KeyedDelays.next_moment.Goals as goal

pub returns-in_default : goal.returns-in_default
returns-in_default g c =
    let m = g.met.K.Named in
    let R = g.K.Named.order in
    let say = g.K.Named.says in
    let es = c.self.inside.moments.entries in
    let none = no_keys c.self.inside.alarms.keys (λ some. let h = c.in_default.ensures.variant.1 some in cc) in
    sym
    (ap (λ l. next_moment (said R say l)) (sym c.self.view_is)
    ∙ next_is_first R m.ordered m.apart (said R say es) [] (subst (λ ks. AreAlarms R (said R say es) (map (alarm_said say) ks)) none c.self.invariant))

pub returns : goal.returns
returns g c =
    let m = g.met.K.Named in
    let R = g.K.Named.order in
    let say = g.K.Named.says in
    let es = c.self.inside.moments.entries in
    let head = head_is c.self.inside.alarms.keys c.in-Some.first.now c.in-Some.ensures.first in
    sym
    (ap (λ l. next_moment (said R say l)) (sym c.self.view_is)
    ∙ next_is_first R m.ordered m.apart (said R say es) (alarm_said say c.in-Some.first.now ∷ map (alarm_said say) head.0) (subst (λ ks. AreAlarms R (said R say es) (map (alarm_said say) ks)) head.1 c.self.invariant))
