use Rattle.std.proofs.Common.{ap, sym, ◌∙◌, ◌≡◌, ◌++◌, subst, map, arith}
use Rattle.std.specs.FinMap as map_of
use Rattle.std.proofs.lemmas.Bool.Decides.{nat_tests}
use Rattle.keyed_queues.specs.Delays.{AreAlarms, due}
use Rattle.keyed_queues.specs.Numbers.{said}
use Rattle.keyed_queues.specs.Said.{alarm_said}
use Rattle.spec_client_go.proofs.Due.{rest_are, none_due, none_due_yet}
use Rattle.keyed_queues.proofs.DelaySteps.{noted, all_noted}
use Rattle.keyed_queues.proofs.delays.KeyedDelays.due_keys.Goals as goal
use Rattle.keyed_queues.proofs.delays.KeyedDelays.due_keys.Goals.{in-None, in-Some+then-alarm-now}

pub loop-alarm-init : goal.loop-alarm-init
loop-alarm-init g c =
    let R = g.K.Named.order in
    let say = g.K.Named.says in
    let es = c.self.inside.moments.entries in
    let all : c.into_iter-alarm-iterator.result ≡ c.self.inside.alarms.keys = c.into_iter-alarm-iterator.ensures.into_iter_gives.0 in (
      said R say es,
      subst (λ ks. AreAlarms R (said R say es) (map (alarm_said say) ks)) (sym all) c.self.invariant,
      ap (λ ks. map say ks ++ due c.args.now (said R say es)) c.in_ok-keys.ensures.items ∙ ap (λ l. due c.args.now (said R say l)) c.self.view_is,
    )

pub loop-alarm-preserved : goal.loop-alarm-preserved
loop-alarm-preserved g c =
    let met = g.met.K.Named in
    let R = g.K.Named.order in
    let say = g.K.Named.says in
    let m = c.loop-alarm.invariant.0 in
    let a = c.in-Some.alarm.now in
    let are = subst (λ ks. AreAlarms R m (map (alarm_said say) ks)) c.in-Some.ensures.steps c.loop-alarm.invariant.1 in (
      map_of.remove m (say a.key),
      rest_are R met.ordered met.apart m (alarm_said say a) (map (alarm_said say) c.next.new.self) are,
      noted R met.ordered met.apart say c.args.now m a c.next.new.self c.loop-alarm.keys.items c.push.new.self.items c.in_ok-try_copy.field-0 (due c.args.now (said R say c.args.self.now)) are (grind (arith, nat_tests, c.if-alarm-now.false)) c.in_ok-try_copy.ensures c.in_ok-push.ensures.items
          c.loop-alarm.invariant.2,
    )

pub returns : goal.returns
returns g c =
    let met = g.met.K.Named in
    let R = g.K.Named.order in
    let say = g.K.Named.says in
    let m = c.loop-alarm.invariant.0 in
    all_noted R met.ordered met.apart say c.args.now m c.loop-alarm.keys.items (due c.args.now (said R say c.args.self.now))
    (elim c.match-next.branch [
      | in-None w ↦ none_due R met.ordered met.apart c.args.now m (subst (λ ks. AreAlarms R m (map (alarm_said say) ks)) w.in-None.ensures.steps.0 c.loop-alarm.invariant.1)
      | in-Some+then-alarm-now w ↦ none_due_yet R met.ordered met.apart c.args.now m (alarm_said say w.in-Some.alarm.now) (map (alarm_said say) c.next.new.self) (subst (λ ks. AreAlarms R m (map (alarm_said say) ks)) w.in-Some.ensures.steps c.loop-alarm.invariant.1)
          (grind (arith, nat_tests, w.if-alarm-now.true))
    ])
    c.loop-alarm.invariant.2
