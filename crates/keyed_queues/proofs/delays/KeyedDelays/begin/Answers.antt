use Rattle.std.proofs.Common.{ap, sym, ◌∙◌}
use Rattle.std.specs.FinMap as map_of
use Rattle.spec_client_go.specs.Delays.{earlier}
use Rattle.keyed_queues.specs.Numbers.{said}
use Rattle.keyed_queues.proofs.Numbers.{inserted}
use Rattle.keyed_queues.proofs.DelaySteps.{begun, taken_back, kept}
use Rattle.keyed_queues.proofs.delays.KeyedDelays.begin.Goals as goal

-- the copy that came back says the same
pub invariant_of-self-in-Err : goal.invariant_of-self-in-Err
invariant_of-self-in-Err g c =
    let es = c.self.inside.moments.entries in
    let ks = c.self.inside.alarms.keys in
    let m = g.met.K.Named in
    let R = g.K.Named.order in
    let say = g.K.Named.says in
    kept R m.ordered m.apart say es c.remove.new.self.entries ks c.insert-2.new.self.keys c.self.invariant
    (taken_back R m.ordered m.apart say g.K.Ord.cmp m.alike es c.insert.new.self.entries c.remove.new.self.entries c.args.key c.in_ok-try_copy.field-0 c.in-Err.refused.value.key c.args.at
    (ap (λ l. map_of.get (said R say l) (say c.args.key)) c.self.view_is ∙ c.requires)
    c.in_ok-try_copy.ensures
    (ap (λ a. say a.key) c.in-Err.ensures.value_returned)
    c.in_ok-insert.ensures.entries
    c.remove.ensures.updates.1
    c.remove.ensures.updates.3)
    c.in-Err.ensures.err

pub returns-in-Err-clause-err : goal.returns-in-Err-clause-err
returns-in-Err-clause-err g c =
    let es = c.self.inside.moments.entries in
    let m = g.met.K.Named in
    let R = g.K.Named.order in
    let say = g.K.Named.says in
    taken_back R m.ordered m.apart say g.K.Ord.cmp m.alike es c.insert.new.self.entries c.remove.new.self.entries c.args.key c.in_ok-try_copy.field-0 c.in-Err.refused.value.key c.args.at
    (ap (λ l. map_of.get (said R say l) (say c.args.key)) c.self.view_is ∙ c.requires)
    c.in_ok-try_copy.ensures
    (ap (λ a. say a.key) c.in-Err.ensures.value_returned)
    c.in_ok-insert.ensures.entries
    c.remove.ensures.updates.1
    c.remove.ensures.updates.3
    ∙ ap (said R say) c.self.view_is

pub invariant_of-self-in_default : goal.invariant_of-self-in_default
invariant_of-self-in_default g c =
    let m = g.met.K.Named in
    let R = g.K.Named.order in
    let say = g.K.Named.says in
    begun R m.ordered m.apart say g.K.Ord.cmp m.alike c.self.inside.moments.entries c.insert.new.self.entries c.self.inside.alarms.keys c.insert-2.new.self.keys c.args.key c.in_ok-try_copy.field-0 c.args.at c.self.invariant
    (ap (λ l. map_of.get (said R say l) (say c.args.key)) c.self.view_is ∙ c.requires)
    c.in_ok-try_copy.ensures
    c.in_ok-insert.ensures.entries
    c.in_default.ensures.keys
    c.in_default.ensures.ordered

pub returns-clause-ok : goal.returns-clause-ok
returns-clause-ok g c =
    let m = g.met.K.Named in
    let R = g.K.Named.order in
    let say = g.K.Named.says in
    inserted R m.ordered m.apart say g.K.Ord.cmp m.alike c.self.inside.moments.entries c.insert.new.self.entries c.args.key c.args.at c.in_ok-insert.ensures.entries
    ∙ ap (λ l. map_of.insert (said R say l) (say c.args.key) c.args.at) c.self.view_is
    ∙ ap (λ o. map_of.insert (said R say c.args.self.now) (say c.args.key) (earlier o c.args.at)) (sym c.requires)
