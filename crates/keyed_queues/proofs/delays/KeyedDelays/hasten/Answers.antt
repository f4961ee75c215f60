use Rattle.std.proofs.Common.{◌≡◌, ap, sym, ◌∙◌, None, Some}
use Rattle.std.specs.FinMap as map_of
use Rattle.spec_client_go.specs.Delays.{earlier}
use Rattle.keyed_queues.specs.Numbers.{said}
use Rattle.keyed_queues.proofs.Numbers.{found, inserted}
use Rattle.keyed_queues.proofs.DelaySteps.{hastened, sooner}
use Rattle.keyed_queues.proofs.delays.KeyedDelays.hasten.Goals as goal

-- the key has an entry, so that no room is wanted
pub invariant_of-self-in_err-insert-2 : goal.invariant_of-self-in_err-insert-2
invariant_of-self-in_err-insert-2 g c =
    let m = g.met.K.Named in
    let R = g.K.Named.order in
    let say = g.K.Named.says in
    let some = ap (λ l. map_of.get (said R say l) (say c.args.key)) c.self.view_is ∙ c.requires.delayed in
    let none = found R m.ordered m.apart say g.K.Ord.cmp m.alike c.self.inside.moments.entries c.args.key ∙ c.in_err-insert-2.ensures.absent in
    let both : Some c.args.before ≡ None = sym some ∙ none in
    absurd (cc)

pub invariant_of-self-2 : goal.invariant_of-self-2
invariant_of-self-2 g c =
    let m = g.met.K.Named in
    let R = g.K.Named.order in
    let say = g.K.Named.says in
    hastened R m.ordered m.apart say g.K.Ord.cmp m.alike c.self.inside.moments.entries c.insert-2.new.self.entries c.self.inside.alarms.keys c.insert.new.self.keys c.remove.new.self.keys c.args.key c.in_ok-try_copy.field-0 c.args.before c.args.at c.self.invariant
    (ap (λ l. map_of.get (said R say l) (say c.args.key)) c.self.view_is ∙ c.requires.delayed)
    c.requires.earlier
    c.in_ok-try_copy.ensures
    c.in_ok-insert-2.ensures.entries
    c.in_ok-insert.ensures.keys
    c.remove.ensures.updates.1
    c.remove.ensures.updates.3
    c.remove.ensures.ordered

pub returns-clause-ok : goal.returns-clause-ok
returns-clause-ok g c =
    let m = g.met.K.Named in
    let R = g.K.Named.order in
    let say = g.K.Named.says in
    let before = said R say c.args.self.now in
    inserted R m.ordered m.apart say g.K.Ord.cmp m.alike c.self.inside.moments.entries c.insert-2.new.self.entries c.args.key c.args.at c.in_ok-insert-2.ensures.entries
    ∙ ap (λ l. map_of.insert (said R say l) (say c.args.key) c.args.at) c.self.view_is
    ∙ ap (map_of.insert before (say c.args.key)) (sooner c.args.before c.args.at c.requires.earlier)
    ∙ ap (λ o. map_of.insert before (say c.args.key) (earlier o c.args.at)) (sym c.requires.delayed)
