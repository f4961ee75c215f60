use Rattle.std.proofs.Common.{ap, sym, ◌∙◌, arith}
use Rattle.std.specs.FinMap as map_of
use Rattle.keyed_queues.specs.Numbers.{said}
use Rattle.keyed_queues.proofs.Numbers.{found}
use Rattle.keyed_queues.proofs.DelaySteps.{delayed_before}
use Rattle.keyed_queues.proofs.delays.KeyedDelays.add_after.Goals as goal

pub begin-requires : goal.begin-requires
begin-requires g c =
    let m = g.met.K.Named in
    let R = g.K.Named.order in
    let say = g.K.Named.says in
    ap (λ l. map_of.get (said R say l) (say c.args.key)) (sym c.self.view_is)
    ∙ found R m.ordered m.apart say g.K.Ord.cmp m.alike c.self.inside.moments.entries c.args.key
    ∙ sym (sym c.in-None.is ∙ c.copied.ensures ∙ c.get.ensures.value)

pub hasten-requires-clause-delayed : goal.hasten-requires-clause-delayed
hasten-requires-clause-delayed g c =
    let m = g.met.K.Named in
    let R = g.K.Named.order in
    let say = g.K.Named.says in
    ap (λ l. map_of.get (said R say l) (say c.args.key)) (sym c.self.view_is)
    ∙ found R m.ordered m.apart say g.K.Ord.cmp m.alike c.self.inside.moments.entries c.args.key
    ∙ sym (sym c.in-Some.is ∙ c.copied.ensures ∙ c.get.ensures.value)

pub returns-in-Some-2-clause-ok : goal.returns-in-Some-2-clause-ok
returns-in-Some-2-clause-ok g c =
    let m = g.met.K.Named in
    let R = g.K.Named.order in
    let say = g.K.Named.says in
    delayed_before R m.ordered m.apart say (said R say c.args.self.now) (say c.args.key) c.in-Some.before c.args.at
    (ap (λ l. map_of.get (said R say l) (say c.args.key)) (sym c.self.view_is)
    ∙ found R m.ordered m.apart say g.K.Ord.cmp m.alike c.self.inside.moments.entries c.args.key
    ∙ sym (sym c.in-Some.is ∙ c.copied.ensures ∙ c.get.ensures.value))
    (omega (arith, c.if-at-before.false))
