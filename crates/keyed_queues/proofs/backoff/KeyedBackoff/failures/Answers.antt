use Rattle.std.proofs.Common.{ap, sym, ◌∙◌}
use Rattle.std.specs.FinMap as map_of
use Rattle.keyed_queues.specs.Numbers.{said}
use Rattle.keyed_queues.proofs.Numbers.{found}
use Rattle.keyed_queues.proofs.backoff.KeyedBackoff.failures.Goals as goal

pub returns : goal.returns
returns g c =
    let m = g.met.K.Named in
    let R = g.K.Named.order in
    let say = g.K.Named.says in
    c.copied.ensures
    ∙ c.get.ensures.value
    ∙ sym (found R m.ordered m.apart say g.K.Ord.cmp m.alike c.self.inside.failures.entries c.args.key.now)
    ∙ ap (λ l. map_of.get (said R say l) (say c.args.key.now)) c.self.view_is
