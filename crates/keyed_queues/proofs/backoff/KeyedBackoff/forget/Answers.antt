use Rattle.std.proofs.Common.{ap, ◌∙◌}
use Rattle.std.specs.FinMap as map_of
use Rattle.keyed_queues.specs.Numbers.{said}
use Rattle.keyed_queues.proofs.Numbers.{removed}
use Rattle.keyed_queues.proofs.backoff.KeyedBackoff.forget.Goals as goal

pub returns : goal.returns
returns g c =
    let m = g.met.K.Named in
    let R = g.K.Named.order in
    let say = g.K.Named.says in
    removed R m.ordered m.apart say g.K.Ord.cmp m.alike c.self.inside.failures.entries c.remove.new.self.entries c.args.key.now c.remove.ensures.updates.1 c.remove.ensures.updates.3
    ∙ ap (λ l. map_of.remove (said R say l) (say c.args.key.now)) c.self.view_is
