use Rattle.std.proofs.Common.{refl, sym, ap, ◌∙◌, ◌-◌, true, false}
use Rattle.std.proofs.lemmas.List.{length-map}
use Rattle.keyed_queues.specs.Lists.{said}
use Rattle.keyed_queues.proofs.Undone.{queue_back, popped}
use Rattle.keyed_queues.proofs.queue.KeyedQueue.undo_add.Goals as goal

pub returns-then-not-contains : goal.returns-then-not-contains
returns-then-not-contains g c before f is =
    let q = c.self.inside in
    let m = g.met.K.Named in
    let R = g.K.Named.order in
    let say = g.K.Named.says in
    queue_back R m.ordered m.apart say g.K.Ord.cmp m.alike q.ready.items c.truncate.new.self.items q.dirty.keys c.remove.new.self.keys q.processing.keys q.is_shut c.args.key.now before false f (ap (said R say) c.self.view_is ∙ is)
    (sym c.contains.ensures ∙ c.if-not-contains.true)
    (popped say q.ready.items c.truncate.new.self.items c.saturating_sub-others.result (c.saturating_sub-others.ensures ∙ ap (λ n. n - 1) (c.len.ensures ∙ sym (length-map q.ready.items say))) c.truncate.ensures.items)
    c.remove.ensures.updates.1 c.remove.ensures.updates.3

pub returns-else-not-contains : goal.returns-else-not-contains
returns-else-not-contains g c before f is =
    let q = c.self.inside in
    let m = g.met.K.Named in
    let R = g.K.Named.order in
    let say = g.K.Named.says in
    queue_back R m.ordered m.apart say g.K.Ord.cmp m.alike q.ready.items q.ready.items q.dirty.keys c.remove.new.self.keys q.processing.keys q.is_shut c.args.key.now before true f (ap (said R say) c.self.view_is ∙ is)
    (sym c.contains.ensures ∙ c.if-not-contains.false) refl c.remove.ensures.updates.1 c.remove.ensures.updates.3
