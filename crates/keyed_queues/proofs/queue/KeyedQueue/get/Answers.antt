use Rattle.std.proofs.Common.{ap, ◌∙◌}
use Rattle.std.specs.FinSet as set
use Rattle.object_keys.proofs.SeenSets.{insert-seen, remove-seen}
use Rattle.keyed_queues.specs.Queues.{got}
use Rattle.keyed_queues.specs.Lists.{said}
use Rattle.keyed_queues.proofs.Steps.{get_from_front, names}
use Rattle.keyed_queues.proofs.queue.KeyedQueue.get.Goals as goal

pub returns-clause-ok : goal.returns-clause-ok
returns-clause-ok g c =
    let q = c.self.inside in
    let m = g.met.K.Named in
    let R = g.K.Named.order in
    let say = g.K.Named.says in
    get_from_front R say q.ready.items c.pop_front.new.self.items q.dirty.keys c.remove.new.self.keys q.processing.keys c.insert.new.self.keys q.is_shut c.in-Some.front.now c.in-Some.ensures.item.3.0 c.in-Some.ensures.item.1 c.pop_front.ensures.rest
    (remove-seen R m.ordered m.apart say g.K.Ord.cmp m.alike q.dirty.keys c.remove.new.self.keys c.in_ok-key.key c.remove.ensures.updates.1 c.remove.ensures.updates.3 ∙ ap (set.remove (names R say q.dirty.keys)) c.in_ok-key.ensures)
    (ap (names R say) c.in_ok-insert.ensures.keys ∙ insert-seen R m.ordered m.apart say g.K.Ord.cmp m.alike q.processing.keys c.in_ok-kept.kept ∙ ap (set.insert (names R say q.processing.keys)) c.in_ok-kept.ensures)
    ∙ ap (λ l. got (said R say l)) c.self.view_is
