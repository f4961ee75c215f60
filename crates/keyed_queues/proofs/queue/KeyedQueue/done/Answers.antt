use Rattle.std.proofs.Common.{ap, sym, ◌∙◌}
use Rattle.std.specs.Ordering.{is_eq}
use Rattle.object_keys.proofs.SeenSets.{says_same}
use Rattle.keyed_queues.specs.Queues.{done}
use Rattle.keyed_queues.specs.Lists.{said}
use Rattle.keyed_queues.proofs.Steps.{queue_of, done_absent, done_again, done_clean, pushed-seen}
use Rattle.keyed_queues.proofs.queue.KeyedQueue.done.Goals as goal

pub returns-in_default : goal.returns-in_default
returns-in_default g c =
    let q = c.self.inside in
    let m = g.met.K.Named in
    let R = g.K.Named.order in
    let say = g.K.Named.says in
    ap (λ ks. queue_of R say q.ready.items q.dirty.keys ks q.is_shut) c.in_default.ensures.unchanged
    ∙ done_absent R m.ordered m.apart say g.K.Ord.cmp m.alike q.ready.items q.dirty.keys q.processing.keys q.is_shut c.args.key.now (sym c.in_default.ensures.variant)
    ∙ ap (λ l. done (say c.args.key.now) (said R say l)) c.self.view_is

pub returns-then-contains : goal.returns-then-contains
returns-then-contains g c =
    let q = c.self.inside in
    let m = g.met.K.Named in
    let R = g.K.Named.order in
    let say = g.K.Named.says in
    done_again R m.ordered m.apart say g.K.Ord.cmp m.alike q.ready.items q.dirty.keys q.processing.keys q.is_shut c.args.key.now c.push_back_reserved.new.self.items c.take.new.self.keys (sym c.in-Some.ensures.variant)
    (sym c.contains.ensures ∙ c.if-contains.true)
    (pushed-seen say q.ready.items c.push_back_reserved.new.self.items c.args.key.now c.in-Some.kept c.push_back_reserved.ensures.items
    (sym (says_same R m.ordered m.apart say g.K.Ord.cmp m.alike c.args.key.now c.in-Some.kept (ap is_eq c.in-Some.ensures.same_key))))
    c.take.ensures.updates.1 c.take.ensures.updates.3
    ∙ ap (λ l. done (say c.args.key.now) (said R say l)) c.self.view_is

pub returns-else-contains : goal.returns-else-contains
returns-else-contains g c =
    let q = c.self.inside in
    let m = g.met.K.Named in
    let R = g.K.Named.order in
    let say = g.K.Named.says in
    done_clean R m.ordered m.apart say g.K.Ord.cmp m.alike q.ready.items q.dirty.keys q.processing.keys q.is_shut c.args.key.now c.take.new.self.keys (sym c.in-Some.ensures.variant)
    (sym c.contains.ensures ∙ c.if-contains.false) c.take.ensures.updates.1 c.take.ensures.updates.3
    ∙ ap (λ l. done (say c.args.key.now) (said R say l)) c.self.view_is
