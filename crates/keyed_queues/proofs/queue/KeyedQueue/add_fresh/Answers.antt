use Rattle.std.proofs.Common.{ap, sym, ◌∙◌, ◌++◌, ◌∷◌, []}
use Rattle.std.specs.FinSet as set
use Rattle.object_keys.proofs.SeenSets.{contains-seen}
use Rattle.keyed_queues.specs.Queues.{added}
use Rattle.keyed_queues.specs.Lists.{said}
use Rattle.keyed_queues.proofs.Steps.{add_shut, add_dirty}
use Rattle.keyed_queues.proofs.Undone.{one_more}
use Rattle.keyed_queues.proofs.queue.KeyedQueue.add_fresh.Goals as goal
use Rattle.keyed_queues.proofs.queue.KeyedQueue.add_fresh.Goals.{then-self-via-then-self, then-self-via-else-self+then-contains}

pub returns-then-self-clause-ok : goal.returns-then-self-clause-ok
returns-then-self-clause-ok g c =
    let q = c.self.inside in
    let m = g.met.K.Named in
    let R = g.K.Named.order in
    let say = g.K.Named.says in
    sym (ap (said R say) c.self.view_is)
    ∙ elim c.then-self.branch [
      | then-self-via-then-self w ↦ add_shut R m.ordered m.apart say g.K.Ord.cmp m.alike q.ready.items q.dirty.keys q.processing.keys q.is_shut c.args.key.now w.if-self.true
      | then-self-via-else-self+then-contains w ↦ add_dirty R m.ordered m.apart say g.K.Ord.cmp m.alike q.ready.items q.dirty.keys q.processing.keys q.is_shut c.args.key.now (sym w.contains.ensures ∙ w.if-contains.true)
    ]
    ∙ ap (λ l. added (say c.args.key.now) (said R say l)) c.self.view_is

pub returns-clause-fresh : goal.returns-clause-fresh
returns-clause-fresh g c first made =
    let q = c.self.inside in
    let m = g.met.K.Named in
    let R = g.K.Named.order in
    let say = g.K.Named.says in
    let k = c.args.key.now in
    one_more say first (said R say c.args.self.now) (said R say c.add.new.self) c.args.fresh.now.items c.push_reserved.new.self.items c.in_ok-noted.noted (say k)
    (c.push_reserved.ensures.items ∙ ap (λ ks. ks ++ c.in_ok-noted.noted ∷ []) c.reserve.ensures.items) c.in_ok-noted.ensures (
      ap (λ l. (said R say l).is_shut) (sym c.self.view_is) ∙ c.if-self.false,
      ap (λ l. set.contains (said R say l).dirty (say k)) (sym c.self.view_is) ∙ contains-seen R m.ordered m.apart say g.K.Ord.cmp m.alike q.dirty.keys k ∙ sym c.contains.ensures ∙ c.if-contains.false,
    )
    (c.in_ok-add.ensures.ok ∙ ap (λ t. added t (said R say c.args.self.now)) c.in_ok-try_copy.ensures) made
