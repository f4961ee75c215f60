use Rattle.std.proofs.Common.{ap, sym, ◌∙◌, ◌++◌, ◌∷◌, []}
use Rattle.keyed_queues.specs.Queues.{added}
use Rattle.keyed_queues.specs.Lists.{said}
use Rattle.keyed_queues.proofs.Steps.{add_shut, add_dirty, add_held, add_waiting, pushed-seen}
use Rattle.keyed_queues.proofs.queue.KeyedQueue.add.Goals as goal
use Rattle.keyed_queues.proofs.queue.KeyedQueue.add.Goals.{then-self-via-then-self, then-self-via-else-self+then-contains}

pub returns-then-self-clause-ok : goal.returns-then-self-clause-ok
returns-then-self-clause-ok g c =
    let q = c.self.inside in
    let m = g.met.K.Named in
    let R = g.K.Named.order in
    let say = g.K.Named.says in
    sym (ap (said R say) c.self.view_is)
    ∙ elim c.then-self.branch [
      | then-self-via-then-self w ↦ add_shut R m.ordered m.apart say g.K.Ord.cmp m.alike q.ready.items q.dirty.keys q.processing.keys q.is_shut c.args.key w.if-self.true
      | then-self-via-else-self+then-contains w ↦ add_dirty R m.ordered m.apart say g.K.Ord.cmp m.alike q.ready.items q.dirty.keys q.processing.keys q.is_shut c.args.key (sym w.contains.ensures ∙ w.if-contains.true)
    ]
    ∙ ap (λ l. added (say c.args.key) (said R say l)) c.self.view_is

pub returns-then-contains-2-clause-ok : goal.returns-then-contains-2-clause-ok
returns-then-contains-2-clause-ok g c =
    let q = c.self.inside in
    let m = g.met.K.Named in
    let R = g.K.Named.order in
    let say = g.K.Named.says in
    add_held R m.ordered m.apart say g.K.Ord.cmp m.alike q.ready.items q.dirty.keys q.processing.keys q.is_shut c.args.key c.insert.new.self.keys c.if-self.false (sym c.contains.ensures ∙ c.if-contains.false)
    (sym c.contains-2.ensures ∙ c.if-contains-2.true) c.in_ok-insert.ensures.keys
    ∙ ap (λ l. added (say c.args.key) (said R say l)) c.self.view_is

pub returns-clause-ok : goal.returns-clause-ok
returns-clause-ok g c =
    let q = c.self.inside in
    let m = g.met.K.Named in
    let R = g.K.Named.order in
    let say = g.K.Named.says in
    add_waiting R m.ordered m.apart say g.K.Ord.cmp m.alike q.ready.items q.dirty.keys q.processing.keys q.is_shut c.args.key c.push_back_reserved.new.self.items c.insert-2.new.self.keys c.if-self.false
    (sym c.contains.ensures ∙ c.if-contains.false) (sym c.contains-2.ensures ∙ c.if-contains-2.false)
    (pushed-seen say q.ready.items c.push_back_reserved.new.self.items c.args.key c.in_ok-waiting.waiting (c.push_back_reserved.ensures.items ∙ ap (λ ks. ks ++ c.in_ok-waiting.waiting ∷ []) c.reserve.ensures.items) c.in_ok-waiting.ensures)
    c.in_ok-insert-2.ensures.keys
    ∙ ap (λ l. added (say c.args.key) (said R say l)) c.self.view_is
