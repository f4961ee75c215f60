use Rattle.std.proofs.Common.{ap, ◌∙◌, ◌+◌, min, unwrap_or}
use Rattle.std.specs.FinMap as map_of
use Rattle.spec_client_go.specs.Delays.{delay_after}
use Rattle.keyed_queues.specs.Numbers.{said}
use Rattle.keyed_queues.proofs.Numbers.{inserted}
use Rattle.keyed_queues.specs.Failures.{failed, failures}
use Rattle.keyed_queues.proofs.Counts.{counted}
use Rattle.keyed_queues.proofs.backoff.KeyedBackoff.delay.Goals as goal

pub returns-clause-ok : goal.returns-clause-ok
returns-clause-ok g c =
    let m = g.met.K.Named in
    let R = g.K.Named.order in
    let say = g.K.Named.says in
    let es = c.self.inside.failures.entries in
    let before = c.unwrap_or-before.ensures ∙ ap (λ o. unwrap_or o 0) c.copied.ensures ∙ counted R m.ordered m.apart say g.K.Ord.cmp m.alike es c.args.key.now _ c.get.ensures.value in
    inserted R m.ordered m.apart say g.K.Ord.cmp m.alike es c.insert.new.self.entries c.in_ok-kept.kept c.one_more.result c.in_ok-insert.ensures.entries
    ∙ (λ i. map_of.insert (said R say es) (c.in_ok-kept.ensures i) ((c.one_more.ensures ∙ ap (λ n. min (n + 1) 32) before) i))
    ∙ ap (λ l. failed (say c.args.key.now) (said R say l)) c.self.view_is

pub returns-clause-delay : goal.returns-clause-delay
returns-clause-delay g c =
    let m = g.met.K.Named in
    let R = g.K.Named.order in
    let say = g.K.Named.says in
    let es = c.self.inside.failures.entries in
    c.delay_of.ensures
    ∙ ap delay_after
    (c.unwrap_or-before.ensures
    ∙ ap (λ o. unwrap_or o 0) c.copied.ensures
    ∙ counted R m.ordered m.apart say g.K.Ord.cmp m.alike es c.args.key.now _ c.get.ensures.value
    ∙ ap (λ l. failures (say c.args.key.now) (said R say l)) c.self.view_is)
