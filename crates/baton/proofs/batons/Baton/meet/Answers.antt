use Rattle.std.proofs.Common.{◌∙◌, ap}
use Rattle.std.specs.Prelude.{is_some}
use Rattle.crossbeam_queue.specs.Passes.{view}
use Rattle.baton.proofs.Meetings.{spares, hosts, meets, parts}
use Rattle.baton.proofs.batons.Baton.meet.Goals as goal

pub another-spare-requires-clause-rule : goal.another-spare-requires-clause-rule
another-spare-requires-clause-rule g c = spares g.L.Law.opens g.L.Law.gives g.L.Law.follows c.args.one.now.id (view c.args.one.now) c.requires.one.1 c.requires.one.0.2

pub absorb-requires-clause-rule : goal.absorb-requires-clause-rule
absorb-requires-clause-rule g c =
    let one = c.another-spare.new.pass in let other = c.replace-guest.result in
    hosts g.L.Law.opens g.L.Law.gives g.L.Law.follows one.id (view one) other.id (view other) (ap (λ v. v.own.holds) c.another-spare.ensures.rule.0 ∙ c.requires.one.1)
    (rw c.replace-guest.ensures.value c.requires.other.1) (ap (λ v. v.guest) c.another-spare.ensures.rule.0) (rw c.replace-guest.ensures.value c.requires.other.0.2)

pub learn_as-requires-clause-rule : goal.learn_as-requires-clause-rule
learn_as-requires-clause-rule g c =
    let one = c.absorb.new.pass in
    let first = c.another-spare.ensures.rule.0 in let both = c.absorb.ensures.rule in
    meets g.L.Law.opens g.L.Law.gives g.L.Law.follows one.id (view one) (ap (λ v. v.own.holds) both ∙ ap (λ v. v.own.holds) first ∙ c.requires.one.1)
    (ap (λ v. is_some v.own.opening) both ∙ ap (λ v. is_some v.own.opening) first ∙ c.requires.one.0.1)
    (ap (λ v. is_some v.guest.opening) both ∙ (rw c.replace-guest.ensures.value c.requires.other.0.1))

pub another-requires-clause-rule : goal.another-requires-clause-rule
another-requires-clause-rule g c =
    let one = c.learn_as.new.pass in let same = c.learn_as.ensures.queue.1 in
    let first = c.another-spare.ensures.rule.0 in let both = c.absorb.ensures.rule in
    parts g.L.Law.opens g.L.Law.gives g.L.Law.follows one.id (view one) (ap (λ v. v.own.holds) same ∙ ap (λ v. v.own.holds) both ∙ ap (λ v. v.own.holds) first ∙ c.requires.one.1)
    (ap (λ v. v.guest.holds) same ∙ ap (λ v. v.guest.holds) both ∙ (rw c.replace-guest.ensures.value c.requires.other.1))
