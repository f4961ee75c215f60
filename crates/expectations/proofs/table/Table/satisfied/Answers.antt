use Rattle.std.proofs.Common.{ap, ◌∙◌}
use Rattle.spec_client_go.specs.Expectations.{satisfied}
use Rattle.expectations.proofs.Steps.{owner, satisfied_where, satisfied_without}
use Rattle.expectations.proofs.table.Table.satisfied.Goals as goal

pub returns-in-Some : goal.returns-in-Some
returns-in-Some c =
    c.is_satisfied.ensures
    ∙ satisfied_where c.args.now c.args.key.now c.args.uid.now c.self.inside.by_key.entries c.in-Some.owners.now c.in-Some.ensures.value
    ∙ ap (satisfied (owner c.args.key.now c.args.uid.now) c.args.now) c.self.view_is

pub returns-in-None : goal.returns-in-None
returns-in-None c =
    satisfied_without c.args.now c.args.key.now c.args.uid.now c.self.inside.by_key.entries c.in-None.ensures.value
    ∙ ap (satisfied (owner c.args.key.now c.args.uid.now) c.args.now) c.self.view_is
