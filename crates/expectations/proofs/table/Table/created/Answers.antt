use Rattle.std.proofs.Common.{◌-◌}
use Rattle.std.proofs.Common.{ap, ◌∙◌}
use Rattle.spec_client_go.specs.Expectations.{created}
use Rattle.expectations.proofs.Steps.{is_there, owner, table_of, changed_key, unchanged_key}
use Rattle.expectations.proofs.table.Table.created.Goals as goal
use Rattle.expectations.proofs.table.Table.created.Goals.{in-Some, in_default}

pub returns : goal.returns
returns c =
    elim c.match-get_mut.branch [
      | in-Some w ↦
          let there = (c.get_mut.follows.holds w.see_created.new.owners).3 (is_there _ _ w.in-Some.ensures.value) in
          ap (λ t. table_of t.by_key.entries) w.self-inside-is
          ∙ changed_key (λ e. record e { creations = e.creations - 1 }) c.args.key.now c.args.uid.now c.self.inside.by_key.entries (c.get_mut.follows.lender w.see_created.new.owners).entries w.in-Some.owners.now w.see_created.new.owners w.in-Some.ensures.value there.1 there.3 w.see_created.ensures
      | in_default w ↦
          ap (λ t. table_of t.by_key.entries) w.self-inside-is
          ∙ ap (λ m. table_of m.entries) c.get_mut.follows.holds-at-none
          ∙ unchanged_key (λ e. record e { creations = e.creations - 1 }) c.args.key.now c.args.uid.now c.self.inside.by_key.entries w.in_default.ensures.value
    ]
    ∙ ap (created (owner c.args.key.now c.args.uid.now)) c.self.view_is
