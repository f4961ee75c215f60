use Rattle.std.proofs.Common.{◌≡◌, IfOk, List, map, length, sym, ap, ◌∙◌, subst}
use Rattle.spec_client_go.specs.Commands.{Command}
use Rattle.reconcile_types.specs.Commands.{command_of}
use Rattle.deployment.proofs.Cases.{first_case, later_case}
use Rattle.deployment.specs.Sets.{rollout_seen}
use Rattle.serde_json.specs.Data.{Data}
use Rattle.spec_api.specs.Keys.{Key}
use Rattle.spec_reconcile.specs.Deployments.{scale_each}
use Rattle.deployment.specs.Steps.{wait_or_start}
use Rattle.reconcile_types.specs.Hands.{members_of}
use Rattle.reconcile_types.specs.Entries.{entry_of}
use Rattle.reconcile_types.specs.declared.entries.Entry.{Entry}
use Rattle.deployment.proofs.recreating.recreate.Goals as goal

abbrev stops : List Entry → List Command
stops es = scale_each (map entry_of es) (map (λ (s : Key × Data). 0) (map entry_of es))

pub returns-then-as_slice-ne0 : goal.returns-then-as_slice-ne0
returns-then-as_slice-ne0 g c =
    let items = c.in_ok-commands.commands.items in
    first_case items (scale_each (rollout_seen c.args.rollout.now).old (map (λ (s : Key × Data). 0) (rollout_seen c.args.rollout.now).old)) (wait_or_start (rollout_seen c.args.rollout.now) (members_of g.S.Seen.snapshot c.args.pods.now)) (c.in_ok-commands.ensures ∙ ap stops c.as_slice.ensures.value) (λ z. c.if-as_slice-ne0.true (ap length c.as_slice-2.ensures.value ∙ z))

pub returns : goal.returns
returns g c =
    let items = c.in_ok-commands.commands.items in
    let none = sym (ap length c.as_slice-2.ensures.value) ∙ c.if-as_slice-ne0.false in
    subst (λ (later : List Command). IfOk c.wait_or_start.result (λ v. map command_of v.items ≡ later))
    (later_case items (scale_each (rollout_seen c.args.rollout.now).old (map (λ (s : Key × Data). 0) (rollout_seen c.args.rollout.now).old)) (wait_or_start (rollout_seen c.args.rollout.now) (members_of g.S.Seen.snapshot c.args.pods.now)) (c.in_ok-commands.ensures ∙ ap stops c.as_slice.ensures.value) none) c.wait_or_start.ensures
