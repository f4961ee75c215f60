use Rattle.std.proofs.Common.{◌≡◌, IfOk, List, map, length, sym, ap, ◌∙◌, subst}
use Rattle.spec_client_go.specs.Commands.{Command}
use Rattle.reconcile_types.specs.Commands.{command_of}
use Rattle.deployment.proofs.Cases.{first_case, later_case}
use Rattle.deployment.specs.Sets.{rollout_seen}
use Rattle.spec_reconcile.specs.Deployments.{clean_up, renew_whole}
use Rattle.deployment.proofs.recreating.start_new.Goals as goal

pub returns-then-as_slice-ne0 : goal.returns-then-as_slice-ne0
returns-then-as_slice-ne0 c =
    let items = c.in_ok-commands.commands.items in
    first_case items (renew_whole (rollout_seen c.args.rollout.now) (rollout_seen c.args.rollout.now).new) (clean_up (rollout_seen c.args.rollout.now)) c.in_ok-commands.ensures (λ z. c.if-as_slice-ne0.true (ap length c.as_slice.ensures.value ∙ z))

pub returns : goal.returns
returns c =
    let items = c.in_ok-commands.commands.items in
    let none = sym (ap length c.as_slice.ensures.value) ∙ c.if-as_slice-ne0.false in
    subst (λ (later : List Command). IfOk c.clean_up.result (λ v. map command_of v.items ≡ later))
    (later_case items (renew_whole (rollout_seen c.args.rollout.now) (rollout_seen c.args.rollout.now).new) (clean_up (rollout_seen c.args.rollout.now)) c.in_ok-commands.ensures none) c.clean_up.ensures
