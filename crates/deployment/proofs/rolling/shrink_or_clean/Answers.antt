use Rattle.std.proofs.Common.{◌≡◌, IfOk, List, map, length, sym, ap, ◌∙◌, subst}
use Rattle.spec_client_go.specs.Commands.{Command}
use Rattle.reconcile_types.specs.Commands.{command_of}
use Rattle.deployment.proofs.Cases.{first_case, later_case}
use Rattle.deployment.specs.Sets.{rollout_seen}
use Rattle.reconcile_types.specs.Entries.{entry_of}
use Rattle.spec_reconcile.specs.Deployments.{clean_up, scale_each, tally}
use Rattle.spec_reconcile.specs.Rollouts.{shrunk}
use Rattle.deployment.proofs.rolling.shrink_or_clean.Goals as goal

pub returns-then-as_slice-ne0 : goal.returns-then-as_slice-ne0
returns-then-as_slice-ne0 c =
    let items = c.in_ok-commands.commands.items in
    first_case items (scale_each (rollout_seen c.args.rollout.now).old (shrunk c.args.pace (tally (entry_of c.args.new.now)) (map tally (rollout_seen c.args.rollout.now).old))) (clean_up (rollout_seen c.args.rollout.now)) c.in_ok-commands.ensures (λ z. c.if-as_slice-ne0.true (ap length c.as_slice.ensures.value ∙ z))

pub returns : goal.returns
returns c =
    let items = c.in_ok-commands.commands.items in
    let none = sym (ap length c.as_slice.ensures.value) ∙ c.if-as_slice-ne0.false in
    subst (λ (later : List Command). IfOk c.clean_up.result (λ v. map command_of v.items ≡ later))
    (later_case items (scale_each (rollout_seen c.args.rollout.now).old (shrunk c.args.pace (tally (entry_of c.args.new.now)) (map tally (rollout_seen c.args.rollout.now).old))) (clean_up (rollout_seen c.args.rollout.now)) c.in_ok-commands.ensures none) c.clean_up.ensures
