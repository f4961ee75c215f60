use Rattle.std.proofs.Common.{◌≡◌, IfOk, List, map, length, sym, ap, ◌∙◌, subst}
use Rattle.spec_client_go.specs.Commands.{Command}
use Rattle.reconcile_types.specs.Commands.{command_of}
use Rattle.deployment.proofs.Cases.{first_case, later_case}
use Rattle.deployment.specs.Sets.{rollout_seen}
use Rattle.reconcile_types.specs.Entries.{entry_of}
use Rattle.std.proofs.Common.{◌∷◌}
use Rattle.spec_reconcile.specs.Counts.{replicas}
use Rattle.spec_reconcile.specs.Deployments.{asked_by, clean_up, due, first_of, renew, scale_each, tally}
use Rattle.spec_reconcile.specs.Rollouts.{resized, shrunk}
use Rattle.deployment.proofs.rolling.roll_on.Goals as goal

pub returns-then-as_slice-ne0 : goal.returns-then-as_slice-ne0
returns-then-as_slice-ne0 c =
    let items = c.in_ok-commands.commands.items in
    first_case items (renew (entry_of c.args.new.now) (resized c.args.pace (asked_by (entry_of c.args.new.now ∷ (rollout_seen c.args.rollout.now).old)) (replicas (entry_of c.args.new.now).1)) (due (rollout_seen c.args.rollout.now))) (first_of (scale_each (rollout_seen c.args.rollout.now).old (shrunk c.args.pace (tally (entry_of c.args.new.now)) (map tally (rollout_seen c.args.rollout.now).old))) (clean_up (rollout_seen c.args.rollout.now))) c.in_ok-commands.ensures (λ z. c.if-as_slice-ne0.true (ap length c.as_slice.ensures.value ∙ z))

pub returns : goal.returns
returns c =
    let items = c.in_ok-commands.commands.items in
    let none = sym (ap length c.as_slice.ensures.value) ∙ c.if-as_slice-ne0.false in
    subst (λ (later : List Command). IfOk c.shrink_or_clean.result (λ v. map command_of v.items ≡ later))
    (later_case items (renew (entry_of c.args.new.now) (resized c.args.pace (asked_by (entry_of c.args.new.now ∷ (rollout_seen c.args.rollout.now).old)) (replicas (entry_of c.args.new.now).1)) (due (rollout_seen c.args.rollout.now))) (first_of (scale_each (rollout_seen c.args.rollout.now).old (shrunk c.args.pace (tally (entry_of c.args.new.now)) (map tally (rollout_seen c.args.rollout.now).old))) (clean_up (rollout_seen c.args.rollout.now))) c.in_ok-commands.ensures none) c.shrink_or_clean.ensures
