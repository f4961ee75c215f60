-- A step of a plan that the code takes by itself.
use Rattle.std.specs.Prelude.{List, [], if◌then◌else◌}
use Rattle.std.specs.List.{list_any}
use Rattle.spec_client_go.specs.Commands.{Command}
use Rattle.spec_api.specs.History.{Entries}
use Rattle.spec_reconcile.specs.Deployments.{Rollout, clean_up, first_of, has_running_pods, renew_whole}

-- while a pod of an old set runs nothing is done, and then the new set is started
abbrev pub wait_or_start : Rollout → Entries → List Command
wait_or_start r pods = if list_any (has_running_pods r.key.namespace pods) r.old then [] else first_of (renew_whole r r.new) (clean_up r)
