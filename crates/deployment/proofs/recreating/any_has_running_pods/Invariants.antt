use Rattle.std.proofs.Common.{◌≡◌, map, drop}
use Rattle.std.specs.List.{list_any}
use Rattle.spec_reconcile.specs.Deployments.{has_running_pods}
use Rattle.reconcile_types.specs.Entries.{entry_of}
use Rattle.reconcile_types.specs.Hands.{members_of}
use Rattle.deployment.proofs.recreating.any_has_running_pods.Given as goal

abbrev pub invariant-loop-set : goal.invariant-loop-set
invariant-loop-set g l =
    list_any (has_running_pods l.namespace (members_of g.S.Seen.snapshot l.look)) (map entry_of (drop l.set-index l.sets)) ≡ list_any (has_running_pods l.namespace (members_of g.S.Seen.snapshot l.look)) (map entry_of l.sets)
