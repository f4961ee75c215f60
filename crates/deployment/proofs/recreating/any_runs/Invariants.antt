use Rattle.std.proofs.Common.{◌≡◌, map, drop, not}
use Rattle.std.specs.List.{list_any}
use Rattle.serde_json.specs.Data.{Data}
use Rattle.spec_api.specs.Keys.{Key}
use Rattle.spec_reconcile.specs.Deployments.{is_over}
use Rattle.reconcile_types.specs.Entries.{entry_of}
use Rattle.deployment.proofs.recreating.any_runs.Given as goal

abbrev pub invariant-loop-pod : goal.invariant-loop-pod
invariant-loop-pod l =
    list_any (λ (p : Key × Data). not (is_over p.1)) (map entry_of (drop l.pod-index l.pods)) ≡ list_any (λ (p : Key × Data). not (is_over p.1)) (map entry_of l.pods)
