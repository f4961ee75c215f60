use Rattle.std.proofs.Common.{◌≡◌, ◌++◌, map, drop}
use Rattle.std.specs.Prelude.{filter}
use Rattle.serde_json.specs.Data.{Data}
use Rattle.spec_api.specs.Keys.{Key}
use Rattle.spec_reconcile.specs.Deployments.{delete_set, is_spent}
use Rattle.reconcile_types.specs.Commands.{command_of}
use Rattle.reconcile_types.specs.Entries.{entry_of}
use Rattle.deployment.proofs.cleaning.delete_spent.Given as goal

abbrev pub invariant-loop-set : goal.invariant-loop-set
invariant-loop-set l =
    map command_of l.commands.items ++ map delete_set (filter (λ (s : Key × Data). is_spent s.1) (map entry_of (drop l.set-index l.sets)))
    ≡ map delete_set (filter (λ (s : Key × Data). is_spent s.1) (map entry_of l.sets))
