use Rattle.std.proofs.Common.{◌≡◌, ◌<◌, ◌^◌, map, drop, max}
use Rattle.serde_json.specs.Data.{Data}
use Rattle.spec_api.specs.Keys.{Key}
use Rattle.spec_reconcile.specs.Revisions.{greatest, revision}
use Rattle.reconcile_types.specs.Entries.{entry_of}
use Rattle.deployment.proofs.rollout.greatest_revision.Given as goal

abbrev pub invariant-loop-set : goal.invariant-loop-set
invariant-loop-set l =
    (max l.greatest (greatest (map (λ (s : Key × Data). revision s.1) (map entry_of (drop l.set-index l.sets)))) ≡ greatest (map (λ (s : Key × Data). revision s.1) (map entry_of l.sets)))
    × (l.greatest < 2 ^ 60)
