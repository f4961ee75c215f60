use Rattle.std.proofs.Common.{◌≡◌, ◌++◌, map, drop, not}
use Rattle.std.specs.Prelude.{filter}
use Rattle.serde_json.specs.View.{view}
use Rattle.spec_api.specs.Metadata.{owner}
use Rattle.spec_reconcile.specs.PodClaims.{is_to_controller}
use Rattle.replicaset.proofs.references.others.Given as goal

abbrev pub invariant-loop-reference : goal.invariant-loop-reference
invariant-loop-reference l =
    map view l.others.items ++ filter (λ r. not (is_to_controller l.set.value (owner r))) (map view (drop l.reference-index l.references))
    ≡ filter (λ r. not (is_to_controller l.set.value (owner r))) (map view l.references)
