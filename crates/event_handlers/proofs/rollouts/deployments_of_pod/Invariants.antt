use Rattle.std.proofs.Common.{◌≡◌, ◌++◌, map, flat_map}
use Rattle.object_keys.specs.Keys.{key_of}
use Rattle.meta.specs.Owners.{owner_of}
use Rattle.spec_client_go.specs.OwnerReferences.{namespace_of}
use Rattle.spec_client_go.specs.OwedKeys.{deployments_over, deployments_of_pod}
use Rattle.event_handlers.proofs.rollouts.deployments_of_pod.Given as goal

-- those found and those still to be found are all
abbrev pub invariant-loop-owner : goal.invariant-loop-owner
invariant-loop-owner g l =
    map key_of l.keys.items ++ flat_map (deployments_over (g.S.Seen.snapshot l.sets).members (namespace_of l.pod.value)) (map owner_of l.owner-iterator.rest.items)
    ≡ deployments_of_pod (g.S.Seen.snapshot l.sets).members l.pod.value
