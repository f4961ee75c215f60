use Rattle.std.proofs.Common.{◌≡◌, ◌++◌, map, filter_map}
use Rattle.spec_api.specs.Metadata.{Owner}
use Rattle.object_keys.specs.Keys.{key_of}
use Rattle.meta.specs.Owners.{owner_of}
use Rattle.spec_client_go.specs.OwnerReferences.{key_named}
use Rattle.owner_references.proofs.references.keys_of_kind.Given as goal

-- those found and those still to be found are all
abbrev pub invariant-loop-owner : goal.invariant-loop-owner
invariant-loop-owner l =
    map key_of l.keys.items ++ filter_map (λ (o : Owner). key_named l.namespace l.kind o.name) (map owner_of l.owner-iterator.rest.items)
    ≡ filter_map (λ (o : Owner). key_named l.namespace l.kind o.name) (map owner_of l.fn.owners.items)
