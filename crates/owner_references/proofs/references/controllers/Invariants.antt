use Rattle.std.proofs.Common.{◌≡◌, ◌++◌, map, filter}
use Rattle.spec_api.specs.Metadata.{owners}
use Rattle.meta.specs.Owners.{owner_of}
use Rattle.spec_client_go.specs.OwnerReferences.{controls_as}
use Rattle.owner_references.proofs.references.controllers.Given as goal

-- those found and those still to be found are all
abbrev pub invariant-loop-owner : goal.invariant-loop-owner
invariant-loop-owner l = map owner_of l.found.items ++ filter (controls_as l.kind) (map owner_of l.owner-iterator.rest.items) ≡ filter (controls_as l.kind) (owners l.object.value)
