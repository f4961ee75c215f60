use Rattle.std.proofs.Common.{◌≡◌, map}
use Rattle.std.specs.List.{list_any}
use Rattle.spec_api.specs.Metadata.{Owner}
use Rattle.meta.specs.Owners.{owner_of}
use Rattle.spec_client_go.specs.OwnerReferences.{has_controller}
use Rattle.event_handlers.proofs.looking.has_controller.Given as goal

-- it is one of those still to be looked at
abbrev pub invariant-loop-owner : goal.invariant-loop-owner
invariant-loop-owner l = list_any (λ (o : Owner). o.is_controller) (map owner_of l.owner-iterator.rest.items) ≡ has_controller l.object.value
