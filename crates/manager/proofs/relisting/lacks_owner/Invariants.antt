use Rattle.std.proofs.Common.{◌≡◌, map}
use Rattle.std.specs.List.{list_any}
use Rattle.meta.specs.Owners.{owner_of}
use Rattle.reconcile_types.specs.Hands.{looks_of}
use Rattle.spec_client_go.specs.OwnerReferences.{namespace_of}
use Rattle.manager.specs.Relisted.{is_lost, lacks_owner}
use Rattle.manager.proofs.relisting.lacks_owner.Given as goal

-- it is one of those still to be looked at
abbrev pub invariant-loop-owner : goal.invariant-loop-owner
invariant-loop-owner l =
    list_any (is_lost (looks_of (λ m. m) l.looks) (namespace_of l.object.value)) (map owner_of l.owner-iterator.rest.items) ≡ lacks_owner (looks_of (λ m. m) l.looks) l.object.value
