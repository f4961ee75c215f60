use Rattle.std.proofs.Common.{◌≡◌, ◌++◌, map}
use Rattle.object_keys.specs.WorkKeys.{work_key_of}
use Rattle.reconcile_types.specs.Entries.{entry_of}
use Rattle.reconcile_types.specs.Hands.{looks_of}
use Rattle.spec_client_go.specs.OwedKeys.{for_controller}
use Rattle.spec_client_go.specs.declared.controller.Controller.TheVariants.{Collector}
use Rattle.manager.specs.Relisted.{lacking_in}
use Rattle.manager.proofs.relisting.add_lacking_in.Given as goal

-- those appended and those still to be looked at are all
abbrev pub invariant-loop-entry : goal.invariant-loop-entry
invariant-loop-entry l =
    map work_key_of l.keys.items ++ for_controller Collector (lacking_in (looks_of (λ m. m) l.looks) (map entry_of l.entry-iterator.rest.items))
    ≡ map work_key_of l.fn.keys.items ++ for_controller Collector (lacking_in (looks_of (λ m. m) l.looks) l.objects.members)
