use Rattle.std.proofs.Common.{◌≡◌, ◌++◌, map}
use Rattle.object_keys.specs.WorkKeys.{work_key_of}
use Rattle.reconcile_types.specs.Entries.{entry_of}
use Rattle.spec_client_go.specs.OwedKeys.{for_controller}
use Rattle.manager.specs.Relisted.{keys_in}
use Rattle.manager.proofs.relisting.add_all_in.Given as goal

-- those appended and those still to be appended are all
abbrev pub invariant-loop-entry : goal.invariant-loop-entry
invariant-loop-entry l =
    map work_key_of l.keys.items ++ for_controller l.controller (keys_in (map entry_of l.entry-iterator.rest.items))
    ≡ map work_key_of l.fn.keys.items ++ for_controller l.controller (keys_in l.objects.members)
