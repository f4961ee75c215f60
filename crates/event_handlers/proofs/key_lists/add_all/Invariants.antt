use Rattle.std.proofs.Common.{◌≡◌, map}
use Rattle.object_keys.specs.Keys.{key_of}
use Rattle.spec_client_go.specs.OwedKeys.{with_keys, for_controller}
use Rattle.object_keys.specs.WorkKeys.{work_key_of}
use Rattle.event_handlers.proofs.key_lists.add_all.Given as goal

-- with those still to be added, it is all
abbrev pub invariant-loop-key : goal.invariant-loop-key
invariant-loop-key l =
    with_keys (map work_key_of l.owed.keys) (for_controller l.controller (map key_of l.key-iterator.rest.items)) ≡ with_keys (map work_key_of l.initial.owed.keys) (for_controller l.controller (map key_of l.fn.keys.items))
