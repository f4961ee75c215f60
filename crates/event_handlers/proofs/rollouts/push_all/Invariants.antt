use Rattle.std.proofs.Common.{◌≡◌, ◌++◌, map}
use Rattle.object_keys.specs.Keys.{key_of}
use Rattle.event_handlers.proofs.rollouts.push_all.Given as goal

-- those added and those still to be added are all
abbrev pub invariant-loop-key : goal.invariant-loop-key
invariant-loop-key l = map key_of l.keys.items ++ map key_of l.key-iterator.rest.items ≡ map key_of l.initial.keys.items ++ map key_of l.fn.more.items
