use Rattle.std.proofs.Common.{◌≡◌, ◌++◌, map, filter_map}
use Rattle.meta.specs.Owners.{owner_of as reference_of}
use Rattle.work_board.specs.Seen.{owner_of}
use Rattle.spec_sim.specs.PodObservations.{set_named}
use Rattle.event_handlers.proofs.sets.sets_in.Given as goal

-- those found and those still to be found are all
abbrev pub invariant-loop-reference : goal.invariant-loop-reference
invariant-loop-reference l =
    map owner_of l.sets.items ++ filter_map (set_named l.namespace) (map reference_of l.reference-iterator.rest.items) ≡ filter_map (set_named l.namespace) (map reference_of l.fn.references.items)
