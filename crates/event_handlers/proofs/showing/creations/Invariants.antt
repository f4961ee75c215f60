use Rattle.std.proofs.Common.{◌≡◌, ◌++◌, map}
use Rattle.spec_client_go.specs.Boards.{creation_observed}
use Rattle.work_board.specs.Seen.{observation_of, owner_of}
use Rattle.event_handlers.proofs.showing.creations.Given as goal

-- those found and those still to be found are all
abbrev pub invariant-loop-owner : goal.invariant-loop-owner
invariant-loop-owner l =
    map observation_of l.found.items ++ map creation_observed (map owner_of l.owner-iterator.rest.items) ≡ map creation_observed (map owner_of l.fn.sets.items)
