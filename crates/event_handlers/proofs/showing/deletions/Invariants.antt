use Rattle.std.proofs.Common.{◌≡◌, ◌++◌, map}
use Rattle.spec_client_go.specs.Boards.{deletion_observed}
use Rattle.spec_client_go.specs.Expectations.{Owner}
use Rattle.work_board.specs.Seen.{observation_of, owner_of}
use Rattle.event_handlers.proofs.showing.deletions.Given as goal

-- those found and those still to be found are all
abbrev pub invariant-loop-owner : goal.invariant-loop-owner
invariant-loop-owner l =
    map observation_of l.found.items ++ map (λ (o : Owner). deletion_observed o l.uid) (map owner_of l.owner-iterator.rest.items)
    ≡ map (λ (o : Owner). deletion_observed o l.uid) (map owner_of l.fn.sets.items)
