use Rattle.std.proofs.Common.{◌≡◌, ◌++◌, map, string_bytes}
use Rattle.spec_client_go.specs.Boards.{deletion_observed}
use Rattle.work_board.specs.Seen.{owner_of, observation_of}
use Rattle.reconcile_turn.proofs.observing.add_deletions.Given as goal

-- those so far and those still to come are all
abbrev pub invariant-loop-pod : goal.invariant-loop-pod
invariant-loop-pod l =
    map observation_of l.observations.items ++ map (deletion_observed (owner_of l.owner)) (map string_bytes l.pod-iterator.rest.items)
    ≡ map observation_of l.fn.observations.items ++ map (deletion_observed (owner_of l.owner)) (map string_bytes l.fn.pods.items)
