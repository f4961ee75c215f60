use Rattle.std.proofs.Common.{◌≡◌, ◌++◌, map, replicate}
use Rattle.spec_client_go.specs.Boards.{creation_observed}
use Rattle.work_board.specs.Seen.{owner_of, observation_of}
use Rattle.reconcile_turn.proofs.observing.add_creations.Given as goal

abbrev pub invariant-loop : goal.invariant-loop
invariant-loop l = map observation_of l.observations.items ≡ map observation_of l.fn.observations.items ++ replicate l.counter (creation_observed (owner_of l.owner))
