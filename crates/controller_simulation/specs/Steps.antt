-- What a step of a world is.
use Rattle.std.specs.Prelude.{◌≡◌, List}
use Rattle.std.specs.declared.cmp.Ordering.{Ordering}
use Rattle.spec_client_go.specs.Shifts.{Shift}
use Rattle.spec_server.specs.Snapshots.{Snapshot}
use Rattle.object_keys.specs.declared.per_kind.PerKind.{PerKind}
use Rattle.keyed_board.specs.Said.{said}
use Rattle.keyed_board.specs.declared.outcome.Outcome.{Outcome}
use Rattle.controller_simulation.specs.Worlds.{ClusterAfter, IsAllowed, TurnsAfter, board_after}
use Rattle.controller_simulation.specs.declared.events.WorldEvent.{WorldEvent}
use Rattle.controller_simulation.specs.declared.worlds.ControllerWorld.{ControllerWorld}

-- the cluster, the board and the workers made the step that is told, and the controller allows it
pub record IsStep
    {K N : Type 0} (R : N → N → Ordering) (says : K → N) (owes : PerKind Snapshot → Shift → List K → Type 0) (ends : K → PerKind Snapshot → Outcome → Type 0)
    (before after : ControllerWorld K) (told : WorldEvent K) : Type 0 where
  pub cluster : ClusterAfter told before.cluster after.cluster
  pub board : said R says after.board ≡ board_after says told (said R says before.board)
  pub turns : TurnsAfter R says told before after
  pub allowed : IsAllowed owes ends before.cluster before.turns.items told

-- the cluster and the board are as they were
pub record AsBefore {K N : Type 0} (R : N → N → Ordering) (says : K → N) (before after : ControllerWorld K) : Type 0 where
  pub cluster : after.cluster ≡ before.cluster
  pub board : said R says after.board ≡ said R says before.board
