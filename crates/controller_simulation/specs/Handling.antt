-- How a published change is handled.
use Rattle.std.specs.Prelude.{◌≡◌, List, map, Option, Some, None, Vec}
use Rattle.std.specs.Global.{Global}
use Rattle.std.specs.declared.cmp.Ordering.{Ordering}
use Rattle.spec_api.specs.declared.kinds.Kind.{Kind}
use Rattle.spec_client_go.specs.Shifts.{Shift}
use Rattle.spec_server.specs.Snapshots.{Snapshot}
use Rattle.object_keys.specs.declared.per_kind.PerKind.{PerKind}
use Rattle.keyed_board.specs.Boards.{with_keys}
use Rattle.keyed_board.specs.Said.{said}
use Rattle.sim_cluster.specs.Changes.{without_oldest}
use Rattle.controller_simulation.specs.Worlds.{AreOfOldest, oldest_in}
use Rattle.controller_simulation.specs.declared.worlds.ControllerWorld.{ControllerWorld}

-- the keys that the oldest change of a kind owes were added, and it is handled; or there is none, and all is as it was
abbrev pub Handles :
    {K N : Type 0} (R : N → N → Ordering) → (K → N) → (PerKind Snapshot → Shift → List K → Type 0) → Kind → ControllerWorld K → ControllerWorld K → Option (Vec K Global) → Type 0
Handles R says owes k before after None = (oldest_in k before.cluster ≡ None) × (after.cluster ≡ before.cluster) × (said R says after.board ≡ said R says before.board)
Handles R says owes k before after (Some keys) =
    AreOfOldest owes before.cluster k keys.items × (after.cluster ≡ without_oldest k before.cluster)
    × (said R says after.board ≡ with_keys (map says keys.items) (said R says before.board))
