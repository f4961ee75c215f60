-- What is looked at again after a list that is not the first. What was made and removed since the publish before it shows in no change, so it owes no key.
use Rattle.std.specs.Prelude.{List, [], ◌∷◌, ◌++◌, map, Option, None}
use Rattle.serde_json.specs.Data.{Data}
use Rattle.spec_api.specs.History.{Entries}
use Rattle.spec_client_go.specs.Shifts.{Shift, shift_at}
use Rattle.spec_server.specs.Snapshots.{Snapshot}
use Rattle.object_keys.specs.declared.per_kind.PerKind.{PerKind}

-- each object that is shown counts as a change with itself as old and new
abbrev pub unchanged : Entries → List Shift
unchanged ms = map (λ m. shift_at ms ms m.0) ms

-- those of all kinds: of a kind that is not followed nothing is shown
abbrev pub all_unchanged : PerKind Snapshot → List Shift
all_unchanged maps =
    unchanged maps.config_maps.members ++ (unchanged maps.pods.members ++ (unchanged maps.replica_sets.members ++ unchanged maps.deployments.members))

-- what the first of these changes removes
abbrev pub removed_in : List Shift → Option Data
removed_in [] = None
removed_in (s ∷ ss) = s.old
