-- Changes as code has them, and what their parts show.
use Rattle.std.specs.Prelude.{◌&&◌, not, List, [], ◌++◌, flat_map, Option, option_map, if◌then◌else◌}
use Rattle.std.specs.Borrow.{Bor}
use Rattle.serde_json.specs.Data.{Data}
use Rattle.spec_api.specs.Keys.{Key}
use Rattle.spec_api.specs.Metadata.{is_being_deleted}
use Rattle.spec_api.specs.Objects.{Object}
use Rattle.spec_client_go.specs.Boards.{Observation}
use Rattle.spec_client_go.specs.OwedKeys.{one_of}
use Rattle.spec_sim.specs.PodObservations.{is_same_pod, was_being_deleted, creation, deletion, seen_now, seen_no_more}

-- the data of an object, if there is one
abbrev pub data_of : Option (Bor Object) → Option Data
data_of o = option_map (λ b. b.now.value) o

-- what a pod shows by being seen first, and by being deleted
abbrev pub seen_first : Option Data → Data → List Observation
seen_first old pod = if is_same_pod pod old then [] else creation pod

abbrev pub seen_deleted : Option Data → Data → List Observation
seen_deleted old pod = if is_being_deleted pod && not (was_being_deleted pod old) then deletion pod else []

-- what the objects of a change show, the one that was there and the one that is
abbrev pub of_old : Option Data → Option Data → List Observation
of_old old new = flat_map (seen_no_more new) (one_of old)

abbrev pub of_new : Option Data → Option Data → List Observation
of_new old new = flat_map (seen_now old) (one_of new)
