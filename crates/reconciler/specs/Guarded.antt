-- Changes that can be refused where another has written since (Kubernetes API Concepts, Resource versions).
use Rattle.std.specs.Prelude.{◌≡◌, Option, Some, None, Result, Ok, Err, is_some, if◌then◌else◌, ⊤}
use Rattle.serde_json.specs.Data.{Data}
use Rattle.spec_api.specs.Metadata.{version}
use Rattle.spec_api.specs.ObjectRequests as words
use Rattle.keyed_board.specs.declared.failure.Failure.{Failure}
use Rattle.keyed_board.specs.declared.failure.Failure.TheVariants.{Refused, NoReply, NoMemory, NoVersion, Other}

-- a change of an object that was seen is asked for where it was seen with a version, and else not
abbrev pub guarded : Data → Option words.Request → Result (Option words.Request) Failure
guarded d None = Ok None
guarded d (Some request) = if is_some (version d) then Ok (Some request) else Err NoVersion

-- why there is none of what is to be asked: it is refused for want of a version, or memory ran out
abbrev pub Refuses : Result (Option words.Request) Failure → Failure → Type 0
Refuses wanted (Refused code seconds) = ⊥
Refuses wanted NoReply = ⊥
Refuses wanted NoMemory = ⊤
Refuses wanted NoVersion = wanted ≡ Err NoVersion
Refuses wanted (Other words) = ⊥
