-- Why a publish is given to a sink.
use Rattle.std.specs.Prelude.{Bool, true, false, if◌then◌else◌}
use Rattle.list_and_watch.specs.declared.causes.Cause.{Cause}
use Rattle.list_and_watch.specs.declared.causes.Cause.TheVariants.{FirstList, LaterList, Changes}

-- it is the first that the sink takes
abbrev pub is_first : Cause → Bool
is_first FirstList = true
is_first LaterList = false
is_first Changes = false

-- the first until it is taken; then by whether a whole list is among what is published
abbrev pub cause_after : Cause → Bool → Cause
cause_after FirstList has_list = FirstList
cause_after LaterList has_list = if has_list then LaterList else Changes
cause_after Changes has_list = if has_list then LaterList else Changes
