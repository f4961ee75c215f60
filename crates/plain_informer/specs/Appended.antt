-- Deltas that wait to be published.
use Rattle.std.specs.Prelude.{List, ◌++◌, Bool, true, false}
use Rattle.std.specs.List.{list_any}
use Rattle.spec_client_go.specs.Informers.{Informer}
use Rattle.spec_client_go.specs.Reflectors.{Delta, replace, put, remove, mark}

-- more deltas wait, in their order
abbrev pub all_appended : Informer → List Delta → Informer
all_appended i ds = record { published = i.published; pending = i.pending ++ ds }

-- whether a delta puts a whole list in the place of all that was there: a list that was read, or initial events that were closed
abbrev pub is_list : Delta → Bool
is_list (replace r os) = true
is_list (put o) = false
is_list (remove r k) = false
is_list (mark r) = false

-- whether one of those that wait does
abbrev pub has_list : List Delta → Bool
has_list ds = list_any is_list ds
