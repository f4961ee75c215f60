-- A map of objects as its members.
use Rattle.std.specs.Prelude.{◌≡◌, List, map}
use Rattle.std.specs.List.{AllByRecursion}
use Rattle.spec_api.specs.History.{Entries}
use Rattle.object_keys.specs.Keys.{key_of}
use Rattle.object_keys.specs.declared.key.Key.{Key}
use Rattle.reflector.specs.declared.shared_objects.SharedObject.{SharedObject}

-- keys and objects as names and data
abbrev pub members_seen : List (Key × SharedObject) → Entries
members_seen es = map (λ e. (key_of e.0, e.1.value)) es

-- each object is of the kind of its key
abbrev pub HaveKinds : List (Key × SharedObject) → Type 0
HaveKinds es = AllByRecursion (λ (e : Key × SharedObject). e.0.kind ≡ e.1.kind) es
