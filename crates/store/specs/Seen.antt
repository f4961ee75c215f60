-- A map of objects as its members, its index, and how much there may be.
use Rattle.std.specs.Prelude.{ℕ, ◌≡◌, ◌≤◌, List, length, map, option_map}
use Rattle.std.specs.HashMap.{HashMap, get}
use Rattle.std.specs.declared.hash.BuildHasherDefault.{BuildHasherDefault}
use Rattle.std.specs.declared.hash.FoldHasher.{FoldHasher}
use Rattle.spec_api.specs.History.{Entries, found}
use Rattle.spec_api.specs.Revisions.{greatest_revision}
use Rattle.spec_api.specs.Verbs.{most_objects}
use Rattle.object_keys.specs.Keys.{key_of}
use Rattle.object_keys.specs.contracts.key.KeyPartialEq.TheImpl as key_eq
use Rattle.object_keys.specs.declared.key.Key.{Key}
use Rattle.meta.specs.declared.stored.StoredObject.{StoredObject}

-- keys and objects as names and data
abbrev pub members_seen : List (Key × StoredObject) → Entries
members_seen es = map (λ e. (key_of e.0, e.1.value)) es

-- objects by their keys, in no order
abbrev pub Index : Type 0
Index = HashMap Key StoredObject (BuildHasherDefault FoldHasher)

-- an index has under each key what the members have
abbrev pub IsIndexOf : Index → Entries → Type 0
IsIndexOf index members = (k : Key) → option_map (λ o. o.value) (get (key_eq.ghosts).eq index k) ≡ found (key_of k) members

-- the index is that of the objects, there are no more of them than there may be, and the revision is one that a write or the empty store has
pub record IsKept (es : List (Key × StoredObject)) (index : Index) (revision : ℕ) : Type 0 where
  pub indexed : IsIndexOf index (members_seen es)
  pub few : length es ≤ most_objects
  pub begun : 1 ≤ revision
  pub low : revision ≤ greatest_revision
