-- A map from keys to objects, both lent, as its members.
use Rattle.std.specs.Prelude.{List, map}
use denote.Ref.{Bor}
use Rattle.object_keys.specs.Keys.{key_of}
use Rattle.spec_api.specs.History.{Entries}
use Rattle.object_keys.specs.declared.key.Key.{Key}
use Rattle.meta.specs.declared.stored.StoredObject.{StoredObject}

abbrev pub seen : List (Bor Key × Bor StoredObject) → Entries
seen es = map (λ e. (key_of e.0.now, e.1.now.value)) es
