-- A change as it is recorded.
use Rattle.std.specs.Prelude.{option_map}
use Rattle.spec_api.specs.Windows.{Change as Kept}
use Rattle.object_keys.specs.Keys.{key_of}
use Rattle.watch_cache.specs.declared.changes.Change.{Change}

-- the change, by its key and its objects' data
abbrev pub change_seen : Change → Kept
change_seen c = record { revision = c.revision; key = key_of c.key; old = option_map (λ o. o.value) c.old; new = option_map (λ o. o.value) c.new }
