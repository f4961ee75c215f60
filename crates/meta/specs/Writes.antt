-- What a write says.
use Rattle.std.specs.Prelude.{option_map}
use Rattle.spec_api.specs.History as history
use Rattle.meta.specs.declared.writes.Write.{Write}
use Rattle.object_keys.specs.Keys.{key_of}

-- the write, by its key's name and its object's data
abbrev pub write_of : Write → history.Write
write_of w = record { key = key_of w.key; put = option_map (λ o. o.value) w.put }
