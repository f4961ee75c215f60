-- What a key says.
use Rattle.std.specs.Prelude.{string_bytes}
use Rattle.spec_api.specs.Keys.{Key as Name}
use Rattle.object_keys.specs.declared.key.Key.{Key}

-- a key's name: its kind and the bytes of its texts
abbrev pub key_of : Key → Name
key_of k = record { kind = k.kind; namespace = string_bytes k.namespace; name = string_bytes k.name }
