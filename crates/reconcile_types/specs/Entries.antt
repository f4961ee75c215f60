-- An object with its key, as definitions have it.
use Rattle.serde_json.specs.Data.{Data}
use Rattle.spec_api.specs.Keys.{Key}
use Rattle.object_keys.specs.Keys.{key_of}
use Rattle.reconcile_types.specs.declared.entries.Entry.{Entry}

abbrev pub entry_of : Entry → Key × Data
entry_of e = (key_of e.key.now, e.object.now.value)
