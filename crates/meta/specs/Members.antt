-- What a lent object says.
use Rattle.serde_json.specs.Data.{Data}
use Rattle.spec_api.specs.Keys.{Key}
use Rattle.object_keys.specs.Keys.{key_of}
use Rattle.meta.specs.declared.lent_members.Member.{Member}

-- the name and the data of an object that is there
abbrev pub member_of : Member → Key × Data
member_of m = (key_of m.key.now, m.object.now.value)
