-- That what is found in an object has no fraction.
use Rattle.std.proofs.Common.{◌≡◌, false}
use Rattle.serde_json.specs.Data.{Data, object}
use Rattle.serde_json.specs.Written.{has_float}
use Rattle.spec_api.specs.Values.{members_of}
use Rattle.json_values.proofs.NoFloats.{members_of-no_float}

pub members_have_none : (d : Data) → has_float d ≡ false → has_float (object (members_of d)) ≡ false
members_have_none d h = members_of-no_float d h
