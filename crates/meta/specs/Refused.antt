-- When a value is not read as an object.
use Rattle.std.specs.Prelude.{◌≡◌, ◌⊎◌, Err}
use Rattle.serde_json.specs.Data.{Data}
use Rattle.spec_api.specs.declared.kinds.Kind.{Kind}
use Rattle.spec_api.specs.declared.refusals.Part.{Part}
use Rattle.spec_api.specs.Reading.{reading}
use Rattle.object_keys.specs.declared.fault.Fault.{Fault}
use Rattle.object_keys.specs.declared.fault.Fault.TheVariants as fault

-- the fault is running out of memory, or the part of the request for which the value is not read as an object of the kind
abbrev pub RefusesReading : Kind → Data → Fault → Type 0
RefusesReading k d e = (e ≡ fault.NoMemory) ⊎ ((p : Part) × (e ≡ fault.BadRequest p) × (reading k d ≡ Err p))
