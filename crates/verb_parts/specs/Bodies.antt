-- What a body is refused by.
use Rattle.std.specs.Prelude.{◌≡◌, ◌⊎◌, Err}
use Rattle.serde_json.specs.Data.{Data}
use Rattle.spec_api.specs.declared.kinds.Kind.{Kind}
use Rattle.spec_api.specs.declared.refusals.Part.{Part}
use Rattle.spec_api.specs.Verbs.{object_in}
use Rattle.object_keys.specs.declared.fault.Fault.{Fault}
use Rattle.object_keys.specs.declared.fault.Fault.TheVariants as fault

-- the fault is running out of memory, or the part of the request for which the body is no object of the kind
abbrev pub RefusesSaid : Kind → Data → Fault → Type 0
RefusesSaid k d e = (e ≡ fault.NoMemory) ⊎ ((p : Part) × (e ≡ fault.BadRequest p) × (object_in k d ≡ Err p))
