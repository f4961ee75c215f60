-- What the fault of a check says.
use Rattle.std.specs.Prelude.{◌≡◌, Option, Some}
use Rattle.spec_api.specs.declared.refusals.Field.{Field}
use Rattle.spec_api.specs.Keys.{Key}
use Rattle.object_keys.specs.declared.fault.Fault.{Fault}
use Rattle.object_keys.specs.declared.fault.Fault.TheVariants as fault
use Rattle.object_keys.specs.Keys.{key_of}

-- the fault names the object and the field that was found, and is else running out of memory
abbrev pub RefusesField : Key → Option Field → Fault → Type 0
RefusesField k found (fault.Invalid key f) = (key_of key ≡ k) × (found ≡ Some f)
RefusesField k found fault.NoMemory = Unit {0}
RefusesField k found e = ⊥
