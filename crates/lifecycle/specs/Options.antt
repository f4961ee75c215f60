-- Options that were read, as the definitions say them.
use Rattle.std.specs.Prelude.{◌≡◌, ◌⊎◌, option_map, Result, Ok, Err, string_bytes}
use Rattle.spec_api.specs.DeleteOptions.{Options}
use Rattle.spec_api.specs.declared.refusals.Part.{Part}
use Rattle.object_keys.specs.declared.fault.Fault.{Fault}
use Rattle.object_keys.specs.declared.fault.Fault.TheVariants as fault
use Rattle.lifecycle.specs.declared.options.DeleteOptions.{DeleteOptions}

abbrev pub options_seen : DeleteOptions → Options
options_seen o = record { uid = option_map string_bytes o.uid; version = option_map string_bytes o.version; policy = o.policy }

-- the result is these options, or the part of the request at fault, or running out of memory
abbrev pub ReadsOptions : Result Options Part → Result DeleteOptions Fault → Type 0
ReadsOptions wanted (Ok o) = wanted ≡ Ok (options_seen o)
ReadsOptions wanted (Err e) = (e ≡ fault.NoMemory) ⊎ ((p : Part) × (e ≡ fault.BadRequest p) × (wanted ≡ Err p))
