-- What a delete does, as the definitions say it.
use Rattle.std.specs.Prelude.{◌≡◌, Option, Some, None, Result, Ok, Err, if◌then◌else◌}
use Rattle.serde_json.specs.Data.{Data}
use Rattle.spec_api.specs.Deletion as deletion
use Rattle.spec_api.specs.DeleteOptions.{Options}
use Rattle.spec_api.specs.Metadata.{uid, version, differs}
use Rattle.spec_api.specs.declared.refusals.Mismatch.{Mismatch}
use Rattle.spec_api.specs.declared.refusals.Mismatch.TheVariants as why
use Rattle.lifecycle.specs.declared.fates.Fate.{Fate}
use Rattle.lifecycle.specs.declared.fates.Fate.TheVariants.{Remove, Mark, Keep}
use Rattle.lifecycle.specs.declared.fates.DeleteFault.{DeleteFault}
use Rattle.lifecycle.specs.declared.fates.DeleteFault.TheVariants as fault

abbrev pub fate_seen : Fate → deletion.Fate
fate_seen Remove = deletion.remove
fate_seen (Mark o) = deletion.mark o.value
fate_seen Keep = deletion.keep

-- the result is this, or the precondition that is not met, or running out of memory
abbrev pub Decides : Result deletion.Fate Mismatch → Result Fate DeleteFault → Type 0
Decides wanted (Ok f) = wanted ≡ Ok (fate_seen f)
Decides wanted (Err (fault.Mismatch why)) = wanted ≡ Err why
Decides wanted (Err fault.NoMemory) = Unit {0}

-- the first of the preconditions that an object does not meet
abbrev pub mismatch : Options → Data → Option Mismatch
mismatch o existing = if differs o.uid (uid existing) then Some why.Uid else (if differs o.version (version existing) then Some why.ResourceVersion else None)
