-- What is served, as the definitions have it.
use Rattle.std.specs.Prelude.{◌≡◌, Result, Ok, Err}
use Rattle.spec_api.specs.Refusals.{Refusal}
use Rattle.object_keys.specs.Faults.{refusal_of}
use Rattle.object_keys.specs.declared.fault.Fault.{Fault}
use Rattle.object_keys.specs.declared.fault.Fault.TheVariants as fault

-- the result is what is wanted: a refusal is just that refusal, and what is served is seen as what is to be served, or memory is wanting for it
abbrev pub Serves : {X Y : Type 0} → (Y → X) → Result X Refusal → Result Y Fault → Type 0
Serves seen (Ok x) (Ok y) = x ≡ seen y
Serves seen (Ok x) (Err e) = e ≡ fault.NoMemory
Serves seen (Err f) (Ok y) = ⊥
Serves seen (Err f) (Err e) = f ≡ refusal_of e
