-- Requests and bodies that were read, as the definitions read them.
use Rattle.std.specs.Prelude.{◌≡◌, ◌⊎◌, Result, Ok, Err}
use Rattle.serde_json.specs.Data.{Data}
use Rattle.serde_json.specs.View.{view}
use Rattle.serde_json.specs.declared.value.Value.{Value}
use Rattle.spec_api.specs.DeleteOptions.{Options}
use Rattle.spec_api.specs.Refusals.{Refusal}
use Rattle.spec_api.specs.Targets as targets
use Rattle.lifecycle.specs.Options.{options_seen}
use Rattle.lifecycle.specs.declared.options.DeleteOptions.{DeleteOptions}
use Rattle.object_keys.specs.Faults.{refusal_of}
use Rattle.object_keys.specs.declared.fault.Fault.{Fault}
use Rattle.object_keys.specs.declared.fault.Fault.TheVariants as fault
use Rattle.request_parts.specs.Requests.{request_of}
use Rattle.request_parts.specs.Collected.{list_seen, watch_seen}
use Rattle.selector.specs.Views.{view_of}
use Rattle.request_decoding.specs.declared.meaning.Asked.{Asked}
use Rattle.request_decoding.specs.declared.meaning.Asked.TheVariants.{Request, List, Watch}

-- what is asked as the definitions say it
abbrev pub asked_seen : Asked → targets.Asked
asked_seen (Request q) = targets.request (request_of q)
asked_seen (List view options) = targets.list (view_of view) (list_seen options)
asked_seen (Watch view options) = targets.watch (view_of view) (watch_seen options)

-- the result is what is asked, or this refusal, or running out of memory
abbrev pub Asks : Result targets.Asked Refusal → Result Asked Fault → Type 0
Asks wanted (Ok a) = wanted ≡ Ok (asked_seen a)
Asks wanted (Err e) = (e ≡ fault.NoMemory) ⊎ (wanted ≡ Err (refusal_of e))

-- the result is this data or refusal, or running out of memory
abbrev pub ReadsData : Result Data Refusal → Result Value Fault → Type 0
ReadsData wanted (Ok v) = wanted ≡ Ok (view v)
ReadsData wanted (Err e) = (e ≡ fault.NoMemory) ⊎ (wanted ≡ Err (refusal_of e))

-- the result is these options or this refusal, or running out of memory
abbrev pub ReadsDelete : Result Options Refusal → Result DeleteOptions Fault → Type 0
ReadsDelete wanted (Ok o) = wanted ≡ Ok (options_seen o)
ReadsDelete wanted (Err e) = (e ≡ fault.NoMemory) ⊎ (wanted ≡ Err (refusal_of e))
