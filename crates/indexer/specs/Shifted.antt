-- What a shift says.
use Rattle.std.specs.Prelude.{option_map}
use Rattle.spec_client_go.specs.Shifts as words
use Rattle.object_keys.specs.Keys.{key_of}
use Rattle.indexer.specs.declared.shifts.Shift.{Shift}

abbrev pub shift_of : Shift → words.Shift
shift_of s = record { key = key_of s.key; old = option_map (λ o. o.value) s.old; new = option_map (λ o. o.value) s.new }
