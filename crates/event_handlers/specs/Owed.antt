-- What changed, as code has it.
use denote.Ref.{Bor}
use Rattle.std.specs.Prelude.{Option, option_map}
use Rattle.spec_api.specs.Objects.{Object}
use Rattle.spec_api.specs.declared.kinds.Kind.{Kind}
use Rattle.spec_client_go.specs.OwedKeys.{Change}

abbrev pub change_of : Kind → Option (Bor Object) → Option (Bor Object) → Change
change_of k old new = record { kind = k; old = option_map (λ o. o.now.value) old; new = option_map (λ o. o.now.value) new }
