-- What is lent, as definitions have it.
use Rattle.std.specs.Prelude.{ℕ, List, Option, option_map}
use Rattle.std.specs.Borrow.{Bor}
use Rattle.serde_json.specs.Data.{Data}
use Rattle.serde_json.specs.View.{view}
use Rattle.serde_json.specs.declared.value.Value.{Value}
use Rattle.spec_api.specs.Objects.{Object}

abbrev pub value_of : Option (Bor Value) → Option Data
value_of found = option_map (λ v. view v.now) found

abbrev pub text_of : Option (Bor (List ℕ)) → Option (List ℕ)
text_of t = option_map (λ s. s.now) t

abbrev pub data_of : Option (Bor Object) → Option Data
data_of found = option_map (λ o. o.now.value) found
