-- Keys that are asked for, one after another.
use Rattle.std.specs.Prelude.{List, ◌∷◌, ◌++◌, [], ◌||◌, if◌then◌else◌}
use Rattle.std.specs.List.{list_any}
use Rattle.spec_api.specs.Keys.{Key, is_same_key}
use Rattle.spec_client_go.specs.Hands.{Read, is_read}

-- the keys with one more, unless that was read or is there
abbrev pub added : List Read → List Key → Key → List Key
added reads ks k = if is_read reads k || list_any (λ j. is_same_key j k) ks then ks else ks ++ k ∷ []

-- the keys with more, one after another
abbrev pub all_added : List Read → List Key → List Key → List Key
all_added reads ks [] = ks
all_added reads ks (j ∷ js) = all_added reads (added reads ks j) js
