-- How keys are called.
use Rattle.std.specs.Prelude.{ℕ, List, ◌++◌, codes}
use Rattle.spec_api.specs.Keys.{Key}
use Rattle.spec_api.specs.Kinds.{kind_text}

-- the kind, the namespace and the name of an object, as `Pod default/web`
abbrev pub key_text : Key → List ℕ
key_text k = (((kind_text k.kind ++ codes " ") ++ k.namespace) ++ codes "/") ++ k.name
