-- The status of an object, as its controller updates it (Kubernetes API Conventions, Spec and Status).
use Rattle.std.specs.Prelude.{List, [], ◌∷◌, codes, if◌then◌else◌}
use Rattle.serde_json.specs.Data.{Data, Members as Fields, object, put}
use Rattle.serde_json.specs.Find.{get}
use Rattle.spec_api.specs.Keys.{Key}
use Rattle.spec_api.specs.Replacements.{says_the_same}
use Rattle.spec_api.specs.Values.{inner_of, members_of}
use Rattle.spec_client_go.specs.Commands.{Command, update_status}

abbrev pub status : Data → Fields
status d = inner_of (get (codes "status") d)

abbrev pub with_status : Fields → Data → Data
with_status ms d = object (put (codes "status") (object ms) (members_of d))

-- the status is updated where it changes, at the version that was looked at, as the object names it
abbrev pub report_status : Key → Data → Fields → List Command
report_status k d new = if says_the_same (object (status d)) (object new) then [] else update_status k (with_status new d) ∷ []
