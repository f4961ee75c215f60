-- The pod that a ReplicaSet creates from its template (Kubernetes, ReplicaSet, Pod Template).
use Rattle.std.specs.Prelude.{ℕ, List, [], ◌∷◌, ◌++◌, codes}
use Rattle.serde_json.specs.Data.{Data, Members, no_members, no_items, item, string, array, object, put}
use Rattle.spec_api.specs.Checks.{in_spec}
use Rattle.spec_api.specs.Keys.{Key}
use Rattle.spec_api.specs.Metadata.{metadata_of}
use Rattle.spec_api.specs.Replacements.{keeping}
use Rattle.spec_api.specs.Values.{members_of, inner_of}
use Rattle.spec_reconcile.specs.MetadataEdits.{controller_reference}

-- the template; an empty object where there is none
abbrev pub template : Data → Data
template set = object (inner_of (in_spec (codes "template") set))

-- what it has of the template's metadata
abbrev pub copied : List (List ℕ)
copied = codes "annotations" ∷ codes "finalizers" ∷ codes "labels" ∷ []

-- the name is made of the set's, and the set is its controller
abbrev pub new_metadata : Key → Data → Members
new_metadata k set =
    put (codes "ownerReferences") (array (item (controller_reference k set) no_items))
    (put (codes "generateName") (string (k.name ++ codes "-")) (keeping copied (metadata_of (template set)) no_members))

-- and it has the template's spec
abbrev pub new_pod : Key → Data → Data
new_pod k set =
    object (keeping (codes "spec" ∷ []) (members_of (template set)) (put (codes "metadata") (object (new_metadata k set)) no_members))
