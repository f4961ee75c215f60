-- The templates of pods: which are the same, and the ReplicaSet that is made of one (Kubernetes, Deployments, Pod-template-hash label).
use Rattle.std.specs.Prelude.{ℕ, List, [], ◌++◌, Bool, ◌==◌, take, codes, decimal, if◌then◌else◌}
use Rattle.hex.specs.Hex.{encode_lower}
use Rattle.sha2.specs.Sha256.{sha256}
use Rattle.serde_json.specs.Data.{Data, string, array, object, no_items, item, Members, no_members, member, put}
use Rattle.serde_json.specs.Find.{get}
use Rattle.serde_json.specs.Written.{compact_text}
use Rattle.spec_api.specs.Checks.{in_spec}
use Rattle.spec_api.specs.Defaults.{unsigned_value}
use Rattle.spec_api.specs.Metadata.{labels_of, metadata_of, with_metadata}
use Rattle.spec_api.specs.Replacements.{says_the_same}
use Rattle.spec_api.specs.Values.{members_of, inner_of, without}

abbrev pub hash_label : List ℕ
hash_label = codes "pod-template-hash"

-- ---- which templates are the same

-- an object at the member k, or no such member where there is nothing in it
abbrev pub with_filled : List ℕ → Members → Members → Members
with_filled k no_members ms = without k ms
with_filled k (member l d inner) ms = put k (object (member l d inner)) ms

abbrev pub bare_metadata : Data → Members
bare_metadata t = with_filled (codes "labels") (without hash_label (labels_of t)) (metadata_of t)

-- the template without the label of the hash, and without labels and metadata that have nothing else in them
abbrev pub bare : Data → Data
bare t = object (with_filled (codes "metadata") (bare_metadata t) (members_of t))

abbrev pub is_same_template : Data → Data → Bool
is_same_template t u = says_the_same (bare t) (bare u)

-- ---- the hash of a template

-- the digits of how often a name was taken; none at first
abbrev pub collision_digits : ℕ → List ℕ
collision_digits n = if n == 0 then [] else decimal n

-- ten hexadecimal digits of a digest of the text
abbrev pub template_hash : Data → ℕ → List ℕ
template_hash t collisions = take 10 (encode_lower (sha256 (compact_text t ++ collision_digits collisions)))

-- ---- the set that is made of a template

-- labels with that of the hash
abbrev pub with_hash : List ℕ → Members → Members
with_hash hash labels = put hash_label (string hash) labels

abbrev pub labelled : List ℕ → Data → Data
labelled hash t = with_metadata (put (codes "labels") (object (with_hash hash (labels_of t))) (metadata_of t)) t

-- the selector of a Deployment or a ReplicaSet
abbrev pub selector : Data → Members
selector d = inner_of (in_spec (codes "selector") d)

abbrev pub selecting : List ℕ → Members → Members
selecting hash ms = put (codes "matchLabels") (object (with_hash hash (inner_of (get (codes "matchLabels") (object ms))))) ms

-- the name of the set with this hash
abbrev pub set_name : List ℕ → List ℕ → List ℕ
set_name deployment hash = deployment ++ codes "-" ++ hash

-- its metadata: the template's labels and that of the hash, these annotations, and the Deployment as its controller
abbrev pub new_set_metadata : List ℕ → Data → List ℕ → Data → Members → Members
new_set_metadata name owner hash t annotations =
    put (codes "ownerReferences") (array (item owner no_items))
    (put (codes "name") (string name)
    (put (codes "labels") (object (with_hash hash (labels_of t))) (put (codes "annotations") (object annotations) no_members)))

-- its spec: so many pods of the template, with the label of the hash
abbrev pub new_set_spec : Members → List ℕ → Data → ℕ → Members
new_set_spec selector hash t replicas =
    put (codes "template") (labelled hash t)
    (put (codes "selector") (object (selecting hash selector)) (put (codes "replicas") (unsigned_value replicas) no_members))
