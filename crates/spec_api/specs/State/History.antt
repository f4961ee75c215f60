-- What has happened, the state at each revision, and its lists.
use Rattle.std.specs.Prelude.{ℕ, ◌+◌, ◌-◌, ◌==◌, ◌&&◌, Bool, true, List, [], ◌∷◌, length, take, filter, Option, Some, None, if◌then◌else◌}
use Rattle.std.specs.BTreeMap.{insert_entry, is_at}
use Rattle.std.specs.Map.{remove_entry, lookup}
use Rattle.std.specs.Str.{bytes_eq}
use Rattle.serde_json.specs.Data.{Data}
use Rattle.spec_api.specs.declared.kinds.Kind.{Kind}
use Rattle.spec_api.specs.Texts.Kinds.{rank}
use Rattle.spec_api.specs.Objects.Metadata.{labels_of}
use Rattle.spec_api.specs.Texts.Keys.{Key, key_cmp, is_same_key}
use Rattle.spec_api.specs.Texts.SelectorFields.{FieldRequirement, fields_meet}
use Rattle.spec_api.specs.Texts.Selectors.{Requirement, meets_all}

-- an object is put under a key, or the object there is removed
pub record Write : Type 0 where
  pub key : Key
  pub put : Option Data

-- an entry is a write, or a compaction of what happened up to a revision (etcd API, Compact)
pub data Entry : Type 0 where
  write : Write → Entry
  compaction : ℕ → Entry

-- all that has happened, in order
abbrev pub History : Type 0
History = List Entry

abbrev pub writes : History → List Write
writes [] = []
writes (write w ∷ h) = w ∷ writes h
writes (compaction r ∷ h) = writes h

-- the revision of the empty store is 1, and each write takes the next one (etcd API, Revisions)
abbrev pub present : History → ℕ
present h = length (writes h) + 1

-- the writes up to revision r: the n-th has revision n + 1
abbrev pub up_to : ℕ → History → List Write
up_to r h = take (r - 1) (writes h)

-- what is under a key after these writes, where `before` was there before them: the last write that names the key says it
abbrev pub last_of : Option Data → Key → List Write → Option Data
last_of before k [] = before
last_of before k (w ∷ ws) = last_of (if is_same_key k w.key then w.put else before) k ws

-- the object under a key at a revision (Kubernetes API Concepts, Resource versions)
abbrev pub state : History → ℕ → Key → Option Data
state h r k = last_of None k (up_to r h)

-- keys and their objects, in the order of keys
abbrev pub Entries : Type 0
Entries = List (Key × Data)

abbrev pub put_or_remove : Entries → Key → Option Data → Entries
put_or_remove ms k None = remove_entry (is_at (key_cmp k)) ms
put_or_remove ms k (Some d) = insert_entry key_cmp ms k d

abbrev pub after : Entries → Write → Entries
after ms w = put_or_remove ms w.key w.put

abbrev pub after_all : Entries → List Write → Entries
after_all ms [] = ms
after_all ms (w ∷ ws) = after_all (after ms w) ws

-- all that is there at a revision
abbrev pub entries_at : History → ℕ → Entries
entries_at h r = after_all [] (up_to r h)

abbrev pub found : Key → Entries → Option Data
found k ms = lookup (is_at (key_cmp k)) ms

-- what a list or a watch asks for: a kind, in one namespace or in all, with these labels and fields (Kubernetes API Concepts, Resource URIs; Labels and Selectors; Field Selectors)
pub record View : Type 0 where
  pub kind : Kind
  pub namespace : Option (List ℕ)
  pub labels : List Requirement
  pub fields : List FieldRequirement

-- all objects of a kind, in one namespace or in all
abbrev pub unfiltered : Kind → Option (List ℕ) → View
unfiltered k ns = record { kind = k; namespace = ns; labels = []; fields = [] }

abbrev pub in_namespace : Option (List ℕ) → List ℕ → Bool
in_namespace None ns = true
in_namespace (Some wanted) ns = bytes_eq wanted ns

-- whether an object under this key is asked for
abbrev pub in_view : View → Key → Data → Bool
in_view v k d =
    (rank v.kind == rank k.kind) && in_namespace v.namespace k.namespace && meets_all v.labels (labels_of d) && fields_meet v.fields k.name k.namespace

abbrev pub viewed : View → Entries → Entries
viewed v ms = filter (λ m. in_view v m.0 m.1) ms

-- the list of a view at a revision, by namespace, then name (Kubernetes API Concepts, Collections)
abbrev pub list : History → View → ℕ → Entries
list h v r = viewed v (entries_at h r)

-- the object under a key, if there is one and the view asks for it
abbrev pub seen : View → Key → Option Data → Option Data
seen v k None = None
seen v k (Some d) = if in_view v k d then Some d else None
