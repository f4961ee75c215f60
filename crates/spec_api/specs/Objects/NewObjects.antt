-- What a create stores.
use Rattle.std.specs.Prelude.{ℕ, List, Option, Some, None, codes, if◌then◌else◌}
use Rattle.spec_api.specs.Texts.Values.{Data, string, object, Members, no_members, member, put, members_of, without}
use Rattle.spec_api.specs.declared.kinds.Kind.{Kind}
use Rattle.spec_api.specs.declared.kinds.Kind.TheVariants.{Pod, ReplicaSet}
use Rattle.spec_api.specs.Objects.Defaults.{unsigned_value}
use Rattle.spec_api.specs.Texts.Kinds.{has_generation, has_status}
use Rattle.spec_api.specs.Objects.Metadata.{metadata_of, at_revision}
use Rattle.spec_api.specs.Objects.Reading.{empty}
use Rattle.spec_api.specs.Texts.Uids.{uid_text, cluster_word}

-- the status of a new object, of a kind that has one: without members, but for these (Kubernetes API Conventions, Spec and Status)
abbrev pub first_status : Kind → Option Data
first_status Pod = Some (object (member (codes "phase") (string (codes "Pending")) no_members))
first_status ReplicaSet = Some (object (member (codes "replicas") (unsigned_value 0) no_members))
first_status k = if has_status k then Some empty else None

-- the members with this status, if there is one
abbrev pub with_status : Option Data → Members → Members
with_status None ms = ms
with_status (Some s) ms = put (codes "status") s ms

-- an object of a kind with its first status, whatever status it has
abbrev pub with_first_status : Kind → Data → Data
with_first_status k o = object (with_status (first_status k) (members_of o))

-- the first generation is 1 (Kubernetes API Conventions, Metadata)
abbrev pub with_generation : Kind → Members → Members
with_generation k meta = if has_generation k then put (codes "generation") (unsigned_value 1) meta else meta

-- what the server sets in the metadata of a new object (Kubernetes API Conventions, Metadata)
abbrev pub new_metadata : Kind → ℕ → List ℕ → List ℕ → List ℕ → Members → Members
new_metadata k r ns name moment meta =
    put (codes "uid") (string (uid_text cluster_word r))
    (put (codes "creationTimestamp") (string moment)
    (put (codes "namespace") (string ns) (put (codes "name") (string name) (with_generation k (without (codes "deletionTimestamp") meta)))))

-- a new object of a kind, at a revision, in a namespace, under a name, made of a body
abbrev pub created : Kind → ℕ → List ℕ → List ℕ → List ℕ → Data → Data
created k r ns name moment o = at_revision r (new_metadata k r ns name moment (metadata_of o)) (with_first_status k o)
