-- What an update, or an update of the status, stores in the place of the stored object.
use Rattle.std.specs.Prelude.{ℕ, ◌+◌, List, [], ◌∷◌, Bool, not, ◌&&◌, ◌||◌, Option, Some, None, is_some, codes, nat_lt, option_and_then, unwrap_or, if◌then◌else◌}
use Rattle.std.specs.Option.{option_or}
use Rattle.std.specs.Str.{bytes_eq}
use Rattle.spec_api.specs.Texts.Values.{Data, object, Members, put, get, get_member, as_number, as_u64, compact_text, members_of, without}
use Rattle.spec_api.specs.declared.kinds.Kind.{Kind}
use Rattle.spec_api.specs.declared.kinds.Kind.TheVariants.{Deployment}
use Rattle.spec_api.specs.Objects.Checks.{text_or_empty}
use Rattle.spec_api.specs.Objects.Defaults.{unsigned_value}
use Rattle.spec_api.specs.Texts.Kinds.{has_generation, has_status}
use Rattle.spec_api.specs.Objects.Metadata.{metadata, metadata_of, with_metadata, is_being_deleted, at_revision}
use Rattle.spec_api.specs.Objects.NewObjects.{first_status, with_status}
use Rattle.spec_api.specs.Texts.Revisions.{greatest_revision}

abbrev pub as_stored : List ℕ → Option Data → Members → Members
as_stored k None ms = without k ms
as_stored k (Some d) ms = put k d ms

-- the members, those of these names as the stored object has them
abbrev pub keeping : List (List ℕ) → Members → Members → Members
keeping [] existing ms = ms
keeping (k ∷ ks) existing ms = keeping ks existing (as_stored k (get_member k existing) ms)

-- what an update leaves as it is, whatever the body says (Kubernetes API Conventions, Metadata)
abbrev pub unchanged_metadata : List (List ℕ)
unchanged_metadata = codes "namespace" ∷ codes "uid" ∷ codes "creationTimestamp" ∷ codes "deletionTimestamp" ∷ codes "generation" ∷ codes "resourceVersion" ∷ []

-- and of the other members the status, of a kind that has one (Kubernetes API Conventions, Spec and Status)
abbrev pub unchanged_members : Kind → List (List ℕ)
unchanged_members k = if has_status k then codes "status" ∷ [] else []

-- a body's object in the place of the stored one, still at the stored resourceVersion
abbrev pub in_place : Kind → Data → Data → Data
in_place k existing o = with_metadata (keeping unchanged_metadata (metadata_of existing) (metadata_of o)) (object (keeping (unchanged_members k) (members_of existing) (members_of o)))

-- the status of a body, or the first one where it has none
abbrev pub status_in : Kind → Option Data → Option Data
status_in k said = option_or said (first_status k)

-- the stored object with the status of a body, still at the stored resourceVersion
abbrev pub with_status_in : Kind → Data → Data → Data
with_status_in k existing o = object (with_status (status_in k (get (codes "status") o)) (members_of existing))

-- whether two objects at one version say the same
abbrev pub says_the_same : Data → Data → Bool
says_the_same existing d = bytes_eq (compact_text existing) (compact_text d)

abbrev pub has_changed : Option Data → Option Data → Bool
has_changed existing now = not (bytes_eq (text_or_empty existing) (text_or_empty now))

abbrev pub has_new_spec : Data → Data → Bool
has_new_spec existing d = has_changed (get (codes "spec") existing) (get (codes "spec") d)

abbrev pub has_new_annotations : Data → Data → Bool
has_new_annotations existing d = has_changed (metadata (codes "annotations") existing) (metadata (codes "annotations") d)

-- whether an object in the place of a stored one is a new generation (Kubernetes API Conventions, Metadata)
abbrev pub is_new_generation : Kind → Data → Data → Bool
is_new_generation Deployment existing d = has_new_spec existing d || has_new_annotations existing d
is_new_generation k existing d = has_generation k && has_new_spec existing d

-- which generation an object is
abbrev pub generation : Data → ℕ
generation d = unwrap_or (option_and_then as_u64 (option_and_then as_number (metadata (codes "generation") d))) 0

-- the generation after one; the greatest number that readers represent exactly, which no history reaches, stays
abbrev pub next_generation : ℕ → ℕ
next_generation n = if nat_lt n greatest_revision then n + 1 else n

abbrev pub with_next_generation : Bool → Data → Members → Members
with_next_generation is_new existing meta = if is_new then put (codes "generation") (unsigned_value (next_generation (generation existing))) meta else meta

-- what is stored in the place of the stored object, at a revision
abbrev pub updated : Kind → ℕ → Data → Data → Data
updated k r existing d = at_revision r (with_next_generation (is_new_generation k existing d) existing (metadata_of d)) d

-- whether the last finalizer is removed: deletionTimestamp is set, and no finalizer is left (Kubernetes, Finalizers)
abbrev pub is_finalized : Data → Data → Bool
is_finalized existing d = is_being_deleted existing && not (is_some (metadata (codes "finalizers") d))
