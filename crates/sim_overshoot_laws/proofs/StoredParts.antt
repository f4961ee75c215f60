-- Which parts of an object stay, whatever is written in its place.
use Rattle.std.proofs.Common.{◌≡◌, ℕ, List, [], ◌∷◌, Bool, true, false, cond, codes, bytes_eq, Option, refl, sym, ap, ◌∙◌}
use Rattle.serde_json.specs.Data.{Data, Items, Members, object, string, array, put}
use Rattle.serde_json.specs.Find.{get, get_member}
use Rattle.serde_json.proofs.Views.{get_member-put_other}
use Rattle.spec_api.specs.declared.kinds.Kind.{Kind}
use Rattle.spec_api.specs.Defaults.{unsigned_value}
use Rattle.spec_api.specs.Deletion.{being_deleted, with_deletion}
use Rattle.spec_api.specs.Kinds.{has_generation, has_status}
use Rattle.spec_api.specs.Metadata.{metadata, metadata_of, with_metadata, at_revision, is_being_deleted}
use Rattle.spec_api.specs.NewObjects as new_objects
use Rattle.spec_api.specs.NewObjects.{with_first_status, with_generation}
use Rattle.spec_api.specs.Replacements.{keeping, unchanged_metadata, unchanged_members, in_place, is_new_generation, updated, status_in, with_status_in, with_next_generation}
use Rattle.spec_api.specs.Values.{members_of, without}
use Rattle.spec_api.proofs.FirstStatus.{get-members_of, get-status}
use Rattle.spec_api.proofs.JsonMembers.{apart, get_member-without_other, metadata_of-with}
use Rattle.spec_laws.proofs.Removals.{member-at_revision, member-with_next_generation}
use Rattle.spec_laws.proofs.SetMetadata.{member-as_held_other}

-- ---- members of the metadata

deletion_keeps : (q : List ℕ) (b : Bool) (k : Kind) (moment : List ℕ) (existing : Data) → bytes_eq q (codes "deletionTimestamp") ≡ false → bytes_eq q (codes "generation") ≡ false
    → get_member q (cond b (metadata_of existing) (put (codes "deletionTimestamp") (string moment) (with_next_generation (has_generation k) existing (metadata_of existing)))) ≡ metadata q existing
deletion_keeps q true k moment existing a b = refl
deletion_keeps q false k moment existing a b =
    get_member-put_other q (codes "deletionTimestamp") (string moment) (with_next_generation (has_generation k) existing (metadata_of existing)) (apart q (codes "deletionTimestamp") a)
    ∙ member-with_next_generation q (has_generation k) existing (metadata_of existing) b

-- where it is marked as being deleted
pub member-marked : (q : List ℕ) (k : Kind) (r : ℕ) (moment : List ℕ) (left : Items) (existing : Data) → bytes_eq q (codes "resourceVersion") ≡ false → bytes_eq q (codes "finalizers") ≡ false
    → bytes_eq q (codes "deletionTimestamp") ≡ false → bytes_eq q (codes "generation") ≡ false
    → metadata q (at_revision r (metadata_of (being_deleted k moment left existing)) (being_deleted k moment left existing)) ≡ metadata q existing
member-marked q k r moment left existing a b c e =
    let d = being_deleted k moment left existing in
    let meta = put (codes "finalizers") (array left) (with_deletion k moment existing) in
    member-at_revision q r (metadata_of d) d a ∙ ap (get_member q) (metadata_of-with meta existing)
    ∙ get_member-put_other q (codes "finalizers") (array left) (with_deletion k moment existing) (apart q (codes "finalizers") b)
    ∙ deletion_keeps q (is_being_deleted existing) k moment existing c e

generation_other : (q : List ℕ) (b : Bool) (ms : Members) → bytes_eq q (codes "generation") ≡ false → get_member q (cond b (put (codes "generation") (unsigned_value 1) ms) ms) ≡ get_member q ms
generation_other q true ms other = get_member-put_other q (codes "generation") (unsigned_value 1) ms (apart q (codes "generation") other)
generation_other q false ms other = refl

-- where it is created, a member that the server does not set
pub member-created : (q : List ℕ) (k : Kind) (r : ℕ) (ns named moment : List ℕ) (o : Data) → bytes_eq q (codes "resourceVersion") ≡ false → bytes_eq q (codes "uid") ≡ false
    → bytes_eq q (codes "creationTimestamp") ≡ false → bytes_eq q (codes "namespace") ≡ false → bytes_eq q (codes "name") ≡ false → bytes_eq q (codes "generation") ≡ false
    → bytes_eq q (codes "deletionTimestamp") ≡ false → metadata q (new_objects.created k r ns named moment o) ≡ metadata q o
member-created q k r ns named moment o a b c e f g i =
    let m = metadata_of o in
    let m1 = without (codes "deletionTimestamp") m in
    let m2 = with_generation k m1 in
    let m3 = put (codes "name") (string named) m2 in
    let m4 = put (codes "namespace") (string ns) m3 in
    let m5 = put (codes "creationTimestamp") (string moment) m4 in
    member-at_revision q r (new_objects.new_metadata k r ns named moment m) (with_first_status k o) a
    ∙ get_member-put_other q (codes "uid") _ m5 (apart q (codes "uid") b)
    ∙ get_member-put_other q (codes "creationTimestamp") (string moment) m4 (apart q (codes "creationTimestamp") c)
    ∙ get_member-put_other q (codes "namespace") (string ns) m3 (apart q (codes "namespace") e)
    ∙ get_member-put_other q (codes "name") (string named) m2 (apart q (codes "name") f)
    ∙ generation_other q (has_generation k) m1 g
    ∙ get_member-without_other q (codes "deletionTimestamp") m i

-- ---- members beside the metadata

get-with_metadata : (q : List ℕ) (meta : Members) (d : Data) → bytes_eq q (codes "metadata") ≡ false → get q (with_metadata meta d) ≡ get q d
get-with_metadata q meta d other = get_member-put_other q (codes "metadata") (object meta) (members_of d) (apart q (codes "metadata") other) ∙ sym (get-members_of q d)

abbrev pub spec : Data → Option Data
spec d = get (codes "spec") d

spec-at_revision : (r : ℕ) (meta : Members) (d : Data) → spec (at_revision r meta d) ≡ spec d
spec-at_revision r meta d = get-with_metadata (codes "spec") _ d refl

pub spec-created : (k : Kind) (r : ℕ) (ns name moment : List ℕ) (o : Data) → spec (new_objects.created k r ns name moment o) ≡ spec (with_first_status k o)
spec-created k r ns name moment o = spec-at_revision r (new_objects.new_metadata k r ns name moment (metadata_of o)) (with_first_status k o)

held_other : (b : Bool) (existing ms : Members) → get_member (codes "spec") (keeping (cond b (codes "status" ∷ []) []) existing ms) ≡ get_member (codes "spec") ms
held_other true existing ms = member-as_held_other (codes "spec") (codes "status") (get_member (codes "status") existing) ms refl
held_other false existing ms = refl

pub spec-in_place : (k : Kind) (existing o : Data) → spec (in_place k existing o) ≡ spec o
spec-in_place k existing o =
    get-with_metadata (codes "spec") (keeping unchanged_metadata (metadata_of existing) (metadata_of o)) (object (keeping (unchanged_members k) (members_of existing) (members_of o))) refl
    ∙ held_other (has_status k) (members_of existing) (members_of o) ∙ sym (get-members_of (codes "spec") o)

pub spec-updated : (k : Kind) (r : ℕ) (existing d : Data) → spec (updated k r existing d) ≡ spec d
spec-updated k r existing d = spec-at_revision r (with_next_generation (is_new_generation k existing d) existing (metadata_of d)) d

pub spec-restated : (k : Kind) (r : ℕ) (existing o : Data) → spec (at_revision r (metadata_of (with_status_in k existing o)) (with_status_in k existing o)) ≡ spec existing
spec-restated k r existing o =
    let s = status_in k (get (codes "status") o) in
    spec-at_revision r (metadata_of (with_status_in k existing o)) (with_status_in k existing o) ∙ get-status (codes "spec") s (members_of existing) refl ∙ sym (get-members_of (codes "spec") existing)

pub spec-marked : (k : Kind) (r : ℕ) (moment : List ℕ) (left : Items) (existing : Data)
    → spec (at_revision r (metadata_of (being_deleted k moment left existing)) (being_deleted k moment left existing)) ≡ spec existing
spec-marked k r moment left existing =
    let d = being_deleted k moment left existing in spec-at_revision r (metadata_of d) d ∙ get-with_metadata (codes "spec") (put (codes "finalizers") (array left) (with_deletion k moment existing)) existing refl
