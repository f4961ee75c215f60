-- What a delete does to an object: it is removed or, while finalizers are left, its deletionTimestamp is set (Kubernetes, Finalizers; Garbage Collection).
use Rattle.std.specs.Prelude.{ℕ, List, [], Bool, true, not, ◌&&◌, ◌||◌, ◌==◌, Option, Some, None, Result, Ok, Err, unwrap_or, codes, if◌then◌else◌}
use Rattle.std.specs.Str.{bytes_eq}
use Rattle.serde_json.specs.Data.{Data, string, array, Items, no_items, item, Members, put}
use Rattle.serde_json.specs.Events.{items_len}
use Rattle.spec_api.specs.declared.kinds.Kind.{Kind}
use Rattle.spec_api.specs.declared.kinds.Kind.TheVariants.{Pod}
use Rattle.spec_api.specs.declared.policies.Policy.{Policy}
use Rattle.spec_api.specs.declared.policies.Policy.TheVariants.{Orphan, Foreground, Background}
use Rattle.spec_api.specs.declared.refusals.Mismatch.{Mismatch}
use Rattle.spec_api.specs.declared.refusals.Mismatch.TheVariants as mismatch
use Rattle.spec_api.specs.Objects.Checks.{finalizers, text_is, has_text}
use Rattle.spec_api.specs.Requests.DeleteOptions.{Options}
use Rattle.spec_api.specs.Texts.Kinds.{has_generation}
use Rattle.spec_api.specs.Objects.Metadata.{metadata_of, with_metadata, at_revision, uid, version, is_being_deleted, differs}
use Rattle.spec_api.specs.Texts.Keys.{Key}
use Rattle.spec_api.specs.Objects.Refusals.{success_body}
use Rattle.spec_api.specs.Objects.Replacements.{with_next_generation}

-- ---- finalizers

abbrev pub orphan : List ℕ
orphan = codes "orphan"

abbrev pub foreground : List ℕ
foreground = codes "foregroundDeletion"

-- whether it is one of the finalizers by which the garbage collector knows a policy (Kubernetes, Garbage Collection)
abbrev pub is_of_policy : Data → Bool
is_of_policy d = text_is (bytes_eq orphan) d || text_is (bytes_eq foreground) d

-- the finalizers of each policy
abbrev pub of_policy : Policy → Items
of_policy Orphan = item (string orphan) no_items
of_policy Foreground = item (string foreground) no_items
of_policy Background = no_items

-- these finalizers without those of any policy, and then the last ones
abbrev pub others_then : Items → Items → Items
others_then last no_items = last
others_then last (item d ds) = if is_of_policy d then others_then last ds else item d (others_then last ds)

-- whether, of the finalizers of policies, they have just those of this one
abbrev pub are_of : Policy → Items → Bool
are_of Orphan ds = has_text ds orphan && not (has_text ds foreground)
are_of Foreground ds = has_text ds foreground && not (has_text ds orphan)
are_of Background ds = not (has_text ds orphan) && not (has_text ds foreground)

-- whether a delete leaves the finalizers as they are
abbrev pub leaves : Option Policy → Items → Bool
leaves None ds = true
leaves (Some p) ds = are_of p ds

-- the finalizers after a delete: if it names a policy, those of this policy replace those of any
abbrev pub left_by : Option Policy → Items → Items
left_by None ds = ds
left_by (Some p) ds = if are_of p ds then ds else others_then (of_policy p) ds

-- ---- what becomes of an object

-- the metadata with its deletionTimestamp set, if it was not before: that is a new generation (Kubernetes API Conventions, Metadata)
abbrev pub with_deletion : Kind → List ℕ → Data → Members
with_deletion k moment old =
    if is_being_deleted old then metadata_of old else put (codes "deletionTimestamp") (string moment) (with_next_generation (has_generation k) old (metadata_of old))

-- the object with its deletionTimestamp set and these finalizers, still at its old resourceVersion
abbrev pub being_deleted : Kind → List ℕ → Items → Data → Data
being_deleted k moment left old = with_metadata (put (codes "finalizers") (array left) (with_deletion k moment old)) old

-- what a delete does: the object is removed, or stored with its deletionTimestamp set, or left as it is
pub data Fate : Type 0 where
  remove : Fate
  mark : Data → Fate
  keep : Fate

-- an object is removed if no finalizer is left; one that is being deleted already, and whose finalizers are not changed, is left as it is (Kubernetes, Finalizers)
abbrev pub fate : Kind → Option Policy → List ℕ → Data → Fate
fate k policy moment old =
    let left = left_by policy (finalizers old) in
    if items_len left == 0 then remove else (if is_being_deleted old && leaves policy (finalizers old) then keep else mark (being_deleted k moment left old))

-- what a delete does, or the first of its preconditions that is not met (Kubernetes API reference, Preconditions)
abbrev pub decided : Kind → Options → List ℕ → Data → Result Fate Mismatch
decided k o moment old =
    if differs o.uid (uid old) then Err mismatch.Uid
    else (if differs o.version (version old) then Err mismatch.ResourceVersion else Ok (fate k o.policy moment old))

-- ---- answers

-- the answer to a removal: of a Pod the Pod, at the revision of its removal; of another kind a Status that names the object
abbrev pub gone : Key → Data → Data
gone k old = success_body (Some (k, unwrap_or (uid old) []))

abbrev pub removal_of : Kind → Key → ℕ → Data → Data
removal_of Pod k r old = at_revision r (metadata_of old) old
removal_of kind k r old = gone k old

-- the HTTP status code where the object is not removed: 202 where its dependents are to be deleted first (RFC 9110, 202 Accepted)
abbrev pub kept_code : Option Policy → ℕ
kept_code (Some Foreground) = 202
kept_code policy = 200
