-- How generations rise, and what an update of the status leaves.
use Rattle.std.proofs.Common.{◌≡◌, ◌+◌, ℕ, List, Bool, true, false, cond, not, ◌||◌, codes, bytes_eq, is_some, Option, Some, None, option_and_then, unwrap_or, refl, sym, ap, ◌∙◌}
use Rattle.std.proofs.lemmas.Slice.Eq.{bytes_eq-Decides}
use Rattle.serde_json.specs.Data.{Data, string, array, object, Items, Members, put}
use Rattle.serde_json.specs.Find.{get, get_member, as_number, as_u64}
use Rattle.serde_json.proofs.Views.{get_member-put, get_member-put_other}
use Rattle.spec_api.specs.declared.kinds.Kind.{Kind}
use Rattle.spec_api.specs.declared.kinds.Kind.TheVariants.{ConfigMap, Pod, ReplicaSet, Deployment}
use Rattle.spec_api.specs.Checks.{finalizers, text_or_empty}
use Rattle.spec_api.specs.Defaults.{unsigned_value}
use Rattle.spec_api.specs.DeleteOptions.{Options}
use Rattle.spec_api.specs.Deletion.{left_by, being_deleted, with_deletion}
use Rattle.spec_api.specs.History.{History, found, entries_at, present, state}
use Rattle.spec_api.specs.Kinds.{has_generation}
use Rattle.spec_laws.specs.HistoryLaws.{OfStored, is_delete}
use Rattle.spec_laws.specs.LifecycleLaws.{OfReplaced, rises, GenerationsCount, GenerationsBegin, StatusesChangeNothingElse, NoWriteNoChange}
use Rattle.spec_api.specs.Metadata.{metadata, metadata_of, at_revision, is_being_deleted}
use Rattle.spec_api.specs.Keys.{Key}
use Rattle.spec_api.specs.NewObjects.{created, first_status, new_metadata, with_generation, with_status}
use Rattle.spec_api.specs.Reading.{reading}
use Rattle.spec_api.specs.Replacements.{generation, next_generation, has_changed, has_new_annotations, has_new_spec, in_place, is_new_generation, status_in, updated, with_next_generation, with_status_in}
use Rattle.spec_api.specs.Uids.{uid_text, cluster_word}
use Rattle.spec_api.specs.Values.{members_of, without}
use Rattle.spec_api.specs.Verbs.{Outcome, with_write, shown, object_in, new_name}
use Rattle.spec_api.specs.ObjectRequests.{Request, get_object, list_objects, create_object, update_object, update_status, patch_object, delete_object}
use Rattle.spec_laws.proofs.Cases.{of_create, of_delete, of_patch, of_status, of_update}
use Rattle.spec_laws.proofs.Guards.{there}
use Rattle.spec_laws.proofs.SetMetadata.{generation-in_place}
use Rattle.spec_api.proofs.JsonMembers.{apart, metadata_of-with}
use Rattle.spec_laws.proofs.Removals.{at_held, member-at_revision, member-restated, member-updated}
use Rattle.spec_laws.proofs.VerbLaws.{found-state, none_from, of_none}
use Rattle.spec_api.proofs.FirstStatus.{get-members_of}

-- the whole number that a member says
abbrev count_of : Option Data → ℕ
count_of o = unwrap_or (option_and_then as_u64 (option_and_then as_number o)) 0

-- ---- an object in the place of another

counted : (b : Bool) (existing : Data) (meta : Members) → get_member (codes "generation") meta ≡ metadata (codes "generation") existing
    → count_of (get_member (codes "generation") (with_next_generation b existing meta)) ≡ cond b (next_generation (generation existing)) (generation existing)
counted true existing meta is = ap count_of (get_member-put (codes "generation") (unsigned_value (next_generation (generation existing))) meta)
counted false existing meta is = ap count_of is

-- a member beside the metadata is as it was
get-at_revision : (q : List ℕ) (r : ℕ) (meta : Members) (d : Data) → bytes_eq q (codes "metadata") ≡ false → get q (at_revision r meta d) ≡ get q d
get-at_revision q r meta d other = get_member-put_other q (codes "metadata") _ (members_of d) (apart q (codes "metadata") other) ∙ sym (get-members_of q d)

same_generation : (k : Kind) (existing new d : Data) → get (codes "spec") new ≡ get (codes "spec") d → metadata (codes "annotations") new ≡ metadata (codes "annotations") d
    → is_new_generation k existing d ≡ is_new_generation k existing new
same_generation ConfigMap existing new d spec notes = refl
same_generation Pod existing new d spec notes = refl
same_generation ReplicaSet existing new d spec notes = ap (λ o. has_changed (get (codes "spec") existing) o) (sym spec)
same_generation Deployment existing new d spec notes =
    ap (λ o. has_changed (get (codes "spec") existing) o || has_new_annotations existing d) (sym spec)
    ∙ ap (λ o. has_new_spec existing new || has_changed (metadata (codes "annotations") existing) o) (sym notes)

abbrev Counts : Request → Kind → Data → Data → Type 0
Counts q k existing new =
    has_generation k ≡ true → is_some (metadata (codes "generation") existing) ≡ true → generation new ≡ cond (rises q k existing new) (next_generation (generation existing)) (generation existing)

abbrev CountedBy : Request → History → Outcome → Type 0
CountedBy q h o = OfReplaced h o (λ k existing new. Counts q k.kind existing new)

update_counts : (q : Request) (k : Kind) (r : ℕ) (existing o : Data) → is_delete q ≡ false → Counts q k existing (updated k r existing (in_place k existing o))
update_counts q k r existing o other has some =
    let d = in_place k existing o in
    let is_new = is_new_generation k existing d in
    let new = updated k r existing d in
    let same = same_generation k existing new d (get-at_revision (codes "spec") r (with_next_generation is_new existing (metadata_of d)) d refl) (member-updated (codes "annotations") k r existing d refl refl) in
    ap count_of (member-at_revision (codes "generation") r (with_next_generation is_new existing (metadata_of d)) d refl)
    ∙ counted is_new existing (metadata_of d) (generation-in_place k existing o some) ∙ ap (λ b. cond b (next_generation (generation existing)) (generation existing)) same
    ∙ ap (λ b. cond (cond b (not (is_being_deleted existing)) (is_new_generation k existing new)) (next_generation (generation existing)) (generation existing)) (sym other)

-- ---- an update of the status

get-with_status : (q : List ℕ) (s : Option Data) (existing : Data) → bytes_eq q (codes "status") ≡ false → get q (object (with_status s (members_of existing))) ≡ get q existing
get-with_status q None existing other = sym (get-members_of q existing)
get-with_status q (Some d) existing other = get_member-put_other q (codes "status") d (members_of existing) (apart q (codes "status") other) ∙ sym (get-members_of q existing)

get-restated : (q : List ℕ) (k : Kind) (r : ℕ) (existing o : Data) → bytes_eq q (codes "status") ≡ false → bytes_eq q (codes "metadata") ≡ false
    → get q (at_revision r (metadata_of (with_status_in k existing o)) (with_status_in k existing o)) ≡ get q existing
get-restated q k r existing o a b =
    let d = with_status_in k existing o in
    get-at_revision q r (metadata_of d) d b ∙ get-with_status q (status_in k (get (codes "status") o)) existing a

pub change_nothing_else : StatusesChangeNothingElse
change_nothing_else k d h moment =
    of_status
    (λ u. OfReplaced h u
    (λ written existing new.
    ((q : List ℕ) → bytes_eq q (codes "status") ≡ false → bytes_eq q (codes "metadata") ≡ false → get q new ≡ get q existing)
    × ((q : List ℕ) → bytes_eq q (codes "resourceVersion") ≡ false → metadata q new ≡ metadata q existing)))
    (λ f. tt) (λ shown. tt) k (reading k.kind d) (entries_at h (present h)) (present h)
    (λ o existing read at equal fits low.
    let made = with_status_in k.kind existing o in
    let new = at_revision (present h + 1) (metadata_of made) made in
    at_held h k existing
    (λ was.
    ((q : List ℕ) → bytes_eq q (codes "status") ≡ false → bytes_eq q (codes "metadata") ≡ false → get q new ≡ get q was)
    × ((q : List ℕ) → bytes_eq q (codes "resourceVersion") ≡ false → metadata q new ≡ metadata q was))
    at (λ q a b. get-restated q k.kind (present h + 1) existing o a b, λ q other. member-restated q k.kind (present h + 1) existing o other))

unchanged : (o : Option Data) → has_changed o o ≡ false
unchanged o = ap not ((bytes_eq-Decides (text_or_empty o) (text_or_empty o)).1 refl)

not_new : (k : Kind) (existing new : Data) → get (codes "spec") new ≡ get (codes "spec") existing → metadata (codes "annotations") new ≡ metadata (codes "annotations") existing → is_new_generation k existing new ≡ false
not_new ConfigMap existing new spec notes = refl
not_new Pod existing new spec notes = refl
not_new ReplicaSet existing new spec notes = ap (has_changed (get (codes "spec") existing)) spec ∙ unchanged (get (codes "spec") existing)
not_new Deployment existing new spec notes =
    ap (λ o. has_changed (get (codes "spec") existing) o || has_new_annotations existing new) spec ∙ ap (λ b. b || has_new_annotations existing new) (unchanged (get (codes "spec") existing))
    ∙ ap (has_changed (metadata (codes "annotations") existing)) notes ∙ unchanged (metadata (codes "annotations") existing)

status_counts : (k l : Key) (d : Data) (r : ℕ) (existing o : Data)
    → Counts (update_status k d) l.kind existing (at_revision r (metadata_of (with_status_in l.kind existing o)) (with_status_in l.kind existing o))
status_counts k l d r existing o has some =
    let made = with_status_in l.kind existing o in
    let new = at_revision r (metadata_of made) made in
    ap count_of (member-restated (codes "generation") l.kind r existing o refl)
    ∙ ap (λ b. cond b (next_generation (generation existing)) (generation existing))
    (sym (not_new l.kind existing new (get-restated (codes "spec") l.kind r existing o refl refl) (member-restated (codes "annotations") l.kind r existing o refl)))

-- ---- a delete

deletion_counted : (b : Bool) (k : Kind) (moment : List ℕ) (existing : Data) → has_generation k ≡ true
    → count_of (get_member (codes "generation") (cond b (metadata_of existing) (put (codes "deletionTimestamp") (string moment) (with_next_generation (has_generation k) existing (metadata_of existing)))))
    ≡ cond (not b) (next_generation (generation existing)) (generation existing)
deletion_counted true k moment existing has = refl
deletion_counted false k moment existing has =
    ap count_of
    (get_member-put_other (codes "generation") (codes "deletionTimestamp") (string moment) (with_next_generation (has_generation k) existing (metadata_of existing))
    (apart (codes "generation") (codes "deletionTimestamp") refl))
    ∙ counted (has_generation k) existing (metadata_of existing) refl ∙ ap (λ b. cond b (next_generation (generation existing)) (generation existing)) has

mark_counts : (k l : Key) (o : Options) (r : ℕ) (moment : List ℕ) (left : Items) (existing : Data)
    → Counts (delete_object k o) l.kind existing (at_revision r (metadata_of (being_deleted l.kind moment left existing)) (being_deleted l.kind moment left existing))
mark_counts k l o r moment left existing has some =
    let d = being_deleted l.kind moment left existing in
    let meta = put (codes "finalizers") (array left) (with_deletion l.kind moment existing) in
    ap count_of
    (member-at_revision (codes "generation") r (metadata_of d) d refl ∙ ap (get_member (codes "generation")) (metadata_of-with meta existing)
    ∙ get_member-put_other (codes "generation") (codes "finalizers") (array left) (with_deletion l.kind moment existing) (apart (codes "generation") (codes "finalizers") refl))
    ∙ deletion_counted (is_being_deleted existing) l.kind moment existing has

-- ---- each request

pub count : GenerationsCount
count (get_object k) h moment = there (CountedBy (get_object k) h) (λ f. tt) k shown (found k (entries_at h (present h))) (λ d is. tt)
count (list_objects v) h moment = tt
count (create_object kind ns d) h moment =
    of_create (CountedBy (create_object kind ns d) h) (λ f. tt) kind ns (object_in kind d) (entries_at h (present h)) (present h) moment
    (λ o read valid fits free room.
    let k = new_name kind ns o (entries_at h (present h)) (present h) in
    of_none (λ existing. Counts (create_object kind ns d) kind existing (created kind (present h + 1) ns k.name moment o)) (state h (present h) k)
    (sym (found-state h k) ∙ none_from (found k (entries_at h (present h))) free))
count (update_object k d) h moment =
    of_update (CountedBy (update_object k d) h) (λ f. tt) (λ d. tt) k (object_in k.kind d) (entries_at h (present h)) (present h)
    (λ o existing read at equal valid fits low.
    let new = updated k.kind (present h + 1) existing (in_place k.kind existing o) in
    at_held h k existing (λ was. Counts (update_object k d) k.kind was new) at (update_counts (update_object k d) k.kind (present h + 1) existing o refl))
    (λ o existing read at equal free low. tt)
count (update_status k d) h moment =
    of_status (CountedBy (update_status k d) h) (λ f. tt) (λ d. tt) k (reading k.kind d) (entries_at h (present h)) (present h)
    (λ o existing read at equal fits low.
    let made = with_status_in k.kind existing o in
    at_held h k existing (λ was. Counts (update_status k d) k.kind was (at_revision (present h + 1) (metadata_of made) made)) at (status_counts k k d (present h + 1) existing o))
count (patch_object k d) h moment =
    of_patch (CountedBy (patch_object k d) h) (λ f. tt) (λ d. tt) k d (entries_at h (present h)) (present h)
    (λ o existing read at equal valid fits low.
    let new = updated k.kind (present h + 1) existing (in_place k.kind existing o) in
    at_held h k existing (λ was. Counts (patch_object k d) k.kind was new) at (update_counts (patch_object k d) k.kind (present h + 1) existing o refl))
    (λ o existing read at equal free low. tt)
count (delete_object k o) h moment =
    of_delete (CountedBy (delete_object k o) h) (λ f. tt) (λ code body. tt) k o (entries_at h (present h)) (present h) moment
    (λ existing at same same_version low.
    let d = being_deleted k.kind moment (left_by o.policy (finalizers existing)) existing in
    at_held h k existing (λ was. Counts (delete_object k o) k.kind was (at_revision (present h + 1) (metadata_of d) d)) at
    (mark_counts k k o (present h + 1) moment (left_by o.policy (finalizers existing)) existing))
    (λ existing at same same_version none low. tt)

-- ---- a new object

first_counted : (b : Bool) (k : Kind) (meta : Members) → has_generation k ≡ b → b ≡ true → get_member (codes "generation") (with_generation k meta) ≡ Some (unsigned_value 1)
first_counted true k meta is h = ap (λ c. get_member (codes "generation") (cond c (put (codes "generation") (unsigned_value 1) meta) meta)) is ∙ get_member-put (codes "generation") (unsigned_value 1) meta
first_counted false k meta is h = cc

generation-new_metadata : (k : Kind) (r : ℕ) (ns named moment : List ℕ) (meta : Members) → has_generation k ≡ true
    → get_member (codes "generation") (new_metadata k r ns named moment meta) ≡ Some (unsigned_value 1)
generation-new_metadata k r ns named moment meta has =
    let based = with_generation k (without (codes "deletionTimestamp") meta) in
    let with_name = put (codes "name") (string named) based in
    let with_namespace = put (codes "namespace") (string ns) with_name in
    let with_time = put (codes "creationTimestamp") (string moment) with_namespace in
    get_member-put_other (codes "generation") (codes "uid") (string (uid_text cluster_word r)) with_time (apart (codes "generation") (codes "uid") refl)
    ∙ get_member-put_other (codes "generation") (codes "creationTimestamp") (string moment) with_namespace (apart (codes "generation") (codes "creationTimestamp") refl)
    ∙ get_member-put_other (codes "generation") (codes "namespace") (string ns) with_name (apart (codes "generation") (codes "namespace") refl)
    ∙ get_member-put_other (codes "generation") (codes "name") (string named) based (apart (codes "generation") (codes "name") refl)
    ∙ first_counted (has_generation k) k (without (codes "deletionTimestamp") meta) refl has

pub begin : GenerationsBegin
begin kind ns d h moment has =
    of_create (λ u. OfStored u (λ k new. generation new ≡ 1)) (λ f. tt) kind ns (object_in kind d) (entries_at h (present h)) (present h) moment
    (λ o read valid fits free room.
    let k = new_name kind ns o (entries_at h (present h)) (present h) in
    let meta = new_metadata kind (present h + 1) ns k.name moment (metadata_of o) in
    ap count_of
    (member-at_revision (codes "generation") (present h + 1) meta (object (with_status (first_status kind) (members_of o))) refl
    ∙ generation-new_metadata kind (present h + 1) ns k.name moment (metadata_of o) has))

pub no_change : NoWriteNoChange
no_change q h moment none = ap (with_write h) none
