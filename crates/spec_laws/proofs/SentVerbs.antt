-- What each verb stores is stored as it should be.
use Rattle.std.proofs.Common.{[], ◌∷◌, ◌≡◌, ◌≤◌, ◌+◌, ◌&&◌, ◌==◌, ℕ, List, length, Bool, true, false, cond, not, nat_le, codes, decimal, bytes_eq, is_some, IfSome, Option, Some, None, Result, Ok, Err, refl, sym, ap, ◌∙◌, subst, arith}
use Rattle.std.proofs.lemmas.Slice.Eq.{bytes_eq-Decides}
use Rattle.serde_json.specs.Data.{Data, string, array, object, Items, put}
use Rattle.serde_json.specs.Events.{items_len}
use Rattle.serde_json.specs.Find.{get}
use Rattle.serde_json.proofs.Views.{get_member-put_other}
use Rattle.spec_api.proofs.Truths.{right_false}
use Rattle.spec_api.specs.declared.kinds.Kind.{Kind}
use Rattle.spec_api.specs.declared.policies.Policy.{Policy}
use Rattle.spec_api.specs.declared.refusals.Field.TheVariants as field
use Rattle.spec_api.specs.declared.refusals.Part.{Part}
use Rattle.spec_api.specs.declared.refusals.Part.TheVariants as part
use Rattle.spec_api.specs.declared.refusals.Mismatch.TheVariants as mismatch
use Rattle.spec_api.specs.declared.schemas.Schema.TheVariants.{Metadata}
use Rattle.spec_api.specs.Checks.{update_fault, is_status_valid, finalizers}
use Rattle.spec_api.specs.DeleteOptions.{Options}
use Rattle.spec_api.specs.Deletion.{Fate, remove, mark, keep, decided, fate, kept_code, leaves, left_by, being_deleted, removal_of, with_deletion}
use Rattle.spec_api.specs.Kinds.{has_generation, has_status}
use Rattle.spec_api.specs.Keys.{Key, is_namespace}
use Rattle.spec_api.specs.History as history
use Rattle.spec_api.specs.History.{History, entries_at, found, present}
use Rattle.spec_api.specs.Metadata.{is_other, differs, metadata_of, name, namespace, uid, version, at_revision, is_being_deleted}
use Rattle.spec_api.specs.NewObjects.{first_status, new_metadata, with_status}
use Rattle.spec_api.specs.Reading.{reading, is_body}
use Rattle.spec_api.specs.Refusals.{bad_request, not_found, invalid, storage_full}
use Rattle.spec_api.specs.Replacements.{generation, in_place, is_finalized, is_new_generation, next_generation, status_in, says_the_same, updated, with_next_generation, with_status_in}
use Rattle.spec_api.specs.Values.{inner_of, members_of, merged}
use Rattle.spec_api.specs.Verbs.{accept, by_decision, removed, stored, shown, object_in, new_name, replace, take_out, put_in_place, replace_status, names_path, is_past_greatest, most_objects}
use Rattle.spec_api.specs.ObjectRequests.{Request, get_object, list_objects, create_object, update_object, update_status, patch_object, delete_object}
use Rattle.spec_api.proofs.VerbSteps.{by_fate, delete, create_read, update_read, replace_with, replace_changed, status_read, restate, patch, patch_read, status_put}
use Rattle.spec_laws.proofs.Cases.{of_create}
use Rattle.spec_laws.proofs.Guards.{there, either}
use Rattle.spec_laws.proofs.SetMetadata.{name-new_metadata, namespace-new_metadata, uid-new_metadata, name-in_place, namespace-in_place, uid-in_place, text-with_next_generation}
use Rattle.spec_api.proofs.JsonMembers.{apart, text_in, text_in-put_other, metadata_of-with}
use Rattle.spec_laws.proofs.JsonOrder.{IsOrdered}
use Rattle.spec_laws.proofs.LeftFinalizers.{one_finalizers, texts_held, texts_left}
use Rattle.spec_laws.proofs.DeletionTimestamps.{marked_fits, room_marked, with_finalizers}
use Rattle.spec_laws.proofs.NameBytes.{namespace_text, name_text}
use Rattle.spec_laws.proofs.NeatMembers.{Neat, Neat-put, IsFilled, One}
use Rattle.spec_api.specs.Reached.{IsParsed, CanBeRead, IsTimestamp}
use Rattle.spec_laws.proofs.Parsed.{parsed_said, parsed_reading, parsed_merged}
use Rattle.spec_laws.proofs.ParsedObjects.{meta as meta_of, new_meta, new_members, placed, counted, restated, marked_meta}
use Rattle.spec_laws.proofs.TextLengths.{put_twice}
use Rattle.spec_laws.proofs.VerbLaws.{kept_is, text-with_deletion}
use Rattle.spec_api.proofs.FirstStatus.{get-members_of}
use Rattle.spec_laws.proofs.WholeObjects.{AreWhole, may_first, neat_metadata, whole_in_place, whole_read, whole_said, whole_status, whole_with_said}
use Rattle.spec_laws.proofs.SentObjects.{IsStored, IsHeld, Says, stored_in, stored_at, whole_stored, created_valid, filled_new, neat_generation, neat_new, filled_long, Stores, low_after, behind, behind_field, by_if_same, by_put}

filled_namespace : (ns : List ℕ) → is_namespace ns ≡ true → IsFilled ns
filled_namespace [] h = cc
filled_namespace (b ∷ bs) h = filled_long (b ∷ bs) (omega arith)

-- ---- create

by_create : (kind : Kind) (ns : List ℕ) (d : Data) (ms : history.Entries) (r : ℕ) (moment : List ℕ) → is_namespace ns ≡ true → IsTimestamp moment → IsParsed d
    → Stores (r + 1) (create_read kind ns (object_in kind d) ms r moment)
by_create kind ns d ms r moment space now a =
    of_create (Stores (r + 1)) (λ f. tt) kind ns (object_in kind d) ms r moment
    (λ o is none fits free room.
    let k = new_name kind ns o ms r in
    let meta = new_metadata kind (r + 1) ns k.name moment (metadata_of o) in
    let new = object (with_status (first_status kind) (members_of o)) in
    let w : AreWhole kind (members_of o) = whole_said kind d o is in
    let p = parsed_said kind d o is a in
    let says : Says k meta =
    record {
      name = name-new_metadata kind (r + 1) ns k.name moment (metadata_of o);
      namespace = namespace-new_metadata kind (r + 1) ns k.name moment (metadata_of o);
      uid = ap is_some (uid-new_metadata kind (r + 1) ns k.name moment (metadata_of o));
    } in
    let low = low_after (r + 1) (right_false (nat_le most_objects (length ms)) (is_past_greatest (r + 1)) room) in
    stored_at k (r + 1) meta new (whole_status kind (first_status kind) (members_of o) (may_first kind) w)
    (neat_new kind (r + 1) ns k.name moment (metadata_of o) (filled_namespace ns space) (filled_new kind ns o ms r r none) (filled_long moment now.0) (neat_metadata kind o w))
    (new_members kind o p) (new_meta kind (r + 1) ns k.name moment (metadata_of o) (namespace_text ns space) (name_text k.name (created_valid kind ns o ms r r none)) now.2 (meta_of o p)) says low fits)

-- ---- update

-- it names the object of its path
path_named : (a : Bool) (k : List ℕ) (o : Option (List ℕ)) → not (not a && not (differs (Some k) o)) ≡ false → o ≡ Some k
path_named true k o h = cc
path_named false k None h = cc
path_named false k (Some t) h = same_at (bytes_eq k t) k t refl h
  where
    same_at : (b : Bool) (s t : List ℕ) → bytes_eq s t ≡ b → not (not (not b)) ≡ false → Some t ≡ Some s
    same_at true s t is h = ap Some (sym ((bytes_eq-Decides s t).0 is))
    same_at false s t is h = cc

kept_some : (o new : Option (List ℕ)) → is_some o ≡ true → IfSome o (λ t. new ≡ Some t) → is_some new ≡ true
kept_some None new h k = cc
kept_some (Some t) new h k = ap is_some k

-- what stands in the place of an object has the members that it had
says_in_place : (k : Key) (s : ℕ) (existing o : Data) (is_new : Bool) → IsStored k s existing → not (names_path k o) ≡ false → Says k (with_next_generation is_new existing (metadata_of (in_place k.kind existing o)))
says_in_place k s existing o is_new was path =
    let d = in_place k.kind existing o in
    record {
      name = text-with_next_generation (codes "name") is_new existing (metadata_of d) refl ∙ name-in_place k.kind existing o ∙ path_named (is_other (namespace o) k.namespace) k.name (name o) path;
      namespace =
          text-with_next_generation (codes "namespace") is_new existing (metadata_of d) refl
          ∙ kept_is (namespace existing) (namespace d) k.namespace was.kept.namespace (namespace-in_place k.kind existing o);
      uid = ap is_some (text-with_next_generation (codes "uid") is_new existing (metadata_of d) refl) ∙ kept_some (uid existing) (uid d) was.kept.uid (uid-in_place k.kind existing o);
    }

by_changed : (k : Key) (o : Data) (r s : ℕ) (existing : Data) → AreWhole k.kind (members_of o) → IsParsed o → not (names_path k o) ≡ false → IsStored k s existing
    → Stores (r + 1) (replace_changed k existing (in_place k.kind existing o) r)
by_changed k o r s existing w p path was =
    let d = in_place k.kind existing o in
    let is_new = is_new_generation k.kind existing d in
    let new = updated k.kind (r + 1) existing d in
    let made : AreWhole k.kind (members_of d) = whole_in_place k.kind existing o (whole_stored k s existing was) w in
    let meta : Neat 98 Metadata (with_next_generation is_new existing (metadata_of d)) =
    neat_generation is_new (next_generation (generation existing)) (metadata_of d) (neat_metadata k.kind d made) in
    let whole : IsParsed d = placed k.kind existing o was.parsed p in
    let order = counted is_new existing (metadata_of d) was.parsed (meta_of d whole) in
    either (Stores (r + 1)) (says_the_same existing d) (shown existing) _ (λ _. tt)
    (λ _. either (Stores (r + 1)) (is_finalized existing new) (take_out k new r) (put_in_place k new r) (λ _. behind (r + 1) (is_past_greatest (r + 1)) storage_full _ (λ _. tt))
    (λ _. by_put k new r (λ fits low. stored_at k (r + 1) (with_next_generation is_new existing (metadata_of d)) d made meta whole order (says_in_place k s existing o is_new was path) low fits)))

by_replace : (k : Key) (o : Data) (r s : ℕ) (existing : Data) → AreWhole k.kind (members_of o) → IsParsed o → not (names_path k o) ≡ false → IsStored k s existing → Stores (r + 1) (replace k o r existing)
by_replace k o r s existing w p path was =
    let d = in_place k.kind existing o in
    by_if_same (r + 1) k o existing (replace_with k existing d r) (behind_field (r + 1) k (update_fault k.kind k.name r existing d) (replace_changed k existing d r) (λ _. by_changed k o r s existing w p path was))

by_update : (k : Key) (d : Data) (read : Result Data Part) (ms : history.Entries) (r : ℕ) → object_in k.kind d ≡ read → IsParsed d → IfSome (found k ms) (IsHeld k)
    → Stores (r + 1) (update_read k read ms r)
by_update k d (Err p) ms r is a existing = tt
by_update k d (Ok o) ms r is a existing =
    behind (r + 1) (not (names_path k o)) (bad_request part.Object) _
    (λ path. there (Stores (r + 1)) (λ f. tt) k (replace k o r) (found k ms)
    (λ was at. let there_is = subst (λ x. IfSome x (IsHeld k)) at existing in by_replace k o r there_is.0 was (whole_said k.kind d o is) (parsed_said k.kind d o is a) path there_is.1))

-- ---- update of the status

metadata-with_status : (s : Option Data) (existing : Data) → metadata_of (object (with_status s (members_of existing))) ≡ metadata_of existing
metadata-with_status None existing = ap inner_of (sym (get-members_of (codes "metadata") existing))
metadata-with_status (Some d) existing =
    ap inner_of (get_member-put_other (codes "metadata") (codes "status") d (members_of existing) (apart (codes "metadata") (codes "status") refl) ∙ sym (get-members_of (codes "metadata") existing))

says_held : (k : Key) (s : ℕ) (existing : Data) → IsStored k s existing → Says k (metadata_of existing)
says_held k s existing was = record { name = was.kept.name; namespace = was.kept.namespace; uid = was.kept.uid }

by_restate : (k : Key) (o : Data) (r s : ℕ) (existing : Data) → AreWhole k.kind (members_of o) → IsParsed o → IsStored k s existing → Stores (r + 1) (restate k existing (with_status_in k.kind existing o) r)
by_restate k o r s existing w p was =
    let d = with_status_in k.kind existing o in
    let made : AreWhole k.kind (members_of d) = whole_with_said k.kind existing o (whole_stored k s existing was) w in
    let whole : IsParsed d = restated k.kind existing o was.parsed p in
    let says : Says k (metadata_of d) = subst (Says k) (sym (metadata-with_status (status_in k.kind (get (codes "status") o)) existing)) (says_held k s existing was) in
    behind (r + 1) (not (is_status_valid k.kind d)) (invalid k field.Status) _
    (λ _. either (Stores (r + 1)) (says_the_same existing d) (shown existing) _ (λ _. tt)
    (λ _. by_put k (at_revision (r + 1) (metadata_of d) d) r (λ fits low. stored_at k (r + 1) (metadata_of d) d made (neat_metadata k.kind d made) whole (meta_of d whole) says low fits)))

by_status_put : (k : Key) (d : Data) (read : Result Data Part) (ms : history.Entries) (r : ℕ) → reading k.kind d ≡ read → IsParsed d → IfSome (found k ms) (IsHeld k)
    → Stores (r + 1) (status_put k read ms r)
by_status_put k d (Err p) ms r is a existing = tt
by_status_put k d (Ok o) ms r is a existing =
    behind (r + 1) (not (names_path k o)) (bad_request part.Object) _
    (λ path. there (Stores (r + 1)) (λ f. tt) k (replace_status k o r) (found k ms)
    (λ was at.
    let there_is = subst (λ x. IfSome x (IsHeld k)) at existing in
    by_if_same (r + 1) k o was (restate k was (with_status_in k.kind was o) r) (by_restate k o r there_is.0 was (whole_read k.kind d o is) (parsed_reading k.kind d o is a) there_is.1)))

by_status : (k : Key) (d : Data) (read : Result Data Part) (ms : history.Entries) (r : ℕ) → reading k.kind d ≡ read → IsParsed d → IfSome (found k ms) (IsHeld k)
    → Stores (r + 1) (status_read k read ms r)
by_status k d read ms r is a existing = behind (r + 1) (not (has_status k.kind)) (not_found k) (status_put k read ms r) (λ _. by_status_put k d read ms r is a existing)

-- ---- patch

by_patched : (k : Key) (d : Data) (read : Result Data Part) (r s : ℕ) (existing : Data) → object_in k.kind (merged existing d) ≡ read → IsParsed d → IsStored k s existing → Stores (r + 1) (patch_read k r existing read)
by_patched k d (Err p) r s existing is a was = tt
by_patched k d (Ok o) r s existing is a was =
    behind (r + 1) (not (names_path k o)) (bad_request part.Object) (replace k o r existing)
    (λ path. by_replace k o r s existing (whole_said k.kind (merged existing d) o is) (parsed_said k.kind (merged existing d) o is (parsed_merged existing d was.parsed a)) path was)

by_patch : (k : Key) (d : Data) (ms : history.Entries) (r : ℕ) → IsParsed d → IfSome (found k ms) (IsHeld k) → Stores (r + 1) (patch k d ms r)
by_patch k d ms r a existing =
    behind (r + 1) (not (is_body d)) (bad_request part.Body) _
    (λ _. there (Stores (r + 1)) (λ f. tt) k (λ was. patch_read k r was (object_in k.kind (merged was d))) (found k ms)
    (λ was at. let there_is = subst (λ x. IfSome x (IsHeld k)) at existing in by_patched k d (object_in k.kind (merged was d)) r there_is.0 was refl a there_is.1))

-- ---- delete

one_deletion : (moment : List ℕ) → IsFilled moment → One 98 Metadata (codes "deletionTimestamp") (string moment)
one_deletion moment h = (refl, h, tt, omega arith, refl)

neat_deletion : (is_marked is_new : Bool) (moment : List ℕ) (existing : Data) → IsFilled moment → Neat 98 Metadata (metadata_of existing)
    → Neat 98 Metadata (cond is_marked (metadata_of existing) (put (codes "deletionTimestamp") (string moment) (with_next_generation is_new existing (metadata_of existing))))
neat_deletion true is_new moment existing now m = m
neat_deletion false is_new moment existing now m =
    Neat-put 98 Metadata (codes "deletionTimestamp") (string moment) (with_next_generation is_new existing (metadata_of existing)) (one_deletion moment now)
    (neat_generation is_new (next_generation (generation existing)) (metadata_of existing) m)

-- an object whose deletionTimestamp is set has the members that it had
text_marked : (q : List ℕ) (k : Kind) (moment : List ℕ) (left : Items) (existing : Data) → bytes_eq q (codes "finalizers") ≡ false → bytes_eq q (codes "deletionTimestamp") ≡ false
    → bytes_eq q (codes "generation") ≡ false → text_in q (with_finalizers left (with_deletion k moment existing)) ≡ text_in q (metadata_of existing)
text_marked q k moment left existing a b c =
    text_in-put_other q (codes "finalizers") (array left) (with_deletion k moment existing) a ∙ text-with_deletion q k moment existing (is_being_deleted existing) b c

says_marked : (k : Key) (s : ℕ) (moment : List ℕ) (left : Items) (existing : Data) → IsStored k s existing → Says k (with_finalizers left (with_deletion k.kind moment existing))
says_marked k s moment left existing was =
    record {
      name = text_marked (codes "name") k.kind moment left existing refl refl refl ∙ was.kept.name;
      namespace = text_marked (codes "namespace") k.kind moment left existing refl refl refl ∙ was.kept.namespace;
      uid = ap is_some (text_marked (codes "uid") k.kind moment left existing refl refl refl) ∙ was.kept.uid;
    }

-- a mark is its object with other metadata
marked_at : (k : Kind) (r : ℕ) (moment : List ℕ) (left : Items) (existing : Data)
    → at_revision r (metadata_of (being_deleted k moment left existing)) (being_deleted k moment left existing) ≡ at_revision r (with_finalizers left (with_deletion k moment existing)) existing
marked_at k r moment left existing =
    let meta = with_finalizers left (with_deletion k moment existing) in
    let now = put (codes "resourceVersion") (string (decimal r)) meta in
    ap (λ m. at_revision r m (being_deleted k moment left existing)) (metadata_of-with meta existing) ∙ ap object (put_twice (codes "metadata") (object meta) (object now) (members_of existing))

by_mark : (k : Key) (o : Option Policy) (r s : ℕ) (moment : List ℕ) (existing : Data) → IsTimestamp moment → IsStored k s existing → (items_len (left_by o (finalizers existing)) == 0) ≡ false → r ≤ 9007199254740991
    → IsStored k r (at_revision r (metadata_of (being_deleted k.kind moment (left_by o (finalizers existing)) existing)) (being_deleted k.kind moment (left_by o (finalizers existing)) existing))
by_mark k o r s moment existing now was some low =
    let left = left_by o (finalizers existing) in
    let from = with_deletion k.kind moment existing in
    let meta = with_finalizers left from in
    let w : AreWhole k.kind (members_of existing) = whole_stored k s existing was in
    let m : Neat 98 Metadata (metadata_of existing) = neat_metadata k.kind existing w in
    let a : IsOrdered (metadata_of existing) = (meta_of existing was.parsed).0 in
    let neat : Neat 98 Metadata meta =
    Neat-put 98 Metadata (codes "finalizers") (array left) from (one_finalizers left (texts_left o (finalizers existing) (texts_held (metadata_of existing) m)) some)
    (neat_deletion (is_being_deleted existing) (has_generation k.kind) moment existing (filled_long moment now.0) m) in
    let stored_so : IsStored k r (at_revision r meta existing) =
    stored_in k r meta existing w neat was.parsed (marked_meta k.kind moment o existing now.2 was.parsed) (says_marked k s moment left existing was) low (marked_fits k.kind moment now.1 existing a was.room r o low) (room_marked k.kind moment now.1 existing a was.room r o) in
    subst (IsStored k r) (sym (marked_at k.kind r moment left existing)) stored_so

by_fated : (k : Key) (code : ℕ) (existing : Data) (r : ℕ) (none known : Bool) (d : Data) → (none ≡ false → r + 1 ≤ 9007199254740991 → IsStored k (r + 1) (at_revision (r + 1) (metadata_of d) d))
    → Stores (r + 1) (by_fate k code existing r (cond none remove (cond known keep (mark d))))
by_fated k code existing r true known d each = behind (r + 1) (is_past_greatest (r + 1)) storage_full (removed k (removal_of k.kind k (r + 1) existing)) (λ _. tt)
by_fated k code existing r false true d each = tt
by_fated k code existing r false false d each =
    behind (r + 1) (is_past_greatest (r + 1)) storage_full (stored code k (at_revision (r + 1) (metadata_of d) d)) (λ room. each refl (low_after (r + 1) room))

by_decided : (k : Key) (code : ℕ) (existing : Data) (r : ℕ) (other changed : Bool) (f : Fate) → Stores (r + 1) (by_fate k code existing r f)
    → Stores (r + 1) (by_decision k code existing r (cond other (Err mismatch.Uid) (cond changed (Err mismatch.ResourceVersion) (Ok f))))
by_decided k code existing r true changed f each = tt
by_decided k code existing r false true f each = tt
by_decided k code existing r false false f each = each

by_delete : (k : Key) (o : Options) (ms : history.Entries) (r : ℕ) (moment : List ℕ) → IsTimestamp moment → IfSome (found k ms) (IsHeld k) → Stores (r + 1) (delete k o ms r moment)
by_delete k o ms r moment now existing =
    there (Stores (r + 1)) (λ f. tt) k (λ was. by_decision k (kept_code o.policy) was r (decided k.kind o moment was)) (found k ms)
    (λ was at.
    let there_is = subst (λ x. IfSome x (IsHeld k)) at existing in
    let left = left_by o.policy (finalizers was) in
    by_decided k (kept_code o.policy) was r (differs o.uid (uid was)) (differs o.version (version was)) (fate k.kind o.policy moment was)
    (by_fated k (kept_code o.policy) was r (items_len left == 0) (is_being_deleted was && leaves o.policy (finalizers was)) (being_deleted k.kind moment left was)
    (λ some low. by_mark k o.policy (r + 1) there_is.0 moment was now there_is.1 some low)))

-- ---- the verbs

-- what is written is stored as it should be, where what is there is
pub stores : (q : Request) (h : History) (moment : List ℕ) → CanBeRead q → IsTimestamp moment → ((k : Key) → IfSome (found k (entries_at h (present h))) (IsHeld k)) → Stores (present h + 1) (accept q h moment)
stores (get_object k) h moment asked now existing = there (Stores (present h + 1)) (λ f. tt) k shown (found k (entries_at h (present h))) (λ d is. tt)
stores (list_objects v) h moment asked now existing = tt
stores (create_object kind ns d) h moment asked now existing = by_create kind ns d (entries_at h (present h)) (present h) moment asked.0 now asked.1
stores (update_object k d) h moment asked now existing = by_update k d (object_in k.kind d) (entries_at h (present h)) (present h) refl asked (existing k)
stores (update_status k d) h moment asked now existing = by_status k d (reading k.kind d) (entries_at h (present h)) (present h) refl asked (existing k)
stores (patch_object k d) h moment asked now existing = by_patch k d (entries_at h (present h)) (present h) asked (existing k)
stores (delete_object k o) h moment asked now existing = by_delete k o (entries_at h (present h)) (present h) moment now (existing k)
