-- What is answered to a request of one object is read back: it is what was there, what is stored, or what tells of a removal.
use Rattle.std.proofs.Common.{◌≡◌, ◌+◌, ◌==◌, ◌&&◌, ◌||◌, ℕ, List, Bool, true, false, cond, not, length, is_some, nat_le, Option, Some, None, IfSome, Result, Ok, Err, refl, subst}
use Rattle.serde_json.specs.Data.{Data}
use Rattle.serde_json.specs.Events.{items_len}
use Rattle.spec_api.specs.declared.kinds.Kind.{Kind}
use Rattle.spec_api.specs.declared.refusals.Field.TheVariants as field
use Rattle.spec_api.specs.declared.refusals.Mismatch.TheVariants as mismatch
use Rattle.spec_api.specs.declared.refusals.Part.{Part}
use Rattle.spec_api.specs.declared.refusals.Part.TheVariants as part
use Rattle.spec_api.specs.Checks.{create_fault, update_fault, finalizers, is_status_valid}
use Rattle.spec_api.specs.DeleteOptions.{Options}
use Rattle.spec_api.specs.Deletion.{Fate, remove, mark, keep, decided, fate, kept_code, leaves, left_by, being_deleted, removal_of}
use Rattle.spec_api.specs.History as history
use Rattle.spec_api.specs.History.{History, Write, entries_at, found, present}
use Rattle.spec_api.specs.Keys.{Key}
use Rattle.spec_api.specs.Kinds.{has_status}
use Rattle.spec_api.specs.Metadata.{metadata_of, at_revision, namespace, uid, version, differs, is_being_deleted}
use Rattle.spec_api.specs.Metadata.{is_other}
use Rattle.spec_api.specs.NewObjects.{with_first_status, created}
use Rattle.spec_api.specs.ObjectRequests.{Request, get_object, list_objects, create_object, update_object, update_status, patch_object, delete_object}
use Rattle.spec_api.specs.Reached.{CanBeRead, IsParsed}
use Rattle.spec_api.specs.Reading.{reading, is_body}
use Rattle.spec_api.specs.Refusals.{Refusal, bad_request, not_found, already_exists, conflict, invalid, too_large, storage_full}
use Rattle.spec_api.specs.Replacements.{in_place, updated, with_status_in, is_finalized, says_the_same}
use Rattle.spec_api.specs.Values.{members_of, merged}
use Rattle.spec_api.specs.Verbs.{Outcome, answered, refused, accept, shown, stored, removed, refuse_if, refuse_field, is_too_large, is_past_greatest, most_objects, object_in, create, new_name, names_path, take_out, put_in_place, replace, replace_status, by_decision}
use Rattle.spec_api.proofs.VerbSteps.{by_fate, delete, create_read, update_read, replace_with, replace_changed, status_read, restate, patch, patch_read, status_put}
use Rattle.spec_laws.proofs.Guards.{guard, guard_field, there, either}
use Rattle.spec_laws.proofs.Parsed.{parsed_said, parsed_merged}
use Rattle.spec_laws.proofs.SentObjects.{IsStored, IsHeld, Stores, low_after}
use Rattle.spec_laws.proofs.SentVerbs.{stores}
use Rattle.spec_laws.proofs.Stored.{all_stored, found_held}
use Rattle.spec_laws.proofs.WholeObjects.{AreWhole, whole_said}
use Rattle.spec_laws.specs.AnswerLaws.{IsReadBack, IsOfObject, AnswersAreReadBack}
use Rattle.spec_laws.proofs.ReplyRemovals.{stored_back, updated_back, removal_back}

-- ---- where an answer comes from

-- the answer to a request that stores an object is the object, and the answer to one that removes one is read back
FromPut : Data → Option Data → Type 0
FromPut body (Some d) = d ≡ body
FromPut body None = IsReadBack body

-- that of one that writes nothing is what is there
FromWrite : history.Entries → Data → Option Write → Type 0
FromWrite ms body None = (k : Key) × (found k ms ≡ Some body)
FromWrite ms body (Some w) = FromPut body w.put

From : history.Entries → Outcome → Type 0
From ms (refused f) = Unit {0}
From ms (answered a) = FromWrite ms a.body a.write

module _ (ms : history.Entries) where
  none : (f : Refusal) → From ms (refused f)
  unfolding From FromWrite FromPut
  none f = tt

  behind : (b : Bool) (f : Refusal) (o : Outcome) → (b ≡ false → From ms o) → From ms (refuse_if b f o)
  behind b f o next = guard (From ms) none b f o next

  -- ---- create

  put_so : (code : ℕ) (k : Key) (d : Data) → From ms (stored code k d)
  unfolding From FromWrite FromPut
  put_so code k d = refl

  by_object : (kind : Kind) (ns : List ℕ) (o : Data) (r : ℕ) (moment : List ℕ) → From ms (create kind ns o ms r moment)
  by_object kind ns o r moment =
      let k = new_name kind ns o ms r in
      let new = created kind (r + 1) ns k.name moment o in
      let fault = create_fault kind k.name r (with_first_status kind o) in
      let is_full = nat_le most_objects (length ms) || is_past_greatest (r + 1) in
      let with_room = refuse_if is_full storage_full (stored 201 k new) in
      let absent = refuse_if (is_some (found k ms)) (already_exists k) with_room in
      let short = refuse_if (is_too_large new) too_large absent in
      behind (is_other (namespace o) ns || is_some (version o)) (bad_request part.Object) (refuse_field k fault short)
      (λ _. guard_field (From ms) none k fault short
      (λ _. behind (is_too_large new) too_large absent (λ _. behind (is_some (found k ms)) (already_exists k) with_room (λ _. behind is_full storage_full (stored 201 k new) (λ _. put_so 201 k new)))))

  by_create : (kind : Kind) (ns : List ℕ) (said : Result Data Part) (r : ℕ) (moment : List ℕ) → From ms (create_read kind ns said ms r moment)
  unfolding From
  by_create kind ns (Err p) r moment = tt
  by_create kind ns (Ok o) r moment = by_object kind ns o r moment

  -- ---- update

  by_changed : (k : Key) (o : Data) (r s : ℕ) (existing : Data) → AreWhole k.kind (members_of o) → IsParsed o → IsStored k s existing → found k ms ≡ Some existing
      → From ms (replace_changed k existing (in_place k.kind existing o) r)
  unfolding From FromWrite FromPut
  by_changed k o r s existing w p was at =
      let d = in_place k.kind existing o in
      let new = updated k.kind (r + 1) existing d in
      either (From ms) (says_the_same existing d) (shown existing) _ (λ _. (k, at))
      (λ _. either (From ms) (is_finalized existing new) (take_out k new r) (put_in_place k new r)
      (λ _. behind (is_past_greatest (r + 1)) storage_full _ (λ room. updated_back k (r + 1) s existing o (low_after (r + 1) room) was w p))
      (λ _. behind (is_too_large new) too_large _ (λ _. behind (is_past_greatest (r + 1)) storage_full (stored 200 k new) (λ _. refl))))

  by_replace : (k : Key) (o : Data) (r s : ℕ) (existing : Data) → AreWhole k.kind (members_of o) → IsParsed o → IsStored k s existing → found k ms ≡ Some existing
      → From ms (replace k o r existing)
  by_replace k o r s existing w p was at =
      let d = in_place k.kind existing o in
      behind (differs (uid o) (uid existing)) (conflict k mismatch.Uid) _
      (λ _. behind (differs (version o) (version existing)) (conflict k mismatch.Modified) (replace_with k existing d r)
      (λ _. guard_field (From ms) none k (update_fault k.kind k.name r existing d) (replace_changed k existing d r) (λ _. by_changed k o r s existing w p was at)))

  by_update : (k : Key) (d : Data) (said : Result Data Part) (r : ℕ) → object_in k.kind d ≡ said → IsParsed d → IfSome (found k ms) (IsHeld k) → From ms (update_read k said ms r)
  unfolding From FromWrite FromPut
  by_update k d (Err p) r is a existing = tt
  by_update k d (Ok o) r is a existing =
      behind (not (names_path k o)) (bad_request part.Object) _
      (λ _. there (From ms) none k (replace k o r) (found k ms)
      (λ was at.
      let there_is = subst (λ x. IfSome x (IsHeld k)) at existing in by_replace k o r there_is.0 was (whole_said k.kind d o is) (parsed_said k.kind d o is a) there_is.1 at))

  -- ---- update of the status

  by_restate : (k : Key) (d : Data) (r : ℕ) (existing : Data) → found k ms ≡ Some existing → From ms (restate k existing d r)
  unfolding From FromWrite FromPut
  by_restate k d r existing at =
      let new = at_revision (r + 1) (metadata_of d) d in
      behind (not (is_status_valid k.kind d)) (invalid k field.Status) _
      (λ _. either (From ms) (says_the_same existing d) (shown existing) _ (λ _. (k, at))
      (λ _. behind (is_too_large new) too_large _ (λ _. behind (is_past_greatest (r + 1)) storage_full (stored 200 k new) (λ _. refl))))

  by_status : (k : Key) (said : Result Data Part) (r : ℕ) → From ms (status_read k said ms r)
  unfolding From FromWrite FromPut
  by_status k (Err p) r = behind (not (has_status k.kind)) (not_found k) (status_put k (Err p) ms r) (λ _. tt)
  by_status k (Ok o) r =
      behind (not (has_status k.kind)) (not_found k) (status_put k (Ok o) ms r)
      (λ _. behind (not (names_path k o)) (bad_request part.Object) _
      (λ _. there (From ms) none k (replace_status k o r) (found k ms)
      (λ was at.
      behind (differs (uid o) (uid was)) (conflict k mismatch.Uid) _
      (λ _. behind (differs (version o) (version was)) (conflict k mismatch.Modified) (restate k was (with_status_in k.kind was o) r) (λ _. by_restate k (with_status_in k.kind was o) r was at)))))

  -- ---- patch

  by_patched : (k : Key) (d : Data) (said : Result Data Part) (r s : ℕ) (existing : Data) → object_in k.kind (merged existing d) ≡ said → IsParsed d → IsStored k s existing → found k ms ≡ Some existing
      → From ms (patch_read k r existing said)
  unfolding From FromWrite FromPut
  by_patched k d (Err p) r s existing is a was at = tt
  by_patched k d (Ok o) r s existing is a was at =
      behind (not (names_path k o)) (bad_request part.Object) (replace k o r existing)
      (λ _. by_replace k o r s existing (whole_said k.kind (merged existing d) o is) (parsed_said k.kind (merged existing d) o is (parsed_merged existing d was.parsed a)) was at)

  by_patch : (k : Key) (d : Data) (r : ℕ) → IsParsed d → IfSome (found k ms) (IsHeld k) → From ms (patch k d ms r)
  by_patch k d r a existing =
      behind (not (is_body d)) (bad_request part.Body) _
      (λ _. there (From ms) none k (λ was. patch_read k r was (object_in k.kind (merged was d))) (found k ms)
      (λ was at. let there_is = subst (λ x. IfSome x (IsHeld k)) at existing in by_patched k d (object_in k.kind (merged was d)) r there_is.0 was refl a there_is.1 at))

  -- ---- delete

  by_fated : (k : Key) (code : ℕ) (existing : Data) (r s : ℕ) (gone known : Bool) (d : Data) → IsStored k s existing → found k ms ≡ Some existing
      → From ms (by_fate k code existing r (cond gone remove (cond known keep (mark d))))
  unfolding From FromWrite FromPut
  by_fated k code existing r s true known d was at =
      behind (is_past_greatest (r + 1)) storage_full (removed k (removal_of k.kind k (r + 1) existing)) (λ room. removal_back k.kind k (r + 1) s existing (low_after (r + 1) room) was)
  by_fated k code existing r s false true d was at = (k, at)
  by_fated k code existing r s false false d was at =
      behind (is_past_greatest (r + 1)) storage_full (stored code k (at_revision (r + 1) (metadata_of d) d)) (λ _. refl)

  by_decided : (k : Key) (code : ℕ) (existing : Data) (r : ℕ) (other changed : Bool) (f : Fate) → From ms (by_fate k code existing r f)
      → From ms (by_decision k code existing r (cond other (Err mismatch.Uid) (cond changed (Err mismatch.ResourceVersion) (Ok f))))
  unfolding From FromWrite FromPut
  by_decided k code existing r true changed f each = tt
  by_decided k code existing r false true f each = tt
  by_decided k code existing r false false f each = each

  by_delete : (k : Key) (o : Options) (r : ℕ) (moment : List ℕ) → IfSome (found k ms) (IsHeld k) → From ms (delete k o ms r moment)
  by_delete k o r moment existing =
      there (From ms) none k (λ was. by_decision k (kept_code o.policy) was r (decided k.kind o moment was)) (found k ms)
      (λ was at.
      let there_is = subst (λ x. IfSome x (IsHeld k)) at existing in
      let left = left_by o.policy (finalizers was) in
      by_decided k (kept_code o.policy) was r (differs o.uid (uid was)) (differs o.version (version was)) (fate k.kind o.policy moment was)
      (by_fated k (kept_code o.policy) was r there_is.0 (items_len left == 0) (is_being_deleted was && leaves o.policy (finalizers was)) (being_deleted k.kind moment left was) there_is.1 at))

-- ---- the verbs

by_verb : (q : Request) (h : History) (moment : List ℕ) → CanBeRead q → IsOfObject q → ((k : Key) → IfSome (found k (entries_at h (present h))) (IsHeld k)) → From (entries_at h (present h)) (accept q h moment)
unfolding From FromWrite FromPut
by_verb (get_object k) h moment asked one held = let ms = entries_at h (present h) in there (From ms) (none ms) k shown (found k ms) (λ d at. (k, at))
by_verb (list_objects v) h moment asked one held = absurd one
by_verb (create_object kind ns d) h moment asked one held = by_create (entries_at h (present h)) kind ns (object_in kind d) (present h) moment
by_verb (update_object k d) h moment asked one held = by_update (entries_at h (present h)) k d (object_in k.kind d) (present h) refl asked (held k)
by_verb (update_status k d) h moment asked one held = by_status (entries_at h (present h)) k (reading k.kind d) (present h)
by_verb (patch_object k d) h moment asked one held = by_patch (entries_at h (present h)) k d (present h) asked (held k)
by_verb (delete_object k o) h moment asked one held = by_delete (entries_at h (present h)) k o (present h) moment (held k)

-- ---- what comes from there is read back

put_back : (k : Key) (r : ℕ) (body : Data) (put : Option Data) → FromPut body put → IfSome put (IsStored k r) → IsReadBack body
unfolding From FromWrite FromPut
put_back k r body (Some d) is was = subst IsReadBack is (stored_back k r d was)
put_back k r body None is was = is

write_back : (ms : history.Entries) (r : ℕ) (body : Data) (w : Option Write) → ((k : Key) → IfSome (found k ms) (IsHeld k)) → FromWrite ms body w → IfSome w (λ x. IfSome x.put (IsStored x.key r))
    → IsReadBack body
unfolding From FromWrite FromPut
write_back ms r body None held is written =
    let was = subst (λ o. IfSome o (IsHeld is.0)) is.1 (held is.0) in
    stored_back is.0 was.0 body was.1
write_back ms r body (Some w) held is written = put_back w.key r body w.put is written

pub answers_back : AnswersAreReadBack
unfolding From FromWrite FromPut
answers_back h q moment a reached asked now one is =
    let ms = entries_at h (present h) in
    let held : (k : Key) → IfSome (found k ms) (IsHeld k) = λ k. found_held h (present h) k (all_stored h reached) in
    write_back ms (present h + 1) a.body a.write held (subst (From ms) is (by_verb q h moment asked one held)) (subst (Stores (present h + 1)) is (stores q h moment asked now held))
