-- What is true of every outcome of a verb, by its cases.
use Rattle.std.proofs.Common.{◌≡◌, ℕ, List, cond, None, Some, Result, Ok, Err, Bool, not, ◌||◌, ◌&&◌, ◌==◌, is_some, nat_le, length, refl, true, false, ◌+◌}
use Rattle.serde_json.specs.Data.{Data}
use Rattle.serde_json.specs.Events.{items_len}
use Rattle.spec_api.specs.declared.kinds.Kind.{Kind}
use Rattle.spec_api.specs.declared.refusals.Part.{Part}
use Rattle.spec_api.specs.declared.refusals.Part.TheVariants as part
use Rattle.spec_api.specs.declared.refusals.Mismatch.TheVariants as mismatch
use Rattle.spec_api.specs.declared.refusals.Field.TheVariants as field
use Rattle.spec_api.specs.Checks.{create_fault, update_fault, is_status_valid, finalizers}
use Rattle.spec_api.specs.DeleteOptions.{Options}
use Rattle.spec_api.specs.Deletion.{Fate, remove, mark, keep, fate, being_deleted, leaves, left_by, removal_of, kept_code, decided}
use Rattle.spec_api.specs.Kinds.{has_status}
use Rattle.spec_api.specs.Keys.{Key}
use Rattle.spec_api.specs.History as history
use Rattle.spec_api.specs.History.{History, found, entries_at, present}
use Rattle.spec_api.specs.Metadata.{namespace, uid, version, metadata_of, at_revision, is_being_deleted, is_other, differs}
use Rattle.spec_api.specs.NewObjects.{created, with_first_status}
use Rattle.spec_api.specs.Reading.{is_body, reading}
use Rattle.spec_api.specs.Refusals.{Refusal, bad_request, not_found, already_exists, conflict, invalid, too_large, storage_full}
use Rattle.spec_api.specs.Replacements.{in_place, is_finalized, says_the_same, updated, with_status_in}
use Rattle.spec_api.specs.Values.{merged}
use Rattle.spec_api.specs.Verbs.{Outcome, answered, refused, accept_at, accept, shown, stored, removed, object_in, new_name, put_in_place, take_out, if_same, replace, replace_status, by_decision, names_path, is_too_large, is_past_greatest, most_objects}
use Rattle.spec_api.specs.ObjectRequests.{Request, get_object, list_objects, create_object, update_object, update_status, patch_object, delete_object}
use Rattle.spec_api.proofs.VerbSteps.{create_as, create_checked, create_read, replace_changed, replace_with, update_read, restate, status_read, patch_read, patch, by_fate, delete, status_put}
use Rattle.spec_laws.proofs.Guards.{guard, guard_field, there, either}

module _ (P : Outcome → Type 0) (refusal : (f : Refusal) → P (refused f)) where
  -- ---- create

  of_create_as : (k : Key) (d : Data) (ms : history.Entries) (r : ℕ)
      → (is_too_large d ≡ false → is_some (found k ms) ≡ false → (nat_le most_objects (length ms) || is_past_greatest (r + 1)) ≡ false → P (stored 201 k d))
      → P (create_as k d ms r)
  of_create_as k d ms r each =
      guard P refusal (is_too_large d) too_large _
      (λ fits. guard P refusal (is_some (found k ms)) (already_exists k) _ (λ free. guard P refusal (nat_le most_objects (length ms) || is_past_greatest (r + 1)) storage_full _ (λ room. each fits free room)))

  pub of_create : (kind : Kind) (ns : List ℕ) (read : Result Data Part) (ms : history.Entries) (r : ℕ) (moment : List ℕ)
      → ((o : Data) → read ≡ Ok o → create_fault kind (new_name kind ns o ms r).name r (with_first_status kind o) ≡ None
      → is_too_large (created kind (r + 1) ns (new_name kind ns o ms r).name moment o) ≡ false → is_some (found (new_name kind ns o ms r) ms) ≡ false
      → (nat_le most_objects (length ms) || is_past_greatest (r + 1)) ≡ false → P (stored 201 (new_name kind ns o ms r) (created kind (r + 1) ns (new_name kind ns o ms r).name moment o)))
      → P (create_read kind ns read ms r moment)
  of_create kind ns (Err p) ms r moment each = refusal (bad_request p)
  of_create kind ns (Ok o) ms r moment each =
      let k = new_name kind ns o ms r in
      guard P refusal (is_other (namespace o) ns || is_some (version o)) (bad_request part.Object) (create_checked k o ms r moment)
      (λ _. guard_field P refusal k (create_fault kind k.name r (with_first_status kind o)) (create_as k (created kind (r + 1) ns k.name moment o) ms r)
      (λ valid. of_create_as k (created kind (r + 1) ns k.name moment o) ms r (each o refl valid)))

  -- ---- what stands in the place of the stored object

  of_put : (k : Key) (d : Data) (r : ℕ) → (is_too_large d ≡ false → is_past_greatest (r + 1) ≡ false → P (stored 200 k d)) → P (put_in_place k d r)
  of_put k d r each = guard P refusal (is_too_large d) too_large _ (λ fits. guard P refusal (is_past_greatest (r + 1)) storage_full _ (λ low. each fits low))

  of_let_go : (k : Key) (d : Data) (r : ℕ) → (is_past_greatest (r + 1) ≡ false → P (removed k d)) → P (take_out k d r)
  of_let_go k d r each = guard P refusal (is_past_greatest (r + 1)) storage_full (removed k d) each

  same_as_named : (k : Key) (o existing : Data) (next : Outcome) → (differs (version o) (version existing) ≡ false → P next) → P (if_same k o existing next)
  same_as_named k o existing next each =
      guard P refusal (differs (uid o) (uid existing)) (conflict k mismatch.Uid) _
      (λ _. guard P refusal (differs (version o) (version existing)) (conflict k mismatch.Modified) next (λ same. each same))

  module _ (show : (d : Data) → P (shown d)) where
    of_replace : (k : Key) (o : Data) (r : ℕ) (existing : Data)
        → (differs (version o) (version existing) ≡ false → update_fault k.kind k.name r existing (in_place k.kind existing o) ≡ None → is_too_large (updated k.kind (r + 1) existing (in_place k.kind existing o)) ≡ false
        → is_past_greatest (r + 1) ≡ false → P (stored 200 k (updated k.kind (r + 1) existing (in_place k.kind existing o))))
        → (differs (version o) (version existing) ≡ false → is_finalized existing (updated k.kind (r + 1) existing (in_place k.kind existing o)) ≡ true → is_past_greatest (r + 1) ≡ false
        → P (removed k (updated k.kind (r + 1) existing (in_place k.kind existing o)))) → P (replace k o r existing)
    of_replace k o r existing put gone =
        let d = in_place k.kind existing o in
        let new = updated k.kind (r + 1) existing d in
        same_as_named k o existing (replace_with k existing d r)
        (λ same. guard_field P refusal k (update_fault k.kind k.name r existing d) (replace_changed k existing d r)
        (λ valid. either P (says_the_same existing d) (shown existing) (cond (is_finalized existing new) (take_out k new r) (put_in_place k new r)) (λ _. show existing)
        (λ _. either P (is_finalized existing new) (take_out k new r) (put_in_place k new r) (λ free. of_let_go k new r (gone same free)) (λ _. of_put k new r (put same valid)))))

    pub of_update : (k : Key) (read : Result Data Part) (ms : history.Entries) (r : ℕ)
        → ((o existing : Data) → read ≡ Ok o → found k ms ≡ Some existing → differs (version o) (version existing) ≡ false → update_fault k.kind k.name r existing (in_place k.kind existing o) ≡ None
        → is_too_large (updated k.kind (r + 1) existing (in_place k.kind existing o)) ≡ false → is_past_greatest (r + 1) ≡ false → P (stored 200 k (updated k.kind (r + 1) existing (in_place k.kind existing o))))
        → ((o existing : Data) → read ≡ Ok o → found k ms ≡ Some existing → differs (version o) (version existing) ≡ false → is_finalized existing (updated k.kind (r + 1) existing (in_place k.kind existing o)) ≡ true
        → is_past_greatest (r + 1) ≡ false → P (removed k (updated k.kind (r + 1) existing (in_place k.kind existing o)))) → P (update_read k read ms r)
    of_update k (Err p) ms r put gone = refusal (bad_request p)
    of_update k (Ok o) ms r put gone =
        guard P refusal (not (names_path k o)) (bad_request part.Object) _
        (λ _. there P refusal k (replace k o r) (found k ms) (λ existing is. of_replace k o r existing (put o existing refl is) (gone o existing refl is)))

    patched : (k : Key) (read : Result Data Part) (r : ℕ) (existing : Data)
        → ((o : Data) → read ≡ Ok o → differs (version o) (version existing) ≡ false → update_fault k.kind k.name r existing (in_place k.kind existing o) ≡ None
        → is_too_large (updated k.kind (r + 1) existing (in_place k.kind existing o)) ≡ false → is_past_greatest (r + 1) ≡ false → P (stored 200 k (updated k.kind (r + 1) existing (in_place k.kind existing o))))
        → ((o : Data) → read ≡ Ok o → differs (version o) (version existing) ≡ false → is_finalized existing (updated k.kind (r + 1) existing (in_place k.kind existing o)) ≡ true → is_past_greatest (r + 1) ≡ false
        → P (removed k (updated k.kind (r + 1) existing (in_place k.kind existing o)))) → P (patch_read k r existing read)
    patched k (Err p) r existing put gone = refusal (bad_request p)
    patched k (Ok o) r existing put gone = guard P refusal (not (names_path k o)) (bad_request part.Object) (replace k o r existing) (λ _. of_replace k o r existing (put o refl) (gone o refl))

    pub of_patch : (k : Key) (d : Data) (ms : history.Entries) (r : ℕ)
        → ((o existing : Data) → object_in k.kind (merged existing d) ≡ Ok o → found k ms ≡ Some existing → differs (version o) (version existing) ≡ false → update_fault k.kind k.name r existing (in_place k.kind existing o) ≡ None
        → is_too_large (updated k.kind (r + 1) existing (in_place k.kind existing o)) ≡ false → is_past_greatest (r + 1) ≡ false → P (stored 200 k (updated k.kind (r + 1) existing (in_place k.kind existing o))))
        → ((o existing : Data) → object_in k.kind (merged existing d) ≡ Ok o → found k ms ≡ Some existing → differs (version o) (version existing) ≡ false
        → is_finalized existing (updated k.kind (r + 1) existing (in_place k.kind existing o)) ≡ true → is_past_greatest (r + 1) ≡ false → P (removed k (updated k.kind (r + 1) existing (in_place k.kind existing o))))
        → P (patch k d ms r)
    of_patch k d ms r put gone =
        guard P refusal (not (is_body d)) (bad_request part.Body) _
        (λ _. there P refusal k (λ existing. patch_read k r existing (object_in k.kind (merged existing d))) (found k ms)
        (λ existing is. patched k (object_in k.kind (merged existing d)) r existing (λ o read. put o existing read is) (λ o read. gone o existing read is)))

    of_status_put : (k : Key) (read : Result Data Part) (ms : history.Entries) (r : ℕ)
        → ((o existing : Data) → read ≡ Ok o → found k ms ≡ Some existing → differs (version o) (version existing) ≡ false
        → is_too_large (at_revision (r + 1) (metadata_of (with_status_in k.kind existing o)) (with_status_in k.kind existing o)) ≡ false → is_past_greatest (r + 1) ≡ false
        → P (stored 200 k (at_revision (r + 1) (metadata_of (with_status_in k.kind existing o)) (with_status_in k.kind existing o))))
        → P (status_put k read ms r)
    of_status_put k (Err p) ms r put = refusal (bad_request p)
    of_status_put k (Ok o) ms r put =
        guard P refusal (not (names_path k o)) (bad_request part.Object) _
        (λ _. there P refusal k (replace_status k o r) (found k ms)
        (λ existing is.
        let d = with_status_in k.kind existing o in
        let new = at_revision (r + 1) (metadata_of d) d in
        same_as_named k o existing (restate k existing d r)
        (λ same. guard P refusal (not (is_status_valid k.kind d)) (invalid k field.Status) (cond (says_the_same existing d) (shown existing) (put_in_place k new r))
        (λ _. either P (says_the_same existing d) (shown existing) (put_in_place k new r) (λ _. show existing) (λ _. of_put k new r (put o existing refl is same))))))

    pub of_status : (k : Key) (read : Result Data Part) (ms : history.Entries) (r : ℕ)
        → ((o existing : Data) → read ≡ Ok o → found k ms ≡ Some existing → differs (version o) (version existing) ≡ false
        → is_too_large (at_revision (r + 1) (metadata_of (with_status_in k.kind existing o)) (with_status_in k.kind existing o)) ≡ false → is_past_greatest (r + 1) ≡ false
        → P (stored 200 k (at_revision (r + 1) (metadata_of (with_status_in k.kind existing o)) (with_status_in k.kind existing o))))
        → P (status_read k read ms r)
    of_status k read ms r put = guard P refusal (not (has_status k.kind)) (not_found k) (status_put k read ms r) (λ _. of_status_put k read ms r put)

-- ---- delete

module _ (P : Outcome → Type 0) (refusal : (f : Refusal) → P (refused f)) (quiet : (code : ℕ) (body : Data) → P (answered (record { code = code; body = body; write = None }))) where
  of_fate : (k : Key) (code : ℕ) (existing : Data) (r : ℕ) (none known : Bool) (d : Data)
      → (none ≡ true → is_past_greatest (r + 1) ≡ false → P (removed k (removal_of k.kind k (r + 1) existing)))
      → (none ≡ false → is_past_greatest (r + 1) ≡ false → P (stored code k (at_revision (r + 1) (metadata_of d) d)))
      → P (by_fate k code existing r (cond none remove (cond known keep (mark d))))
  of_fate k code existing r true known d gone put = guard P refusal (is_past_greatest (r + 1)) storage_full (removed k (removal_of k.kind k (r + 1) existing)) (gone refl)
  of_fate k code existing r false true d gone put = quiet code existing
  of_fate k code existing r false false d gone put = guard P refusal (is_past_greatest (r + 1)) storage_full (stored code k (at_revision (r + 1) (metadata_of d) d)) (put refl)

  of_decision : (k : Key) (code : ℕ) (existing : Data) (r : ℕ) (other changed : Bool) (f : Fate) → (other ≡ false → changed ≡ false → P (by_fate k code existing r f))
      → P (by_decision k code existing r (cond other (Err mismatch.Uid) (cond changed (Err mismatch.ResourceVersion) (Ok f))))
  of_decision k code existing r true changed f each = refusal (conflict k mismatch.Uid)
  of_decision k code existing r false true f each = refusal (conflict k mismatch.ResourceVersion)
  of_decision k code existing r false false f each = each refl refl

  pub of_delete : (k : Key) (o : Options) (ms : history.Entries) (r : ℕ) (moment : List ℕ)
      → ((existing : Data) → found k ms ≡ Some existing → differs o.uid (uid existing) ≡ false → differs o.version (version existing) ≡ false → is_past_greatest (r + 1) ≡ false
      → P (stored (kept_code o.policy) k
      (at_revision (r + 1) (metadata_of (being_deleted k.kind moment (left_by o.policy (finalizers existing)) existing)) (being_deleted k.kind moment (left_by o.policy (finalizers existing)) existing))))
      → ((existing : Data) → found k ms ≡ Some existing → differs o.uid (uid existing) ≡ false → differs o.version (version existing) ≡ false → (items_len (left_by o.policy (finalizers existing)) == 0) ≡ true
      → is_past_greatest (r + 1) ≡ false → P (removed k (removal_of k.kind k (r + 1) existing)))
      → P (delete k o ms r moment)
  of_delete k o ms r moment put gone =
      there P refusal k (λ existing. by_decision k (kept_code o.policy) existing r (decided k.kind o moment existing)) (found k ms)
      (λ existing is. of_decision k (kept_code o.policy) existing r (differs o.uid (uid existing)) (differs o.version (version existing)) (fate k.kind o.policy moment existing)
      (λ same same_version. of_fate k (kept_code o.policy) existing r (items_len (left_by o.policy (finalizers existing)) == 0) (is_being_deleted existing && leaves o.policy (finalizers existing))
      (being_deleted k.kind moment (left_by o.policy (finalizers existing)) existing) (gone existing is same same_version) (λ _. put existing is same same_version)))

-- ---- all verbs

-- what may be written of a new object, by a create: it was read, and its checks passed
abbrev pub Creates : (Outcome → Type 0) → history.Entries → ℕ → List ℕ → Type 0
Creates P ms r moment =
    (kind : Kind) (ns : List ℕ) (d o : Data) → object_in kind d ≡ Ok o → create_fault kind (new_name kind ns o ms r).name r (with_first_status kind o) ≡ None
    → is_too_large (created kind (r + 1) ns (new_name kind ns o ms r).name moment o) ≡ false
    → is_some (found (new_name kind ns o ms r) ms) ≡ false
    → (nat_le most_objects (length ms) || is_past_greatest (r + 1)) ≡ false
    → P (stored 201 (new_name kind ns o ms r) (created kind (r + 1) ns (new_name kind ns o ms r).name moment o))

-- in the place of the stored object, by an update or a patch
abbrev pub Updates : (Outcome → Type 0) → history.Entries → ℕ → Type 0
Updates P ms r =
    (k : Key) (o existing : Data) → found k ms ≡ Some existing → update_fault k.kind k.name r existing (in_place k.kind existing o) ≡ None
    → is_too_large (updated k.kind (r + 1) existing (in_place k.kind existing o)) ≡ false
    → is_past_greatest (r + 1) ≡ false → P (stored 200 k (updated k.kind (r + 1) existing (in_place k.kind existing o)))

-- where nothing keeps it any more
abbrev pub Removes : (Outcome → Type 0) → history.Entries → ℕ → Type 0
Removes P ms r =
    (k : Key) (o existing : Data) → found k ms ≡ Some existing → is_finalized existing (updated k.kind (r + 1) existing (in_place k.kind existing o)) ≡ true
    → is_past_greatest (r + 1) ≡ false → P (removed k (updated k.kind (r + 1) existing (in_place k.kind existing o)))

-- by an update of the status
abbrev pub Restates : (Outcome → Type 0) → history.Entries → ℕ → Type 0
Restates P ms r =
    (k : Key) (o existing : Data) → found k ms ≡ Some existing
    → is_too_large (at_revision (r + 1) (metadata_of (with_status_in k.kind existing o)) (with_status_in k.kind existing o)) ≡ false → is_past_greatest (r + 1) ≡ false
    → P (stored 200 k (at_revision (r + 1) (metadata_of (with_status_in k.kind existing o)) (with_status_in k.kind existing o)))

-- by a delete that leaves finalizers
abbrev pub Marks : (Outcome → Type 0) → history.Entries → ℕ → List ℕ → Type 0
Marks P ms r moment =
    (k : Key) (o : Options) (existing : Data) → found k ms ≡ Some existing → is_past_greatest (r + 1) ≡ false
    → P (stored (kept_code o.policy) k
    (at_revision (r + 1) (metadata_of (being_deleted k.kind moment (left_by o.policy (finalizers existing)) existing)) (being_deleted k.kind moment (left_by o.policy (finalizers existing)) existing)))

-- by a delete that leaves none
abbrev pub Deletes : (Outcome → Type 0) → history.Entries → ℕ → Type 0
Deletes P ms r =
    (k : Key) (o : Options) (existing : Data) → found k ms ≡ Some existing → (items_len (left_by o.policy (finalizers existing)) == 0) ≡ true
    → is_past_greatest (r + 1) ≡ false → P (removed k (removal_of k.kind k (r + 1) existing))

module _ (P : Outcome → Type 0) (refusal : (f : Refusal) → P (refused f)) (quiet : (code : ℕ) (body : Data) → P (answered (record { code = code; body = body; write = None }))) where
  pub of_accept_at : (q : Request) (ms : history.Entries) (r : ℕ) (moment : List ℕ) → Creates P ms r moment → Updates P ms r → Removes P ms r → Restates P ms r → Marks P ms r moment → Deletes P ms r
      → P (accept_at q ms r moment)
  of_accept_at (get_object k) ms r moment new put gone status marks deletes = there P refusal k shown (found k ms) (λ d is. quiet 200 d)
  of_accept_at (list_objects v) ms r moment new put gone status marks deletes = quiet 200 _
  of_accept_at (create_object kind ns d) ms r moment new put gone status marks deletes =
      of_create P refusal kind ns (object_in kind d) ms r moment (new kind ns d)
  of_accept_at (update_object k d) ms r moment new put gone status marks deletes =
      of_update P refusal (quiet 200) k (object_in k.kind d) ms r (λ o existing read is same. put k o existing is) (λ o existing read is same. gone k o existing is)
  of_accept_at (update_status k d) ms r moment new put gone status marks deletes =
      of_status P refusal (quiet 200) k (reading k.kind d) ms r (λ o existing read is same. status k o existing is)
  of_accept_at (patch_object k d) ms r moment new put gone status marks deletes =
      of_patch P refusal (quiet 200) k d ms r (λ o existing read is same. put k o existing is) (λ o existing read is same. gone k o existing is)
  of_accept_at (delete_object k o) ms r moment new put gone status marks deletes =
      of_delete P refusal quiet k o ms r moment (λ existing is same same_version. marks k o existing is) (λ existing is same same_version. deletes k o existing is)

  -- after a history
  pub of_accept : (q : Request) (h : History) (moment : List ℕ) → Creates P (entries_at h (present h)) (present h) moment → Updates P (entries_at h (present h)) (present h)
      → Removes P (entries_at h (present h)) (present h) → Restates P (entries_at h (present h)) (present h) → Marks P (entries_at h (present h)) (present h) moment
      → Deletes P (entries_at h (present h)) (present h) → P (accept q h moment)
  of_accept q h moment new put gone status marks deletes = of_accept_at q (entries_at h (present h)) (present h) moment new put gone status marks deletes
