-- The laws of the verbs, each by their cases.
use Rattle.std.proofs.Common.{IfSome, Result, Ok, ◌≤◌, ◌≡◌, ℕ, ◌+◌, List, [], length, Bool, true, false, true≢false, cond, not, Option, Some, None, is_some, is_eq, ◌++◌, ◌∷◌, codes, bytes_eq, decimal, refl, sym, ap, subst, ◌∙◌}
use Rattle.std.proofs.lemmas.Slice.Eq.{bytes_eq-Decides}
use Rattle.std.proofs.lemmas.Cmp.{tied_itself}
use Rattle.std.proofs.lemmas.List.{length-append}
use Rattle.serde_json.specs.Find.{get}
use Rattle.serde_json.specs.Data.{Data, null, boolean, number, string, array, object, Items, put}
use Rattle.serde_json.proofs.Views.{get_member-put_other}
use Rattle.spec_api.specs.declared.kinds.Kind.{Kind}
use Rattle.spec_api.specs.declared.kinds.Kind.TheVariants.{ConfigMap, Pod, ReplicaSet, Deployment}
use Rattle.spec_api.specs.declared.refusals.Part.{Part}
use Rattle.serde_json.specs.Written.{compact_text}
use Rattle.spec_api.specs.Defaults.{defaulted, replica_set_defaults, deployment_defaults}
use Rattle.spec_api.proofs.FoundMembers.{with_found}
use Rattle.spec_api.specs.Checks.{finalizers}
use Rattle.spec_api.specs.Deletion.{left_by, being_deleted, with_deletion}
use Rattle.spec_api.specs.Kinds.{has_generation}
use Rattle.spec_api.specs.Keys.{Key}
use Rattle.spec_api.specs.History.{History, Write, write, writes, up_to, entries_at, found, present, state}
use Rattle.spec_laws.specs.HistoryLaws.{OfStored, KeepsText, WritesCarryTheirRevision, CreatesAreNew, NamedVersionsAreReplaced, RefusalsWriteNothing, AnswersAreRead, WritesFit, WritesKeepIdentity}
use Rattle.spec_api.specs.Metadata.{metadata_of, metadata_text, uid, version, at_revision, is_being_deleted, differs}
use Rattle.spec_api.specs.NewObjects.{new_metadata, created, first_status, with_status}
use Rattle.spec_api.specs.Reading.{reading}
use Rattle.spec_api.specs.Replacements.{updated, in_place, status_in, with_status_in, with_next_generation, is_new_generation}
use Rattle.spec_api.specs.Uids.{uid_text, cluster_word}
use Rattle.spec_api.specs.Verbs.{shown, Outcome, outcome_body, history_after, new_name, object_in}
use Rattle.spec_api.specs.ObjectRequests.{get_object, list_objects, create_object, update_object, update_status, patch_object, delete_object}
use Rattle.spec_api.proofs.VerbSteps.{with_defaults}
use Rattle.spec_api.specs.Values.{members_of, inner_of, with_member}
use Rattle.spec_laws.proofs.Cases.{of_accept, of_create, of_update, of_patch, of_status}
use Rattle.spec_laws.proofs.Guards.{there}
use Rattle.spec_api.proofs.JsonMembers.{apart, text_in, text_in-put_other, metadata_of-with}
use Rattle.spec_laws.proofs.SetMetadata.{at_most, version-at_revision, text-at_revision, uid-created, moved, uid-in_place, creation-in_place, text-updated, text-with_next_generation}
use Rattle.spec_laws.proofs.Past.{set, writes-append}
use Rattle.spec_api.proofs.FirstStatus.{get-members_of}
use Rattle.spec_api.proofs.PutLaws.{found-after_all, name_cmp_total}

pub versions : WritesCarryTheirRevision
versions q h moment =
    of_accept (λ o. OfStored o (λ k d. version d ≡ Some (decimal (present h + 1)))) (λ f. tt) (λ code body. tt) q h moment
    (λ kind ns d o read valid fits free room.
    let k = new_name kind ns o (entries_at h (present h)) (present h) in
    version-at_revision (present h + 1) (new_metadata kind (present h + 1) ns k.name moment (metadata_of o)) (object (with_status (first_status kind) (members_of o))))
    (λ k o existing at valid fits low.
    let d = in_place k.kind existing o in version-at_revision (present h + 1) (with_next_generation (is_new_generation k.kind existing d) existing (metadata_of d)) d)
    (λ k o existing at free low. tt) (λ k o existing at fits low. let d = with_status_in k.kind existing o in version-at_revision (present h + 1) (metadata_of d) d)
    (λ k o existing at low. let d = being_deleted k.kind moment (left_by o.policy (finalizers existing)) existing in version-at_revision (present h + 1) (metadata_of d) d) (λ k o existing at none low. tt)

pub none_from : (o : Option Data) → is_some o ≡ false → o ≡ None
none_from None h = refl
none_from (Some d) h = absurd (true≢false h)

pub found-state : (h : History) (k : Key) → found k (entries_at h (present h)) ≡ state h (present h) k
found-state h k = found-after_all k [] (up_to (present h) h) tt

pub creates : CreatesAreNew
creates kind ns d h moment =
    of_create (λ o. OfStored o (λ k new. (state h (present h) k ≡ None) × (uid new ≡ Some (uid_text cluster_word (present h + 1))))) (λ f. tt) kind ns (object_in kind d) (entries_at h (present h)) (present h) moment
    (λ o read valid fits free room. (sym (found-state h _) ∙ none_from _ free, uid-created kind (present h + 1) ns (new_name kind ns o (entries_at h (present h)) (present h)).name moment o))

same_at : (b : Bool) (s t : List ℕ) → bytes_eq s t ≡ b → not b ≡ false → t ≡ s
same_at true s t is h = sym ((bytes_eq-Decides s t).0 is)
same_at false s t is h = absurd (true≢false h)

-- a version that is named and does not differ is the stored one
pub same : (s : List ℕ) (existing : Option (List ℕ)) → differs (Some s) existing ≡ false → existing ≡ Some s
same s None h = absurd (true≢false h)
same s (Some t) h = ap (λ u. Some u) (same_at (bytes_eq s t) s t refl h)

pub one_object : (r : Result Data Part) (a b : Data) → r ≡ Ok a → r ≡ Ok b → a ≡ b
one_object r a b is as_well = cc

-- ---- what defaults leave as it is

metadata_of-member : (q : List ℕ) (e d : Data) → bytes_eq (codes "metadata") q ≡ false → metadata_of (with_member q e d) ≡ metadata_of d
metadata_of-member q e null other = refl
metadata_of-member q e (boolean b) other = refl
metadata_of-member q e (number n) other = refl
metadata_of-member q e (string s) other = refl
metadata_of-member q e (array ds) other = refl
metadata_of-member q e (object ms) other = ap inner_of (get_member-put_other (codes "metadata") q e ms (apart (codes "metadata") q other))

metadata_of-found : (change : Data → Data) (o : Option Data) (d : Data) → metadata_of (with_found (codes "spec") change o d) ≡ metadata_of d
metadata_of-found change None d = refl
metadata_of-found change (Some e) d = metadata_of-member (codes "spec") (change e) d refl

pub metadata_of-defaulted : (k : Kind) (d : Data) → metadata_of (defaulted k d) ≡ metadata_of d
metadata_of-defaulted ConfigMap d = refl
metadata_of-defaulted Pod d = refl
metadata_of-defaulted ReplicaSet d = metadata_of-found replica_set_defaults (get (codes "spec") d) d
metadata_of-defaulted Deployment d = metadata_of-found deployment_defaults (get (codes "spec") d) d

pub version-defaulted : (k : Kind) (d : Data) → version (defaulted k d) ≡ version d
version-defaulted k d = ap (text_in (codes "resourceVersion")) (metadata_of-defaulted k d)

pub replaced : NamedVersionsAreReplaced
replaced k d o named h moment read names =
    of_update (λ u. OfStored u (λ written new. (existing : Data) × (written ≡ k) × (state h (present h) k ≡ Some existing) × (version existing ≡ Some named))) (λ f. tt) (λ shown. tt) k (object_in k.kind d) (entries_at h (present h)) (present h)
    (λ p existing is at equal valid fits room.
    let one : p ≡ defaulted k.kind o = one_object (object_in k.kind d) p (defaulted k.kind o) is (ap (with_defaults k.kind) read) in
    let says : version p ≡ Some named = ap version one ∙ version-defaulted k.kind o ∙ names in
    (existing, refl, sym (found-state h k) ∙ at, same named (version existing) (ap (λ v. differs v (version existing)) (sym says) ∙ equal)))
    (λ p existing is at equal free low. tt)

pub refusals : RefusalsWriteNothing
refusals q h moment f is = ap (history_after h) is

pub present-write : (h : History) (w : Write) → present (h ++ write w ∷ []) ≡ present h + 1
present-write h w = ap (λ ws. length ws + 1) (writes-append h (write w ∷ [])) ∙ ap (λ n. n + 1) (length-append (writes h) (w ∷ []))

reads_write : (h : History) (k : Key) (d : Data) → state (h ++ write (record { key = k; put = Some d }) ∷ []) (present (h ++ write (record { key = k; put = Some d }) ∷ [])) k ≡ Some d
reads_write h k d =
    let w : Write = record { key = k; put = Some d } in
    ap (λ r. state (h ++ write w ∷ []) r k) (present-write h w) ∙ set h w k ∙ ap (λ o. cond (is_eq o) (Some d) (state h (present h) k)) (tied_itself name_cmp_total k)

pub reads : AnswersAreRead
reads q h moment =
    of_accept (λ o. OfStored o (λ k d. (outcome_body o ≡ d) × (state (history_after h o) (present (history_after h o)) k ≡ Some d))) (λ f. tt) (λ code body. tt) q h moment
    (λ kind ns d o read valid fits free room. (refl, reads_write h _ _)) (λ k o existing at valid fits low. (refl, reads_write h k _)) (λ k o existing at free low. tt) (λ k o existing at fits low. (refl, reads_write h k _))
    (λ k o existing at low. (refl, reads_write h k _)) (λ k o existing at none low. tt)

abbrev IsFit : Outcome → Type 0
IsFit o = OfStored o (λ k d. length (compact_text d) ≤ 1572864)

pub writes_fit : WritesFit
writes_fit (get_object k) h moment other = there IsFit (λ f. tt) k shown (found k (entries_at h (present h))) (λ d is. tt)
writes_fit (list_objects v) h moment other = tt
writes_fit (create_object kind ns d) h moment other =
    of_create IsFit (λ f. tt) kind ns (object_in kind d) (entries_at h (present h)) (present h) moment (λ o read valid fits free room. at_most 1572864 _ fits)
writes_fit (update_object k d) h moment other =
    of_update IsFit (λ f. tt) (λ d. tt) k (object_in k.kind d) (entries_at h (present h)) (present h) (λ o existing read is same valid fits low. at_most 1572864 _ fits) (λ o existing read is same free low. tt)
writes_fit (update_status k d) h moment other =
    of_status IsFit (λ f. tt) (λ d. tt) k (reading k.kind d) (entries_at h (present h)) (present h) (λ o existing read is same fits low. at_most 1572864 _ fits)
writes_fit (patch_object k d) h moment other =
    of_patch IsFit (λ f. tt) (λ d. tt) k d (entries_at h (present h)) (present h) (λ o existing read is same valid fits low. at_most 1572864 _ fits) (λ o existing read is same free low. tt)
writes_fit (delete_object k o) h moment other = absurd (true≢false other)

-- ---- what a write leaves as it is

pub stays : (o : Option (List ℕ)) → IfSome o (λ t. o ≡ Some t)
stays None = tt
stays (Some t) = refl

-- a status is no metadata
pub metadata_of-status : (s : Option Data) (d : Data) → metadata_of (object (with_status s (members_of d))) ≡ metadata_of d
metadata_of-status None d = ap inner_of (sym (get-members_of (codes "metadata") d))
metadata_of-status (Some s) d =
    ap inner_of (get_member-put_other (codes "metadata") (codes "status") s (members_of d) (apart (codes "metadata") (codes "status") refl) ∙ sym (get-members_of (codes "metadata") d))

pub text-restated : (q : List ℕ) (k : Kind) (r : ℕ) (existing o : Data) → bytes_eq q (codes "resourceVersion") ≡ false
    → KeepsText q existing (at_revision r (metadata_of (with_status_in k existing o)) (with_status_in k existing o))
text-restated q k r existing o other =
    let d = with_status_in k existing o in
    moved (metadata_text q existing) (metadata_text q (at_revision r (metadata_of d) d)) (metadata_text q existing) (text-at_revision q r (metadata_of d) d other ∙ ap (text_in q) (metadata_of-status (status_in k (get (codes "status") o)) existing)) (stays (metadata_text q existing))

-- a mark leaves a text as it is
pub text-with_deletion : (q : List ℕ) (k : Kind) (moment : List ℕ) (existing : Data) (b : Bool) → bytes_eq q (codes "deletionTimestamp") ≡ false → bytes_eq q (codes "generation") ≡ false
    → text_in q (cond b (metadata_of existing) (put (codes "deletionTimestamp") (string moment) (with_next_generation (has_generation k) existing (metadata_of existing)))) ≡ metadata_text q existing
text-with_deletion q k moment existing true other count = refl
text-with_deletion q k moment existing false other count =
    text_in-put_other q (codes "deletionTimestamp") (string moment) (with_next_generation (has_generation k) existing (metadata_of existing)) other
    ∙ text-with_next_generation q (has_generation k) existing (metadata_of existing) count

pub text-marked : (q : List ℕ) (k : Kind) (r : ℕ) (moment : List ℕ) (left : Items) (existing : Data) → bytes_eq q (codes "resourceVersion") ≡ false → bytes_eq q (codes "finalizers") ≡ false
    → bytes_eq q (codes "deletionTimestamp") ≡ false → bytes_eq q (codes "generation") ≡ false
    → KeepsText q existing (at_revision r (metadata_of (being_deleted k moment left existing)) (being_deleted k moment left existing))
text-marked q k r moment left existing a b c e =
    let meta = put (codes "finalizers") (array left) (with_deletion k moment existing) in
    let d = being_deleted k moment left existing in
    moved (metadata_text q existing) (metadata_text q (at_revision r (metadata_of d) d)) (metadata_text q existing)
    (text-at_revision q r (metadata_of d) d a ∙ ap (text_in q) (metadata_of-with meta existing) ∙ text_in-put_other q (codes "finalizers") (array left) (with_deletion k moment existing) b
    ∙ text-with_deletion q k moment existing (is_being_deleted existing) c e)
    (stays (metadata_text q existing))

abbrev KeepsBoth : Data → Data → Type 0
KeepsBoth new existing = KeepsText (codes "uid") existing new × KeepsText (codes "creationTimestamp") existing new

-- what is true of the object that is there, and of none
pub of_held : (P : Data → Type 0) (now : Option Data) (existing : Data) → now ≡ Some existing → P existing → IfSome now P
of_held P now existing is p = subst (λ o. IfSome o P) (sym is) p

pub of_none : (P : Data → Type 0) (now : Option Data) → now ≡ None → IfSome now P
of_none P now is = subst (λ o. IfSome o P) (sym is) tt

pub kept_in_place : (k : Kind) (r : ℕ) (existing o : Data) → KeepsBoth (updated k r existing (in_place k existing o)) existing
kept_in_place k r existing o =
    let d = in_place k existing o in
    let new = updated k r existing d in (
      moved (metadata_text (codes "uid") existing) (metadata_text (codes "uid") new) (metadata_text (codes "uid") d) (text-updated k (codes "uid") r existing d refl refl) (uid-in_place k existing o),
      moved (metadata_text (codes "creationTimestamp") existing) (metadata_text (codes "creationTimestamp") new) (metadata_text (codes "creationTimestamp") d)
          (text-updated k (codes "creationTimestamp") r existing d refl refl) (creation-in_place k existing o),
    )

pub identity : WritesKeepIdentity
identity q h moment =
    let r = present h + 1 in
    of_accept (λ u. OfStored u (λ k new. IfSome (state h (present h) k) (KeepsBoth new))) (λ f. tt) (λ code body. tt) q h moment
    (λ kind ns d o read valid fits free room.
    let k = new_name kind ns o (entries_at h (present h)) (present h) in
    of_none (KeepsBoth (created kind r ns k.name moment o)) (state h (present h) k) (sym (found-state h k) ∙ none_from (found k (entries_at h (present h))) free))
    (λ k o existing at valid fits low. of_held (KeepsBoth (updated k.kind r existing (in_place k.kind existing o))) (state h (present h) k) existing (sym (found-state h k) ∙ at) (kept_in_place k.kind r existing o))
    (λ k o existing at free low. tt)
    (λ k o existing at fits low.
    let d = with_status_in k.kind existing o in
    of_held (KeepsBoth (at_revision r (metadata_of d) d)) (state h (present h) k) existing (sym (found-state h k) ∙ at)
    (text-restated (codes "uid") k.kind r existing o refl, text-restated (codes "creationTimestamp") k.kind r existing o refl))
    (λ k o existing at low.
    let d = being_deleted k.kind moment (left_by o.policy (finalizers existing)) existing in
    of_held (KeepsBoth (at_revision r (metadata_of d) d)) (state h (present h) k) existing (sym (found-state h k) ∙ at)
    (text-marked (codes "uid") k.kind r moment (left_by o.policy (finalizers existing)) existing refl refl refl refl, text-marked (codes "creationTimestamp") k.kind r moment (left_by o.policy (finalizers existing)) existing refl refl refl refl))
    (λ k o existing at none low. tt)

-- who keeps a text that is there has it
pub kept_is : (o new : Option (List ℕ)) (t : List ℕ) → o ≡ Some t → IfSome o (λ s. new ≡ Some s) → new ≡ Some t
kept_is None new t h k = cc
kept_is (Some s) new t h k = k ∙ h
