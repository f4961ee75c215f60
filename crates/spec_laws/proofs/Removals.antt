-- What is removed, and what stays of an object until it is.
use Rattle.std.proofs.Common.{◌≡◌, ◌⊎◌, ◌==◌, arith, suc, ◌+◌, ℕ, List, Bool, true, false, true≢false, cond, not, ◌||◌, codes, bytes_eq, is_some, IfSome, Option, Some, None, inl, inr, refl, sym, ap, ◌∙◌}
use Rattle.std.proofs.lemmas.Bool.{ne_eqb}
use Rattle.std.proofs.lemmas.Slice.Eq.{bytes_eq-Decides}
use Rattle.serde_json.specs.Data.{Data, null, boolean, number, string, array, object, Items, no_items, item, Members, put}
use Rattle.serde_json.specs.Events.{items_len}
use Rattle.serde_json.specs.Find.{get_member}
use Rattle.serde_json.proofs.Views.{get_member-put, get_member-put_other}
use Rattle.spec_api.proofs.Truths.{both_true}
use Rattle.spec_api.specs.declared.kinds.Kind.{Kind}
use Rattle.spec_api.specs.declared.policies.Policy.{Policy}
use Rattle.spec_api.specs.Checks.{finalizers, has_text, text_is, checks, update_fault, adds_no_finalizer, is_selector_kept}
use Rattle.spec_api.specs.DeleteOptions.{Options}
use Rattle.spec_api.specs.Deletion.{left_by, being_deleted, others_then, of_policy, are_of, is_of_policy, with_deletion}
use Rattle.spec_api.specs.History.{History, found, entries_at, present, state}
use Rattle.spec_laws.specs.HistoryLaws.{KeepsText, is_delete}
use Rattle.spec_laws.specs.LifecycleLaws.{OfReplaced, OfRemoved, all_of_policy, DeletesSpareFinalizers, LastFinalizersRemove, WritesKeepDeletions, NoFinalizerIsAdded}
use Rattle.spec_api.specs.Metadata.{metadata, metadata_of, metadata_text, at_revision, is_being_deleted}
use Rattle.spec_api.specs.Keys.{Key}
use Rattle.spec_api.specs.NewObjects.{created}
use Rattle.spec_api.specs.Reading.{reading}
use Rattle.spec_api.specs.Replacements.{in_place, is_finalized, is_new_generation, updated, with_next_generation, with_status_in, next_generation, generation}
use Rattle.spec_api.specs.Defaults.{unsigned_value}
use Rattle.spec_api.specs.SelectorValues.{all_items, items_in}
use Rattle.spec_api.specs.Verbs.{Outcome, shown, outcome_body, object_in, new_name}
use Rattle.spec_api.specs.ObjectRequests.{Request, get_object, list_objects, create_object, update_object, update_status, patch_object, delete_object}
use Rattle.spec_laws.proofs.Cases.{of_accept, of_create, of_delete, of_patch, of_status, of_update}
use Rattle.spec_laws.proofs.CheckLaws.{all_met}
use Rattle.spec_laws.proofs.Guards.{there}
use Rattle.spec_laws.proofs.SetMetadata.{moved, text-at_revision, text-updated, deletion-in_place}
use Rattle.spec_api.proofs.JsonMembers.{apart, text_in, text_in-put_other, metadata_of-with}
use Rattle.spec_laws.proofs.VerbLaws.{found-state, none_from, of_held, of_none, text-restated, metadata_of-status}

-- ---- what a delete leaves

empty_items : (ds : Items) → (items_len ds == 0) ≡ true → ds ≡ no_items
empty_items no_items h = refl
empty_items (item d ds) h = absurd (true≢false (sym h ∙ ne_eqb (suc (items_len ds)) 0 (λ e. absurd (omega arith))))

others_cond : (b : Bool) (last : Items) (d : Data) (ds : Items) → (items_len (cond b (others_then last ds) (item d (others_then last ds))) == 0) ≡ true
    → ((items_len (others_then last ds) == 0) ≡ true → all_of_policy ds ≡ true) → cond b (all_of_policy ds) false ≡ true
others_cond true last d ds h later = later h
others_cond false last d ds h later = absurd (true≢false (sym h ∙ ne_eqb (suc (items_len (others_then last ds))) 0 (λ e. absurd (omega arith))))

none_others : (last ds : Items) → (items_len (others_then last ds) == 0) ≡ true → all_of_policy ds ≡ true
none_others last no_items h = refl
none_others last (item d ds) h = others_cond (is_of_policy d) last d ds h (none_others last ds)

none_cond : (b : Bool) (last ds : Items) → (items_len (cond b ds (others_then last ds)) == 0) ≡ true → all_of_policy ds ≡ true
none_cond true last ds h = ap all_of_policy (empty_items ds h)
none_cond false last ds h = none_others last ds h

-- where nothing is left, nothing was there but what stands for a policy
none_left : (p : Option Policy) (ds : Items) → (items_len (left_by p ds) == 0) ≡ true → (all_of_policy ds ≡ true) × (p ≡ None → ds ≡ no_items)
none_left None ds h = (ap all_of_policy (empty_items ds h), λ is. empty_items ds h)
none_left (Some p) ds h = (none_cond (are_of p ds) (of_policy p) ds h, λ is. cc)

pub spared : DeletesSpareFinalizers
spared k o h moment =
    of_delete (λ u. OfRemoved h u (λ gone existing. (gone ≡ k) × (all_of_policy (finalizers existing) ≡ true) × (o.policy ≡ None → finalizers existing ≡ no_items))) (λ f. tt) (λ code body. tt) k o
    (entries_at h (present h)) (present h) moment (λ existing at same same_version low. tt)
    (λ existing at same same_version none low. let left = none_left o.policy (finalizers existing) none in (existing, sym (found-state h k) ∙ at, (refl, left.0, left.1)))

-- ---- what another request removes

not_there : (o : Option Data) → not (is_some o) ≡ true → o ≡ None
not_there None h = refl
not_there (Some d) h = cc

abbrev TakesTheLast : History → Outcome → Type 0
TakesTheLast h o = OfRemoved h o (λ k existing. (is_being_deleted existing ≡ true) × (metadata (codes "finalizers") (outcome_body o) ≡ None))

let_go_of : (h : History) (k : Key) (existing new : Data) → found k (entries_at h (present h)) ≡ Some existing → is_finalized existing new ≡ true
    → (was : Data) × (state h (present h) k ≡ Some was) × ((is_being_deleted was ≡ true) × (metadata (codes "finalizers") new ≡ None))
let_go_of h k existing new at free =
    let parts = both_true (is_being_deleted existing) (not (is_some (metadata (codes "finalizers") new))) free in
    (existing, sym (found-state h k) ∙ at, (parts.0, not_there (metadata (codes "finalizers") new) parts.1))

pub last_removes : LastFinalizersRemove
last_removes (get_object k) h moment other = there (TakesTheLast h) (λ f. tt) k shown (found k (entries_at h (present h))) (λ d is. tt)
last_removes (list_objects v) h moment other = tt
last_removes (create_object kind ns d) h moment other =
    of_create (TakesTheLast h) (λ f. tt) kind ns (object_in kind d) (entries_at h (present h)) (present h) moment (λ o read valid fits free room. tt)
last_removes (update_object k d) h moment other =
    of_update (TakesTheLast h) (λ f. tt) (λ d. tt) k (object_in k.kind d) (entries_at h (present h)) (present h) (λ o existing read at equal valid fits low. tt)
    (λ o existing read at equal free low. let_go_of h k existing (updated k.kind (present h + 1) existing (in_place k.kind existing o)) at free)
last_removes (update_status k d) h moment other =
    of_status (TakesTheLast h) (λ f. tt) (λ d. tt) k (reading k.kind d) (entries_at h (present h)) (present h) (λ o existing read at equal fits low. tt)
last_removes (patch_object k d) h moment other =
    of_patch (TakesTheLast h) (λ f. tt) (λ d. tt) k d (entries_at h (present h)) (present h) (λ o existing read at equal valid fits low. tt)
    (λ o existing read at equal free low. let_go_of h k existing (updated k.kind (present h + 1) existing (in_place k.kind existing o)) at free)
last_removes (delete_object k o) h moment other = absurd (true≢false other)

-- ---- since when an object is being deleted

abbrev since : List ℕ
since = codes "deletionTimestamp"

since_cond : (o : Option (List ℕ)) (ms other : Members) → text_in since ms ≡ o → IfSome o (λ t. text_in since (cond (is_some o) ms other) ≡ Some t)
since_cond None ms other is = tt
since_cond (Some t) ms other is = is

since_marked : (k : Kind) (r : ℕ) (moment : List ℕ) (left : Items) (existing : Data) → KeepsText since existing (at_revision r (metadata_of (being_deleted k moment left existing)) (being_deleted k moment left existing))
since_marked k r moment left existing =
    let meta = put (codes "finalizers") (array left) (with_deletion k moment existing) in
    let d = being_deleted k moment left existing in
    moved (metadata_text since existing) (metadata_text since (at_revision r (metadata_of d) d)) (text_in since (with_deletion k moment existing))
    (text-at_revision since r (metadata_of d) d refl ∙ ap (text_in since) (metadata_of-with meta existing) ∙ text_in-put_other since (codes "finalizers") (array left) (with_deletion k moment existing) refl)
    (since_cond (metadata_text since existing) (metadata_of existing) _ refl)

since_in_place : (k : Kind) (r : ℕ) (existing o : Data) → KeepsText since existing (updated k r existing (in_place k existing o))
since_in_place k r existing o =
    let d = in_place k existing o in
    moved (metadata_text since existing) (metadata_text since (updated k r existing d)) (metadata_text since d) (text-updated k since r existing d refl refl) (deletion-in_place k existing o)

pub stand : WritesKeepDeletions
stand q h moment =
    let r = present h + 1 in
    of_accept (λ u. OfReplaced h u (λ k existing new. KeepsText since existing new)) (λ f. tt) (λ code body. tt) q h moment
    (λ kind ns d o read valid fits free room.
    let k = new_name kind ns o (entries_at h (present h)) (present h) in
    of_none (λ existing. KeepsText since existing (created kind r ns k.name moment o)) (state h (present h) k) (sym (found-state h k) ∙ none_from (found k (entries_at h (present h))) free))
    (λ k o existing at valid fits low.
    of_held (λ was. KeepsText since was (updated k.kind r existing (in_place k.kind existing o))) (state h (present h) k) existing (sym (found-state h k) ∙ at) (since_in_place k.kind r existing o))
    (λ k o existing at free low. tt)
    (λ k o existing at fits low.
    let d = with_status_in k.kind existing o in
    of_held (λ was. KeepsText since was (at_revision r (metadata_of d) d)) (state h (present h) k) existing (sym (found-state h k) ∙ at) (text-restated since k.kind r existing o refl))
    (λ k o existing at low.
    let d = being_deleted k.kind moment (left_by o.policy (finalizers existing)) existing in
    of_held (λ was. KeepsText since was (at_revision r (metadata_of d) d)) (state h (present h) k) existing (sym (found-state h k) ∙ at)
    (since_marked k.kind r moment (left_by o.policy (finalizers existing)) existing))
    (λ k o existing at none low. tt)

-- ---- finalizers that are added

pub member-at_revision : (q : List ℕ) (r : ℕ) (meta : Members) (d : Data) → bytes_eq q (codes "resourceVersion") ≡ false → metadata q (at_revision r meta d) ≡ get_member q meta
member-at_revision q r meta d other =
    ap (get_member q) (metadata_of-with (put (codes "resourceVersion") _ meta) d) ∙ get_member-put_other q (codes "resourceVersion") _ meta (apart q (codes "resourceVersion") other)

pub member-with_next_generation : (q : List ℕ) (is_new : Bool) (existing : Data) (meta : Members) → bytes_eq q (codes "generation") ≡ false
    → get_member q (with_next_generation is_new existing meta) ≡ get_member q meta
member-with_next_generation q true existing meta other = get_member-put_other q (codes "generation") (unsigned_value (next_generation (generation existing))) meta (apart q (codes "generation") other)
member-with_next_generation q false existing meta other = refl

pub member-updated : (q : List ℕ) (k : Kind) (r : ℕ) (existing d : Data) → bytes_eq q (codes "resourceVersion") ≡ false → bytes_eq q (codes "generation") ≡ false → metadata q (updated k r existing d) ≡ metadata q d
member-updated q k r existing d a b =
    member-at_revision q r (with_next_generation (is_new_generation k existing d) existing (metadata_of d)) d a ∙ member-with_next_generation q (is_new_generation k existing d) existing (metadata_of d) b

text_held : (fs : Items) (t : List ℕ) (d : Data) → text_is (has_text fs) d ≡ true → text_is (bytes_eq t) d ≡ true → has_text fs t ≡ true
text_held fs t null a b = cc
text_held fs t (boolean c) a b = cc
text_held fs t (number n) a b = cc
text_held fs t (string s) a b = ap (has_text fs) ((bytes_eq-Decides t s).0 b) ∙ a
text_held fs t (array ds) a b = cc
text_held fs t (object ms) a b = cc

held_cond : (b : Bool) (fs ds : Items) (t : List ℕ) (d : Data) → text_is (bytes_eq t) d ≡ b → text_is (has_text fs) d ≡ true → (b || has_text ds t) ≡ true → (has_text ds t ≡ true → has_text fs t ≡ true)
    → has_text fs t ≡ true
held_cond true fs ds t d is a h later = text_held fs t d a is
held_cond false fs ds t d is a h later = later h

-- where each of these is in a list, one of them is in it
held_text_of : (ds fs : Items) (t : List ℕ) → all_items (text_is (has_text fs)) ds ≡ true → has_text ds t ≡ true → has_text fs t ≡ true
held_text_of no_items fs t all h = cc
held_text_of (item d ds) fs t all h =
    let both = both_true (text_is (has_text fs) d) (all_items (text_is (has_text fs)) ds) all in
    held_cond (text_is (bytes_eq t) d) fs ds t d refl both.0 h (held_text_of ds fs t both.1)

held_or : (b c : Bool) → b ≡ true → (not b || c) ≡ true → c ≡ true
held_or true c is h = h
held_or false c is h = cc

adds_none : (k : Kind) (name : List ℕ) (present : ℕ) (existing d : Data) → update_fault k name present existing d ≡ None → is_being_deleted existing ≡ true
    → all_items (text_is (has_text (finalizers existing))) (finalizers d) ≡ true
adds_none k name present existing d valid deleted =
    let met = all_met (checks k name present (adds_no_finalizer existing d) (is_selector_kept existing d) d) valid in
    held_or (is_being_deleted existing) _ deleted (both_true _ (adds_no_finalizer existing d) met.1.1.1.0).1

abbrev AddsNone : Data → Data → Type 0
AddsNone existing new = (t : List ℕ) → is_being_deleted existing ≡ true → has_text (finalizers new) t ≡ true → has_text (finalizers existing) t ≡ true

update_adds : (k : Key) (r : ℕ) (existing d : Data) → update_fault k.kind k.name r existing d ≡ None → AddsNone existing (updated k.kind (r + 1) existing d)
update_adds k r existing d valid t deleted h =
    held_text_of (finalizers d) (finalizers existing) t (adds_none k.kind k.name r existing d valid deleted)
    (sym (ap (λ o. has_text (items_in o) t) (member-updated (codes "finalizers") k.kind (r + 1) existing d refl refl)) ∙ h)

pub member-restated : (q : List ℕ) (k : Kind) (r : ℕ) (existing o : Data) → bytes_eq q (codes "resourceVersion") ≡ false
    → metadata q (at_revision r (metadata_of (with_status_in k existing o)) (with_status_in k existing o)) ≡ metadata q existing
member-restated q k r existing o other =
    let d = with_status_in k existing o in
    member-at_revision q r (metadata_of d) d other ∙ ap (get_member q) (metadata_of-status _ existing)

others_has : (last ds : Items) (t : List ℕ) → has_text (others_then last ds) t ≡ true → (has_text last t ≡ true) ⊎ (has_text ds t ≡ true)
others_has last no_items t h = inl h
others_has last (item d ds) t h = has_cond (is_of_policy d) h (others_has last ds t)
  where
    more : (c : Bool) → (has_text last t ≡ true) ⊎ (has_text ds t ≡ true) → (has_text last t ≡ true) ⊎ ((c || has_text ds t) ≡ true)
    more true (inl a) = inl a
    more false (inl a) = inl a
    more true (inr a) = inr refl
    more false (inr a) = inr a

    here : (c : Bool) → (c || has_text (others_then last ds) t) ≡ true → (has_text (others_then last ds) t ≡ true → (has_text last t ≡ true) ⊎ (has_text ds t ≡ true))
        → (has_text last t ≡ true) ⊎ ((c || has_text ds t) ≡ true)
    here true h later = inr refl
    here false h later = later h

    has_cond : (b : Bool) → has_text (cond b (others_then last ds) (item d (others_then last ds))) t ≡ true
        → (has_text (others_then last ds) t ≡ true → (has_text last t ≡ true) ⊎ (has_text ds t ≡ true)) → (has_text last t ≡ true) ⊎ ((text_is (bytes_eq t) d || has_text ds t) ≡ true)
    has_cond true h later = more (text_is (bytes_eq t) d) (later h)
    has_cond false h later = here (text_is (bytes_eq t) d) h later

left_cond : (b : Bool) (last ds : Items) (t : List ℕ) → has_text (cond b ds (others_then last ds)) t ≡ true → (has_text last t ≡ true) ⊎ (has_text ds t ≡ true)
left_cond true last ds t h = inr h
left_cond false last ds t h = others_has last ds t h

left_has : (p : Option Policy) (ds : Items) (t : List ℕ) → has_text (left_by p ds) t ≡ true → ((policy : Policy) × (has_text (of_policy policy) t ≡ true)) ⊎ (has_text ds t ≡ true)
left_has None ds t h = inr h
left_has (Some p) ds t h = named (left_cond (are_of p ds) (of_policy p) ds t h)
  where
    named : (has_text (of_policy p) t ≡ true) ⊎ (has_text ds t ≡ true) → ((policy : Policy) × (has_text (of_policy policy) t ≡ true)) ⊎ (has_text ds t ≡ true)
    named (inl a) = inl (p, a)
    named (inr a) = inr a

pub finalizers-marked : (k : Kind) (r : ℕ) (moment : List ℕ) (left : Items) (existing : Data) → finalizers (at_revision r (metadata_of (being_deleted k moment left existing)) (being_deleted k moment left existing)) ≡ left
finalizers-marked k r moment left existing =
    let d = being_deleted k moment left existing in
    let meta = put (codes "finalizers") (array left) (with_deletion k moment existing) in
    ap items_in (member-at_revision (codes "finalizers") r (metadata_of d) d refl ∙ ap (get_member (codes "finalizers")) (metadata_of-with meta existing) ∙ get_member-put (codes "finalizers") (array left) (with_deletion k moment existing))

abbrev Added : Request → Data → Data → Type 0
Added q existing new =
    (t : List ℕ) → is_being_deleted existing ≡ true → has_text (finalizers new) t ≡ true → ((is_delete q ≡ true) × (policy : Policy) × (has_text (of_policy policy) t ≡ true)) ⊎ (has_text (finalizers existing) t ≡ true)

abbrev AddedBy : Request → History → Outcome → Type 0
AddedBy q h o = OfReplaced h o (λ k existing new. Added q existing new)

added_none : (q : Request) (existing new : Data) → AddsNone existing new → Added q existing new
added_none q existing new none t deleted h = inr (none t deleted h)

added_marked : (k l : Key) (o : Options) (r : ℕ) (moment : List ℕ) (existing : Data)
    → Added (delete_object k o) existing (at_revision r (metadata_of (being_deleted l.kind moment (left_by o.policy (finalizers existing)) existing)) (being_deleted l.kind moment (left_by o.policy (finalizers existing)) existing))
added_marked k l o r moment existing t deleted h =
    by_policy (left_has o.policy (finalizers existing) t (sym (ap (λ fs. has_text fs t) (finalizers-marked l.kind r moment (left_by o.policy (finalizers existing)) existing)) ∙ h))
  where
    by_policy : ((policy : Policy) × (has_text (of_policy policy) t ≡ true)) ⊎ (has_text (finalizers existing) t ≡ true)
        → ((is_delete (delete_object k o) ≡ true) × (policy : Policy) × (has_text (of_policy policy) t ≡ true)) ⊎ (has_text (finalizers existing) t ≡ true)
    by_policy (inl a) = inl (refl, a.0, a.1)
    by_policy (inr a) = inr a

pub at_held : (h : History) (k : Key) (existing : Data) (P : Data → Type 0) → found k (entries_at h (present h)) ≡ Some existing → P existing → IfSome (state h (present h) k) P
at_held h k existing P at p = of_held P (state h (present h) k) existing (sym (found-state h k) ∙ at) p

pub adds_no_other : NoFinalizerIsAdded
adds_no_other (get_object k) h moment = there (AddedBy (get_object k) h) (λ f. tt) k shown (found k (entries_at h (present h))) (λ d is. tt)
adds_no_other (list_objects v) h moment = tt
adds_no_other (create_object kind ns d) h moment =
    of_create (AddedBy (create_object kind ns d) h) (λ f. tt) kind ns (object_in kind d) (entries_at h (present h)) (present h) moment
    (λ o read valid fits free room.
    let k = new_name kind ns o (entries_at h (present h)) (present h) in
    of_none (λ existing. Added (create_object kind ns d) existing (created kind (present h + 1) ns k.name moment o)) (state h (present h) k) (sym (found-state h k) ∙ none_from (found k (entries_at h (present h))) free))
adds_no_other (update_object k d) h moment =
    of_update (AddedBy (update_object k d) h) (λ f. tt) (λ d. tt) k (object_in k.kind d) (entries_at h (present h)) (present h)
    (λ o existing read at equal valid fits low.
    let new = updated k.kind (present h + 1) existing (in_place k.kind existing o) in
    at_held h k existing (λ was. Added (update_object k d) was new) at (added_none (update_object k d) existing new (update_adds k (present h) existing (in_place k.kind existing o) valid)))
    (λ o existing read at equal free low. tt)
adds_no_other (update_status k d) h moment =
    of_status (AddedBy (update_status k d) h) (λ f. tt) (λ d. tt) k (reading k.kind d) (entries_at h (present h)) (present h)
    (λ o existing read at equal fits low.
    let made = with_status_in k.kind existing o in
    let new = at_revision (present h + 1) (metadata_of made) made in
    at_held h k existing (λ was. Added (update_status k d) was new) at
    (added_none (update_status k d) existing new
    (λ t deleted has. sym (ap (λ m. has_text (items_in m) t) (member-restated (codes "finalizers") k.kind (present h + 1) existing o refl)) ∙ has)))
adds_no_other (patch_object k d) h moment =
    of_patch (AddedBy (patch_object k d) h) (λ f. tt) (λ d. tt) k d (entries_at h (present h)) (present h)
    (λ o existing read at equal valid fits low.
    let new = updated k.kind (present h + 1) existing (in_place k.kind existing o) in
    at_held h k existing (λ was. Added (patch_object k d) was new) at (added_none (patch_object k d) existing new (update_adds k (present h) existing (in_place k.kind existing o) valid)))
    (λ o existing read at equal free low. tt)
adds_no_other (delete_object k o) h moment =
    of_delete (AddedBy (delete_object k o) h) (λ f. tt) (λ code body. tt) k o (entries_at h (present h)) (present h) moment
    (λ existing at same same_version low.
    let d = being_deleted k.kind moment (left_by o.policy (finalizers existing)) existing in
    at_held h k existing (λ was. Added (delete_object k o) was (at_revision (present h + 1) (metadata_of d) d)) at (added_marked k k o (present h + 1) moment existing))
    (λ existing at same same_version none low. tt)
