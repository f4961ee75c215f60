-- Each reference of an object names one that was created before it, or none of this server.
use Rattle.std.proofs.Common.{◌-◌, ◌++◌, length-append, ◌≡◌, ◌≤◌, ◌<◌, ℕ, ◌+◌, ◌^◌, List, [], ◌∷◌, Bool, true, false, cond, not, ◌&&◌, Option, Some, None, IfSome, codes, bytes_eq, nat_lt, nat_le, length, arith, refl, sym, ap, subst, ◌∙◌}
use Rattle.std.specs.Prelude.{option_and_then, unwrap_or}
use Rattle.std.specs.List.{list_all}
use Rattle.std.proofs.lemmas.Bool.{le-ltb, ltb-false}
use Rattle.serde_json.specs.Data.{Data, Items, no_items, put, string, array}
use Rattle.serde_json.specs.Find.{as_array, get_member}
use Rattle.serde_json.proofs.Views.{get_member-put_other}
use Rattle.spec_api.proofs.Truths.{left_true, right_true}
use Rattle.spec_api.specs.declared.kinds.Kind.{Kind}
use Rattle.spec_api.specs.Checks.{finalizers, generate_name, is_owner, is_of_the_future, is_possible_uid, is_not_empty, are_owners_valid, controllers, checks, update_fault, adds_no_finalizer, is_selector_kept}
use Rattle.spec_api.specs.Deletion.{left_by, being_deleted, with_deletion}
use Rattle.spec_api.specs.GeneratedNames.{name_from}
use Rattle.spec_api.specs.History.{History, found, entries_at, present, state, Write, write, writes}
use Rattle.spec_api.specs.Kinds.{has_generation}
use Rattle.spec_laws.specs.HistoryLaws.{OfStored}
use Rattle.spec_api.specs.Metadata.{Owner, owners, owners_in, metadata, metadata_of, name, at_revision, is_being_deleted}
use Rattle.spec_api.specs.Keys.{Key, is_same_key}
use Rattle.spec_api.specs.NewObjects.{created, with_first_status}
use Rattle.spec_api.specs.Reading.{reading}
use Rattle.spec_api.specs.Replacements.{in_place, updated, with_status_in, with_next_generation}
use Rattle.spec_api.specs.SelectorValues.{is_some_and}
use Rattle.spec_api.specs.Uids.{uid_text, uid_revision, cluster_word}
use Rattle.spec_api.specs.Verbs.{Outcome, accept, shown, object_in, new_name, is_free, with_write, write_of}
use Rattle.spec_api.specs.ObjectRequests.{Request, get_object, list_objects, create_object, update_object, update_status, patch_object, delete_object}
use Rattle.spec_laws.proofs.Cases.{of_create, of_delete, of_patch, of_status, of_update}
use Rattle.spec_laws.proofs.CheckLaws.{all_met, stored_pass}
use Rattle.spec_laws.proofs.Guards.{there as if_there}
use Rattle.spec_api.proofs.FirstStatus.{metadata_of-first}
use Rattle.spec_api.proofs.JsonMembers.{apart, metadata_of-with}
use Rattle.spec_laws.proofs.Removals.{member-at_revision, member-with_next_generation, member-updated, member-restated}
use Rattle.spec_laws.proofs.VerbLaws.{found-state}
use Rattle.spec_laws.proofs.Compacted.{same_writes}
use Rattle.spec_laws.proofs.Past.{writes-append}
use Rattle.std.proofs.lemmas.Bool.{leb-true, leb-false}
use Rattle.spec_laws.specs.IdentityLaws.{Each, IsKnown, OwnersAreKnown}
use Rattle.spec_laws.proofs.Reaching.{by_reached}
use Rattle.spec_laws.proofs.Traced.{there, now, there_before, there_after}
use Rattle.spec_laws.proofs.Versions.{Among, put_by}

abbrev pub Known : ℕ → Data → Type 0
Known n d = Each (IsKnown n) (owners d)

abbrev pub AllKnown : List Write → Type 0
AllKnown ws = (r : ℕ) (k : Key) (d : Data) → r ≤ now ws → there ws r k ≡ Some d → Known (r - 1) d

abbrev KnownNow : History → Type 0
KnownNow h = (k : Key) (d : Data) → state h (present h) k ≡ Some d → Known (present h) d

-- ---- later

later_three : (a b : Bool) (p q r : ℕ) → p ≤ q → (a && b && nat_lt p r) ≡ false → (a && b && nat_lt q r) ≡ false
later_three true true p q r le h = let old : r ≤ p = ltb-false p r h in le-ltb q r (omega (arith, le, old))
later_three true false p q r le h = refl
later_three false b p q r le h = refl

known_later : (p q : ℕ) (u : Option (List ℕ)) → p ≤ q → IfSome u (λ t. is_of_the_future p t ≡ false) → IfSome u (λ t. is_of_the_future q t ≡ false)
known_later p q None le h = tt
known_later p q (Some t) le h = later_three (bytes_eq t (uid_text cluster_word (uid_revision t))) (nat_lt (uid_revision t) (2 ^ 62)) p q (uid_revision t) le h

all_later : (p q : ℕ) (os : List Owner) → p ≤ q → Each (IsKnown p) os → Each (IsKnown q) os
all_later p q [] le h = tt
all_later p q (o ∷ os) le h = (known_later p q o.uid le h.0, all_later p q os le h.1)

-- ---- from the checks

fourth : (a b c d : Bool) → (a && b && c && d) ≡ true → d ≡ true
fourth true true true d h = h
fourth true true false d h = cc
fourth true false c d h = cc
fourth false b c d h = cc

not_is : (b : Bool) → not b ≡ true → b ≡ false
not_is true h = cc
not_is false h = refl

known_uid : (n : ℕ) (u : Option (List ℕ)) → is_some_and (is_possible_uid n) u ≡ true → IfSome u (λ t. is_of_the_future n t ≡ false)
known_uid n None h = tt
known_uid n (Some t) h = not_is (is_of_the_future n t) (right_true (is_not_empty t) (not (is_of_the_future n t)) h)

known_owners : (n : ℕ) (os : List Owner) → list_all (is_owner n) os ≡ true → Each (IsKnown n) os
known_owners n [] h = tt
known_owners n (o ∷ os) h = (
  known_uid n o.uid (fourth (is_some_and is_not_empty o.api_version) (is_some_and is_not_empty o.kind) (is_some_and is_not_empty o.name) (is_some_and (is_possible_uid n) o.uid) (left_true (is_owner n o) (list_all (is_owner n) os) h)),
  known_owners n os (right_true (is_owner n o) (list_all (is_owner n) os) h),
)

valid_known : (n : ℕ) (d : Data) → are_owners_valid n d ≡ true → Known n d
valid_known n d h = known_owners n (owners d) (left_true (list_all (is_owner n) (owners d)) (nat_le (controllers (owners d)) 1) h)

-- ---- each verb

abbrev references : List ℕ
references = codes "ownerReferences"

abbrev owners_from : Option Data → List Owner
owners_from o = owners_in (unwrap_or (option_and_then as_array o) no_items)

same_known : (n : ℕ) (d was : Data) → metadata references d ≡ metadata references was → Known n was → Known n d
same_known n d was is h = subst (Each (IsKnown n)) (ap owners_from (sym is)) h

deletion_keeps : (b : Bool) (k : Kind) (moment : List ℕ) (existing : Data)
    → get_member references (cond b (metadata_of existing) (put (codes "deletionTimestamp") (string moment) (with_next_generation (has_generation k) existing (metadata_of existing)))) ≡ metadata references existing
deletion_keeps true k moment existing = refl
deletion_keeps false k moment existing =
    get_member-put_other references (codes "deletionTimestamp") (string moment) (with_next_generation (has_generation k) existing (metadata_of existing)) (apart references (codes "deletionTimestamp") refl)
    ∙ member-with_next_generation references (has_generation k) existing (metadata_of existing) refl

marked_keeps : (k : Kind) (r : ℕ) (moment : List ℕ) (left : Items) (existing : Data)
    → metadata references (at_revision r (metadata_of (being_deleted k moment left existing)) (being_deleted k moment left existing)) ≡ metadata references existing
marked_keeps k r moment left existing =
    let d = being_deleted k moment left existing in
    let meta = put (codes "finalizers") (array left) (with_deletion k moment existing) in
    member-at_revision references r (metadata_of d) d refl ∙ ap (get_member references) (metadata_of-with meta existing)
    ∙ get_member-put_other references (codes "finalizers") (array left) (with_deletion k moment existing) (apart references (codes "finalizers") refl)
    ∙ deletion_keeps (is_being_deleted existing) k moment existing

name_is : (f : List ℕ → Bool) (x given : Option (List ℕ)) (r : ℕ) → IfSome x (λ n. n ≡ name_from f x given r)
name_is f None given r = tt
name_is f (Some n) given r = refl

update_known : (k : Key) (r : ℕ) (existing o : Data) → update_fault k.kind k.name r existing (in_place k.kind existing o) ≡ None → Known r (updated k.kind (r + 1) existing (in_place k.kind existing o))
update_known k r existing o valid =
    let d = in_place k.kind existing o in
    let met = all_met (checks k.kind k.name r (adds_no_finalizer existing d) (is_selector_kept existing d) d) valid in
    same_known r (updated k.kind (r + 1) existing d) d (member-updated references k.kind (r + 1) existing d refl refl) (valid_known r d met.1.1.1.1.0)

module _ (h : History) (moment : List ℕ) (all : KnownNow h) where
  abbrev P : Outcome → Type 0
  P o = OfStored o (λ k d. Known (present h) d)

  known_by : (q : Request) → P (accept q h moment)
  known_by (get_object k) = if_there P (λ f. tt) k shown (found k (entries_at h (present h))) (λ d is. tt)
  known_by (list_objects v) = tt
  known_by (create_object kind ns d) =
      let ms = entries_at h (present h) in
      let r = present h in
      of_create P (λ f. tt) kind ns (object_in kind d) ms r moment
      (λ o read valid fits free room.
      let k = new_name kind ns o ms r in
      let made = created kind (r + 1) ns k.name moment o in
      let passed = stored_pass kind k.name r r (r + 1) ns moment o (omega arith) (name_is (is_free kind ns ms) (name o) (generate_name o) (r + 1)) valid in
      let first = with_first_status kind made in
      same_known r made first (ap (get_member references) (sym (metadata_of-first kind made)))
      (valid_known r first (all_met (checks kind k.name r true true first) passed).1.1.1.1.0))
  known_by (update_object k d) =
      of_update P (λ f. tt) (λ d. tt) k (object_in k.kind d) (entries_at h (present h)) (present h) (λ o existing read at equal valid fits low. update_known k (present h) existing o valid) (λ o existing read at equal free low. tt)
  known_by (update_status k d) =
      of_status P (λ f. tt) (λ d. tt) k (reading k.kind d) (entries_at h (present h)) (present h)
      (λ o existing read at equal fits low.
      let made = with_status_in k.kind existing o in
      same_known (present h) (at_revision (present h + 1) (metadata_of made) made) existing (member-restated references k.kind (present h + 1) existing o refl) (all k existing (sym (found-state h k) ∙ at)))
  known_by (patch_object k d) =
      of_patch P (λ f. tt) (λ d. tt) k d (entries_at h (present h)) (present h) (λ o existing read at equal valid fits low. update_known k (present h) existing o valid) (λ o existing read at equal free low. tt)
  known_by (delete_object k o) =
      of_delete P (λ f. tt) (λ code body. tt) k o (entries_at h (present h)) (present h) moment
      (λ existing at same_uid equal low.
      let left = left_by o.policy (finalizers existing) in
      same_known (present h) (at_revision (present h + 1) (metadata_of (being_deleted k.kind moment left existing)) (being_deleted k.kind moment left existing)) existing (marked_keeps k.kind (present h + 1) moment left existing)
      (all k existing (sym (found-state h k) ∙ at)))
      (λ existing at same_uid equal none low. tt)

-- ---- each write

known_put : (n : ℕ) (put : Option Data) (d : Data) → put ≡ Some d → IfSome put (Known n) → Known n d
known_put n put d is c = subst (λ o. IfSome o (Known n)) is c

known_write : (ws : List Write) (w : Write) → AllKnown ws → IfSome w.put (Known (now ws)) → AllKnown (ws ++ w ∷ [])
known_write ws w all c r k d le at = by (nat_le r (now ws)) refl
  where
    known_at : (b : Bool) → r ≡ now ws + 1 → cond b w.put (there ws (now ws) k) ≡ Some d → Known (r - 1) d
    known_at true is put = all_later (now ws) (r - 1) (owners d) (omega (arith, is)) (known_put (now ws) w.put d put c)
    known_at false is was = all_later (now ws - 1) (r - 1) (owners d) (omega (arith, is)) (all (now ws) k d (omega arith) was)

    by : (b : Bool) → nat_le r (now ws) ≡ b → Known (r - 1) d
    by true t = let low : r ≤ now ws = leb-true r (now ws) t in all r k d low (sym (there_before ws w r k low) ∙ at)
    by false t =
        let far : now ws < r = leb-false r (now ws) t in
        let long : length (ws ++ w ∷ []) ≡ length ws + 1 = length-append ws (w ∷ []) in
        let is : r ≡ now ws + 1 = omega (arith, far, le, long) in
        known_at (is_same_key k w.key) is (sym (there_after ws w r k is) ∙ at)

known_outcome : (h : History) (o : Option Write) → IfSome o (λ w. IfSome w.put (Known (present h))) → AllKnown (writes h) → AllKnown (writes (with_write h o))
known_outcome h None c all = all
known_outcome h (Some w) c all = subst AllKnown (sym (writes-append h (write w ∷ []))) (known_write (writes h) w all c)

none_known : AllKnown []
none_known r k d le at = absurd (none (put_by k (r - 1) [] d at))
  where
    none : Among (r - 1) [] k d → ⊥
    none m = gone m.2
      where
        gone : {w : Write} → None ≡ Some w → ⊥
        gone is = cc

pub known : OwnersAreKnown
known h r k d reached le at =
    by_reached (λ h. AllKnown (writes h)) (λ q h moment a t all. known_outcome h (write_of (accept q h moment)) (known_by h moment (λ k d is. all_later (present h - 1) (present h) (owners d) (omega arith) (all (present h) k d (omega arith) is)) q) all)
    (same_writes AllKnown) h reached none_known r k d le at
