-- What is stored names one controller at most, and what is no update or patch leaves the references of what it replaces.
use Rattle.std.proofs.Common.{◌≡◌, ◌≤◌, ◌+◌, ℕ, suc, List, [], ◌∷◌, map, filter, ◌||◌, ◌&&◌, Bool, true, false, cond, codes, Option, Some, None, nat_le, refl, sym, ap, ◌∙◌, subst, arith}
use Rattle.std.proofs.lemmas.Bool.{leb-true}
use Rattle.std.specs.List.{filter_map, cons_option, list_any}
use Rattle.std.specs.Option.{option_and_then, unwrap_or}
use Rattle.serde_json.specs.Data.{Data, no_items}
use Rattle.serde_json.specs.Find.{get_member, as_array, as_str}
use Rattle.spec_api.proofs.FirstStatus.{metadata_of-first}
use Rattle.spec_api.proofs.Truths.{right_true}
use Rattle.spec_api.specs.declared.kinds.Kind.TheVariants.{ReplicaSet}
use Rattle.spec_api.specs.Checks as checks
use Rattle.spec_api.specs.Checks.{finalizers, generate_name, is_owner, are_owners_valid, update_fault, adds_no_finalizer, is_selector_kept}
use Rattle.spec_api.specs.Deletion.{left_by, being_deleted}
use Rattle.spec_api.specs.History.{History, writes, present, found, entries_at, state}
use Rattle.spec_api.specs.Keys.{Key}
use Rattle.spec_api.specs.Metadata as metadata
use Rattle.spec_api.specs.Metadata.{owners, owners_in, metadata_of, name, namespace, at_revision, is_being_deleted}
use Rattle.spec_api.specs.NewObjects.{created, with_first_status}
use Rattle.spec_api.specs.ObjectRequests.{Request, get_object, list_objects, create_object, update_object, update_status, patch_object, delete_object}
use Rattle.spec_api.specs.Reached.{IsReached}
use Rattle.spec_api.specs.Reading.{reading}
use Rattle.spec_api.specs.Replacements.{in_place, updated, with_status_in}
use Rattle.spec_api.specs.Verbs.{Outcome, accept, shown, object_in, new_name, write_of}
use Rattle.spec_client_go.specs.OwnerReferences.{controls_as, refers_to, namespace_of}
use Rattle.spec_laws.specs.HistoryLaws.{OfStored}
use Rattle.spec_laws.specs.LifecycleLaws.{OfReplaced}
use Rattle.spec_laws.proofs.Cases.{of_accept, of_create, of_delete, of_status}
use Rattle.spec_laws.proofs.CheckLaws.{all_met}
use Rattle.spec_laws.proofs.Compacted.{same_writes}
use Rattle.spec_laws.proofs.EachWrite.{AllPut, put_write, there_put}
use Rattle.spec_laws.proofs.Guards.{there as if_there}
use Rattle.spec_laws.proofs.Reaching.{by_reached}
use Rattle.spec_laws.proofs.Removals.{member-updated, member-restated, at_held}
use Rattle.spec_laws.proofs.VerbLaws.{found-state, none_from, of_none}
use Rattle.spec_client_go.specs.Boards.{creation_observed}
use Rattle.spec_client_go.specs.Expectations.{Owner}
use Rattle.spec_sim.specs.PodObservations.{set_named, sets_of, creation}
use Rattle.sim_overshoot_laws.specs.Reserves.{is_set, is_controlled, shown as shows}
use Rattle.sim_overshoot_laws.specs.ClaimLaws.{StoredHaveOneController}
use Rattle.sim_overshoot_laws.proofs.StoredParts.{member-created, member-marked}

abbrev refs : List ℕ
refs = codes "ownerReferences"

abbrev place : List ℕ
place = codes "namespace"

-- ---- one controller at most

abbrev owners_from : Option Data → List metadata.Owner
owners_from o = owners_in (unwrap_or (option_and_then as_array o) no_items)

abbrev IsSingle : Data → Type 0
IsSingle d = checks.controllers (owners d) ≤ 1

same_single : (d was : Data) → metadata.metadata refs d ≡ metadata.metadata refs was → IsSingle was → IsSingle d
same_single d was is h = subst (λ os. checks.controllers os ≤ 1) (ap owners_from (sym is)) h

valid_single : (n : ℕ) (d : Data) → are_owners_valid n d ≡ true → IsSingle d
valid_single n d h = leb-true (checks.controllers (owners d)) 1 (right_true _ (nat_le (checks.controllers (owners d)) 1) h)

abbrev AreSingle : History → Type 0
AreSingle h = AllPut (λ k d. IsSingle d) (writes h)

single_by : (h : History) (moment : List ℕ) → AreSingle h → (q : Request) → OfStored (accept q h moment) (λ k d. IsSingle d)
single_by h moment all q =
    let r = present h in
    let was : (k : Key) (existing : Data) → found k (entries_at h r) ≡ Some existing → IsSingle existing =
    λ k existing at. there_put (λ k d. IsSingle d) h r k existing all (sym (found-state h k) ∙ at) in
    of_accept (λ u. OfStored u (λ k d. IsSingle d)) (λ f. tt) (λ code body. tt) q h moment
    (λ kind ns d o read valid fits free room.
    let k = new_name kind ns o (entries_at h r) r in
    let first = with_first_status kind o in
    same_single (created kind (r + 1) ns k.name moment o) first
    (member-created refs kind (r + 1) ns k.name moment o refl refl refl refl refl refl refl ∙ sym (ap (get_member refs) (metadata_of-first kind o)))
    (valid_single r first (all_met (checks.checks kind k.name r true true first) valid).1.1.1.1.0))
    (λ k o existing at valid fits low.
    let d = in_place k.kind existing o in
    same_single (updated k.kind (r + 1) existing d) d (member-updated refs k.kind (r + 1) existing d refl refl)
    (valid_single r d (all_met (checks.checks k.kind k.name r (adds_no_finalizer existing d) (is_selector_kept existing d) d) valid).1.1.1.1.0))
    (λ k o existing at free low. tt)
    (λ k o existing at fits low.
    let d = with_status_in k.kind existing o in same_single (at_revision (r + 1) (metadata_of d) d) existing (member-restated refs k.kind (r + 1) existing o refl) (was k existing at))
    (λ k o existing at low.
    let left = left_by o.policy (finalizers existing) in
    let d = being_deleted k.kind moment left existing in
    same_single (at_revision (r + 1) (metadata_of d) d) existing (member-marked refs k.kind (r + 1) moment left existing refl refl refl refl) (was k existing at))
    (λ k o existing at none low. tt)

pub all_single : (h : History) → IsReached h → AllPut (λ k d. checks.controllers (owners d) ≤ 1) (writes h)
all_single h reached =
    by_reached AreSingle (λ q h moment a t all. put_write (λ k d. IsSingle d) h (write_of (accept q h moment)) (single_by h moment all q) all) (same_writes (AllPut (λ k d. IsSingle d))) h reached tt

pub have_one_controller : StoredHaveOneController
have_one_controller h r k d reached is = there_put (λ k d. IsSingle d) h r k d (all_single h reached) is

-- ---- so a pod shows at most one creation of a set's pods

module _ (o : Owner) where
  none_shown : (os : List Owner) → list_any (is_set o) os ≡ false → shows o (map creation_observed os) ≡ 0
  none_shown [] e = refl
  none_shown (p ∷ os) e = by (is_set o p) e (none_shown os)
    where
      by : (b : Bool) → (b || list_any (is_set o) os) ≡ false → (list_any (is_set o) os ≡ false → shows o (map creation_observed os) ≡ 0) → cond b 1 0 + shows o (map creation_observed os) ≡ 0
      by true e more = cc
      by false e more = plain (shows o (map creation_observed os)) (more e)
        where
          plain : (n : ℕ) → n ≡ 0 → 0 + n ≡ 0
          plain n e = omega (arith, e)

  module _ (ns : List ℕ) where
    abbrev those : List metadata.Owner → List metadata.Owner
    those os = filter (controls_as ReplicaSet) os

    abbrev named : List metadata.Owner → ℕ
    named os = shows o (map creation_observed (filter_map (set_named ns) (those os)))

    one_more : (x : Option Owner) (os : List Owner) (n : ℕ) → shows o (map creation_observed os) ≤ n → shows o (map creation_observed (cons_option x os)) ≤ suc n
    one_more None os n h = omega (arith, h)
    one_more (Some p) os n h = by (is_set o p) (shows o (map creation_observed os)) h
      where
        by : (b : Bool) (m : ℕ) → m ≤ n → cond b 1 0 + m ≤ suc n
        by true m h = omega (arith, h)
        by false m h = omega (arith, h)

    -- no more than there are controllers
    named_le : (os : List metadata.Owner) → named os ≤ checks.controllers os
    named_le [] = omega arith
    named_le (x ∷ os) = by x.is_controller (refers_to ReplicaSet x) (named_le os)
      where
        by : (b c : Bool) → named os ≤ checks.controllers os
            → shows o (map creation_observed (filter_map (set_named ns) (cond (b && c) (x ∷ those os) (those os)))) ≤ cond b (suc (checks.controllers os)) (checks.controllers os)
        by true true h = one_more (set_named ns x) (filter_map (set_named ns) (those os)) (checks.controllers os) h
        by true false h = later (named os) (checks.controllers os) h
          where
            later : (m n : ℕ) → m ≤ n → m ≤ suc n
            later m n h = omega (arith, h)
        by false c h = h

  pub single_shown : (d : Data) → checks.controllers (owners d) ≤ 1 → shows o (creation d) ≤ cond (is_controlled o d) 1 0
  single_shown d single = by (is_controlled o d) refl
    where
      most : (m n : ℕ) → m ≤ n → n ≤ 1 → m ≤ 1
      most m n e f = omega (arith, e, f)

      least : (m : ℕ) → m ≡ 0 → m ≤ 0
      least m e = omega (arith, e)

      by : (b : Bool) → is_controlled o d ≡ b → shows o (creation d) ≤ cond b 1 0
      by true e = most (shows o (creation d)) (checks.controllers (owners d)) (named_le (namespace_of d) (owners d)) single
      by false e = least (shows o (creation d)) (none_shown (sets_of d) e)

-- ---- what is no update or patch leaves the references

abbrev edits_all : Request → Bool
edits_all (update_object k d) = true
edits_all (patch_object k d) = true
edits_all q = false

module _ (o : Owner) where
  abbrev controlled_by : Option Data → Option Data → Bool
  controlled_by ns rs = list_any (is_set o) (filter_map (set_named (unwrap_or (option_and_then as_str ns) [])) (filter (controls_as ReplicaSet) (owners_from rs)))

  pub same_controlled : (d was : Data) → metadata.metadata place d ≡ metadata.metadata place was → metadata.metadata refs d ≡ metadata.metadata refs was → is_controlled o d ≡ is_controlled o was
  same_controlled d was a b = ap (λ x. controlled_by x (metadata.metadata refs d)) a ∙ ap (controlled_by (metadata.metadata place was)) b

  module _ (h : History) (moment : List ℕ) where
    abbrev Keeps : Outcome → Type 0
    Keeps u = OfReplaced h u (λ k existing new. is_controlled o new ≡ is_controlled o existing)

    pub references_kept : (q : Request) → edits_all q ≡ false → Keeps (accept q h moment)
    references_kept (get_object k) e = if_there Keeps (λ f. tt) k shown (found k (entries_at h (present h))) (λ d is. tt)
    references_kept (list_objects v) e = tt
    references_kept (create_object kind ns d) e =
        of_create Keeps (λ f. tt) kind ns (object_in kind d) (entries_at h (present h)) (present h) moment
        (λ p read valid fits free room.
        let k = new_name kind ns p (entries_at h (present h)) (present h) in
        of_none (λ existing. is_controlled o (created kind (present h + 1) ns k.name moment p) ≡ is_controlled o existing) (state h (present h) k) (sym (found-state h k) ∙ none_from (found k (entries_at h (present h))) free))
    references_kept (update_object k d) e = cc
    references_kept (update_status k d) e =
        of_status Keeps (λ f. tt) (λ d. tt) k (reading k.kind d) (entries_at h (present h)) (present h)
        (λ p existing read at equal fits low.
        let made = with_status_in k.kind existing p in
        let new = at_revision (present h + 1) (metadata_of made) made in
        at_held h k existing (λ was. is_controlled o new ≡ is_controlled o was) at
        (same_controlled new existing (member-restated place k.kind (present h + 1) existing p refl) (member-restated refs k.kind (present h + 1) existing p refl)))
    references_kept (patch_object k d) e = cc
    references_kept (delete_object k x) e =
        of_delete Keeps (λ f. tt) (λ code body. tt) k x (entries_at h (present h)) (present h) moment
        (λ existing at same_uid equal low.
        let left = left_by x.policy (finalizers existing) in
        let d = being_deleted k.kind moment left existing in
        let new = at_revision (present h + 1) (metadata_of d) d in
        at_held h k existing (λ was. is_controlled o new ≡ is_controlled o was) at
        (same_controlled new existing (member-marked place k.kind (present h + 1) moment left existing refl refl refl refl) (member-marked refs k.kind (present h + 1) moment left existing refl refl refl refl)))
        (λ existing at same_uid equal none low. tt)
