-- A pod that a ReplicaSet adopts owes its key, by the reference that is stored of it.
use Rattle.std.proofs.Common.{◌≡◌, inl, inr, ◌+◌, ◌++◌, ◌==◌, not, ℕ, suc, List, [], ◌∷◌, filter, filter_map, Bool, true, false, cond, codes, is_some, unwrap_or, IfSome, Option, Some, None, option_and_then, Ok, refl, sym, ap, ap₂, ◌∙◌, subst, arith}
use mathlib.Core.Bool.{true≢false}
use Rattle.std.proofs.lemmas.Bool.Decides.{nat_tests}
use Rattle.std.specs.List.{cons_option}
use Rattle.serde_json.specs.Data.{Data, array, Items, no_items, item, Members, put}
use Rattle.serde_json.specs.Events.{items_len}
use Rattle.serde_json.specs.Find.{as_array, get_member}
use Rattle.serde_json.proofs.Views.{get_member-put}
use Rattle.spec_api.proofs.Truths.{left_true}
use Rattle.spec_api.specs.declared.kinds.Kind.{Kind}
use Rattle.spec_api.specs.declared.kinds.Kind.TheVariants.{ConfigMap, Pod, ReplicaSet, Deployment}
use Rattle.spec_api.specs.declared.schemas.Schema.TheVariants.{Metadata as TheMetadata, OwnerReference}
use Rattle.spec_api.specs.declared.schemas.Shape.{Shape}
use Rattle.spec_api.specs.declared.schemas.Shape.TheVariants.{Object as ObjectOf}
use Rattle.spec_api.specs.History.{History, Write, present, state, found, entries_at}
use Rattle.spec_api.specs.Keys.{Key}
use Rattle.spec_api.specs.Metadata.{Owner, owner, owners_in, metadata, metadata_of, namespace, is_being_deleted}
use Rattle.spec_api.specs.ObjectRequests.{Request, update_object}
use Rattle.spec_api.specs.Reached.{IsParsed, IsReached}
use Rattle.spec_api.specs.Reading.{reading, is_absent, tidied, tidied_items}
use Rattle.spec_api.specs.Replacements.{in_place, updated, says_the_same}
use Rattle.spec_api.specs.Schemas.{property_at}
use Rattle.spec_api.specs.SelectorValues.{items_in}
use Rattle.spec_api.specs.Verbs.{Outcome, accept, write_of, object_in}
use Rattle.spec_client_go.specs.declared.controller.Controller.TheVariants as controller
use Rattle.spec_client_go.specs.OwnerReferences.{key_named, controls_as, controller_keys}
use Rattle.spec_client_go.specs.WorkQueues.{WorkKey}
use Rattle.spec_laws.proofs.Cases.{of_update}
use Rattle.spec_laws.proofs.Reaching.{past}
use Rattle.spec_laws.proofs.Removals.{member-updated}
use Rattle.spec_laws.proofs.SetMetadata.{namespace-in_place, text-updated}
use Rattle.spec_laws.proofs.VerbLaws.{found-state, metadata_of-defaulted}
use Rattle.spec_reconcile.specs.MetadataEdits.{controller_reference, references, with_last}
use Rattle.spec_reconcile.specs.PodClaims.{adopted}
use Rattle.spec_sim.specs.ControlPlanes.{ControlPlane, Step}
use Rattle.spec_sim.specs.Managers.{answer_of}
use Rattle.spec_sim.specs.Turns.{is_accepted}
use Rattle.sim_worker_laws.specs.OwedLaws.{IsAmong}
use Rattle.sim_rest_laws.specs.StillLaws.{ShownIn}
use Rattle.sim_rest_command_laws.specs.CommandLaws.{Unowed, WasUnowed}
use Rattle.sim_rest_command_laws.proofs.Leads.{before, is_newer}
use Rattle.sim_rest_command_laws.proofs.ListEdits.{meta_read, tidied_count}
use Rattle.sim_rest_command_laws.proofs.UnderNames.{found_tidied}
use Rattle.sim_rest_command_laws.proofs.Updates.{held, said, same_in_place, placed_other, update_done, references_are, list_names}
use Rattle.sim_rest_create_laws.proofs.Creates.{coming}

-- ---- a reference more, as the last

tidied_last : (s : Shape) (e : Data) (ds : Items) → tidied_items s (with_last e ds) ≡ with_last (tidied s e) (tidied_items s ds)
tidied_last s e no_items = refl
tidied_last s e (item d ds) = ap (item (tidied s d)) (tidied_last s e ds)

one_more : (e : Data) (ds : Items) → items_len (with_last e ds) ≡ suc (items_len ds)
one_more e no_items = refl
one_more e (item d ds) = ap suc (one_more e ds)

not_zero : (n : ℕ) → (suc n == 0) ≡ false
not_zero n = grind (arith, nat_tests)

stays : (e : Data) (ds : Items) → is_absent (property_at TheMetadata (codes "ownerReferences")) (tidied (property_at TheMetadata (codes "ownerReferences")).shape (array (with_last e ds))) ≡ false
stays e no_items = refl
stays e (item d ds) = not_zero (items_len (tidied_items (ObjectOf OwnerReference) (with_last e ds)))

-- ---- the keys that it names

abbrev keys_with : Option (List ℕ) → Option Data → List Key
keys_with ns found = filter_map (λ (o : Owner). key_named (unwrap_or ns []) ReplicaSet o.name) (filter (controls_as ReplicaSet) (owners_in (unwrap_or (option_and_then as_array found) no_items)))

module _ (ns n : List ℕ) (set : Data) where
  abbrev k : Key
  k = record { kind = ReplicaSet; namespace = ns; name = n }

  later_in : (b : Bool) (o : Owner) (os : List Owner) → IsAmong k (filter_map (λ (o : Owner). key_named ns ReplicaSet o.name) os)
      → IsAmong k (filter_map (λ (o : Owner). key_named ns ReplicaSet o.name) (cond b (o ∷ os) os))
  later_in false o os i = i
  later_in true o os i = by (key_named ns ReplicaSet o.name)
    where
      by : (x : Option Key) → IsAmong k (cons_option x (filter_map (λ (o : Owner). key_named ns ReplicaSet o.name) os))
      by None = i
      by (Some x) = inr i

  last_named : (ds : Items) → IsAmong k (keys_with (Some ns) (Some (array (with_last (controller_reference k set) ds))))
  last_named no_items = inl refl
  last_named (item d ds) =
      later_in (controls_as ReplicaSet (owner d)) (owner d) (filter (controls_as ReplicaSet) (owners_in (with_last (controller_reference k set) ds))) (last_named ds)

of_kind : (kind : Kind) (ns n : List ℕ) (set : Data) (ds : Items) → kind ≡ ReplicaSet
    → (let k : Key = record { kind = kind; namespace = ns; name = n } in IsAmong k (keys_with (Some ns) (Some (array (with_last (controller_reference k set) ds)))))
of_kind ReplicaSet ns n set ds e = last_named ns n set ds
of_kind ConfigMap ns n set ds e = cc
of_kind Pod ns n set ds e = cc
of_kind Deployment ns n set ds e = cc

named : (k : Key) (set new : Data) (ds : Items) → k.kind ≡ ReplicaSet → namespace new ≡ Some k.namespace → metadata (codes "ownerReferences") new ≡ Some (array (with_last (controller_reference k set) ds))
    → IsAmong k (controller_keys ReplicaSet new)
named k set new ds is ns says = subst (IsAmong k) (sym (ap₂ keys_with ns says)) (of_kind k.kind k.namespace k.name set ds is)

-- ---- what is read of the body, and stored

module _ (k x : Key) (set e : Data) where
  abbrev body : Data
  body = adopted k set e

  abbrev last_one : Option Data
  last_one = Some (array (with_last (controller_reference k set) (tidied_items (ObjectOf OwnerReference) (references e))))

  abbrev meta : Members
  meta = put (codes "ownerReferences") (array (with_last (controller_reference k set) (references e))) (metadata_of e)

  refs_read : (o : Data) → reading x.kind (adopted k set e) ≡ Ok o → metadata (codes "ownerReferences") o ≡ last_one
  refs_read o read =
      let items = with_last (controller_reference k set) (references e) in
      ap (get_member (codes "ownerReferences")) (meta_read x.kind meta e o read)
      ∙ found_tidied TheMetadata (codes "ownerReferences") meta (array items) (get_member-put (codes "ownerReferences") (array items) (metadata_of e)) (stays (controller_reference k set) (references e))
      ∙ ap (λ ds. Some (array ds)) (tidied_last (ObjectOf OwnerReference) (controller_reference k set) (references e))

  placed : (existing o : Data) → object_in x.kind (adopted k set e) ≡ Ok o → metadata (codes "ownerReferences") (in_place x.kind existing o) ≡ last_one
  placed existing o is =
      let z = said x.kind (adopted k set e) o is in
      placed_other (codes "ownerReferences") x.kind existing o references_are.others ∙ ap (metadata (codes "ownerReferences")) z.is
      ∙ ap (get_member (codes "ownerReferences")) (metadata_of-defaulted x.kind z.first) ∙ refs_read z.first z.reads

  stored_names : (r : ℕ) (existing o : Data) → k.kind ≡ ReplicaSet → x.namespace ≡ k.namespace → namespace existing ≡ Some x.namespace → object_in x.kind (adopted k set e) ≡ Ok o
      → IsAmong k (controller_keys ReplicaSet (updated x.kind r existing (in_place x.kind existing o)))
  stored_names r existing o is same ns read =
      let d = in_place x.kind existing o in
      let in_ns : namespace d ≡ Some x.namespace = subst (λ (v : Option (List ℕ)). IfSome v (λ t. namespace d ≡ Some t)) ns (namespace-in_place x.kind existing o) in
      named k set (updated x.kind r existing d) (tidied_items (ObjectOf OwnerReference) (references e)) is
      (text-updated x.kind (codes "namespace") r existing d refl refl ∙ in_ns ∙ ap (λ n. Some n) same)
      (member-updated (codes "ownerReferences") x.kind r existing d refl refl ∙ placed existing o read)

-- ---- the update

module _ (h g more : History) (moment : List ℕ) (j : WorkKey) (x : Key) (set e : Data) (s : ℕ) (begins : h ≡ g ++ more) (reached : IsReached h) (at : state h s x ≡ Some e) (live : is_being_deleted e ≡ false)
    (parsed : IsParsed (adopted j.key set e)) (is_set : j.key.kind ≡ ReplicaSet) (same_ns : x.namespace ≡ j.key.namespace) where
  reached_g : IsReached g
  reached_g = past g more (subst IsReached begins reached)

  abbrev request : Request
  request = update_object x (adopted j.key set e)

  other : (o : Data) → object_in x.kind (adopted j.key set e) ≡ Ok o → says_the_same e (in_place x.kind e o) ≡ true → ⊥
  other o is says =
      let of_e = held h s x e reached at in
      let one : e ≡ in_place x.kind e o = same_in_place x.kind e (adopted j.key set e) o of_e.1.kept.reads of_e.1.parsed parsed is says in
      let refs_are : metadata (codes "ownerReferences") e ≡ Some (array (with_last (controller_reference j.key set) (tidied_items (ObjectOf OwnerReference) (references e)))) =
      ap (metadata (codes "ownerReferences")) one ∙ placed j.key x set e e o is in
      let n = items_len (references e) in
      let grows : n ≡ suc n =
      ap (λ (v : Option Data). items_len (items_in v)) refs_are ∙ one_more (controller_reference j.key set) (tidied_items (ObjectOf OwnerReference) (references e))
      ∙ ap suc (tidied_count (ObjectOf OwnerReference) (references e)) in
      omega (arith, grows)

  abbrev IsNamed : Outcome → Type 0
  IsNamed u = IfSome (write_of u) (λ w. (new : Data) × (w.put ≡ Some new) × IsAmong j.key (controller_keys ReplicaSet new))

  is_named : state g (present g) x ≡ Some e → IsNamed (accept (update_object x (adopted j.key set e)) g moment)
  is_named there =
      of_update IsNamed (λ f. tt) (λ d. tt) x (object_in x.kind (adopted j.key set e)) (entries_at g (present g)) (present g)
      (λ o existing read is at_version valid fits low.
      let stored = held g (present g) x existing reached_g (sym (found-state g x) ∙ is) in
      (updated x.kind (present g + 1) existing (in_place x.kind existing o), refl, stored_names j.key x set e (present g + 1) existing o is_set same_ns stored.1.kept.namespace read))
      (λ o existing read is at_version free low.
      let one : existing ≡ e = some existing e (sym (sym (found-state g x) ∙ is) ∙ there) in
      let going : is_being_deleted existing ≡ true = left_true (is_being_deleted existing) (not (is_some (metadata (codes "finalizers") (updated x.kind (present g + 1) existing (in_place x.kind existing o))))) free in
      absurd (true≢false (sym going ∙ ap is_being_deleted one ∙ live)))
    where
      some : (a b : Data) → Some a ≡ Some b → a ≡ b
      some a b e = cc

  -- so it owes the key
  pub adoption_owes : (q : ControlPlane) (since : List Step) → j.controller ≡ controller.ReplicaSet → x.kind ≡ Pod → is_accepted (answer_of (accept (update_object x (adopted j.key set e)) g moment)) ≡ true
      → WasUnowed j (ShownIn q since) h g (accept (update_object x (adopted j.key set e)) g moment) → ⊥
  adoption_owes q since of_sets pod ok unowed =
      let Shown = ShownIn q since in
      let items = with_last (controller_reference j.key set) (references e) in
      let done =
      update_done h g more moment x e (adopted j.key set e) s begins reached at (list_names h g more moment x e s begins reached at (codes "ownerReferences") references_are items parsed) other ok in
      let w = done.1.0 in
      let wrote = done.1.1 in
      let new = subst (λ (o : Option Write). IfSome o (λ w. (new : Data) × (w.put ≡ Some new) × IsAmong j.key (controller_keys ReplicaSet new))) wrote (is_named done.0) in
      let u : Unowed j Shown x (state g (present g) x) w.put = subst (λ (y : Key). Unowed j Shown y (state g (present g) y) w.put) done.1.2 (unowed w wrote).0 in
      let to_new : Unowed j Shown x (state g (present g) x) (Some new.0) = subst (λ (v : Option Data). Unowed j Shown x (state g (present g) x) v) new.1 u in
      let there : state g (present g) x ≡ Some new.0 = before j Shown x (state g (present g) x) new.0 (coming j x new.0 of_sets pod new.2) to_new in
      is_newer g (update_object x (adopted j.key set e)) moment w (present g) x new.0 reached_g there wrote new.1
