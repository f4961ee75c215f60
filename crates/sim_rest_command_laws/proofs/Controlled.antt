-- What a ReplicaSet or a Deployment controls owes its key by what was there.
use Rattle.std.proofs.Common.{◌≡◌, ◌⊎◌, inl, inr, ◌&&◌, ◌||◌, ℕ, List, [], ◌∷◌, filter, filter_map, flat_map, Bool, true, false, not, cond, codes, Option, Some, None, option_and_then, refl, sym, ap, ◌∙◌, subst}
use mathlib.Core.Bool.{true≢false}
use Rattle.std.specs.List.{AllByRecursion, list_any, find, cons_option}
use Rattle.serde_json.specs.Data.{Data, Items, no_items, item}
use Rattle.spec_api.proofs.Truths.{both_true}
use Rattle.spec_api.specs.declared.kinds.Kind.{Kind}
use Rattle.spec_api.specs.declared.kinds.Kind.TheVariants.{Pod, ReplicaSet, Deployment}
use Rattle.spec_api.specs.Keys.{Key}
use Rattle.spec_api.specs.Kinds.{kinds}
use Rattle.spec_api.specs.Metadata.{Owner, owner, owners, owners_in, uid, is_being_deleted}
use Rattle.spec_api.specs.ObjectRequests.{update_object}
use Rattle.spec_api.specs.Reached.{IsReached}
use Rattle.spec_api.specs.SelectorValues.{is_some_and}
use Rattle.spec_client_go.specs.declared.controller.Controller.{Controller}
use Rattle.spec_client_go.specs.declared.controller.Controller.TheVariants as controller
use Rattle.spec_client_go.specs.OwedKeys.{Change, keys_of, one_of, of_both, adopters, sets_to_look_by, deployments_to_look_by}
use Rattle.spec_client_go.specs.OwnerReferences.{is_text, refers_to, kind_referred, key_named, owner_key, namespace_of, controls_as, controller_keys, is_controlled_by}
use Rattle.spec_laws.proofs.AskedEdits.{keeping_parsed}
use Rattle.spec_laws.proofs.Reaching.{past}
use Rattle.spec_reconcile.specs.MetadataEdits.{references, only}
use Rattle.spec_reconcile.specs.PodClaims.{is_to_controller, released}
use Rattle.spec_reconcile.specs.Pods.{is_active, is_owned, matches}
use Rattle.spec_reconcile.specs.Standings.{is_to}
use Rattle.spec_sim.specs.ControlPlanes.{change_of}
use Rattle.sim_worker_laws.specs.OwedLaws.{IsAmong}
use Rattle.sim_rest_laws.specs.StillLaws.{ShownIn}
use Rattle.sim_rest_laws.proofs.OwedObjects.{in_left, owed_set, owed_deployment}
use Rattle.sim_rest_command_laws.specs.CommandLaws.{ControlledOwe, ReleasesOwe}
use Rattle.sim_rest_command_laws.proofs.Collecting.{Fails, fewer, done_owes}
use Rattle.sim_rest_command_laws.proofs.Updates.{held, fewer_done, references_are}

-- ---- the kind that a reference names

find_holds : (p : Kind → Bool) (xs : List Kind) (k : Kind) → find p xs ≡ Some k → p k ≡ true
find_holds p [] k e = cc
find_holds p (y ∷ ys) k e = by (p y) refl (find_holds p ys k) e
  where
    by : (b : Bool) → p y ≡ b → (find p ys ≡ Some k → p k ≡ true) → cond b (Some y) (find p ys) ≡ Some k → p k ≡ true
    by true is later e = let same : y ≡ k = cc in ap p (sym same) ∙ is
    by false is later e = later e

named_as : (ns : List ℕ) (k : Kind) (n : Option (List ℕ)) (x : Key) → key_named ns k n ≡ Some x → k ≡ x.kind
named_as ns k None x e = cc
named_as ns k (Some n) x e = let is : record { kind = k; namespace = ns; name = n } ≡ x = cc in ap (λ (y : Key). y.kind) is

refers : (ns : List ℕ) (o : Owner) (x : Key) → owner_key ns o ≡ Some x → (refers_to x.kind o ≡ true) × (key_named ns x.kind o.name ≡ Some x)
refers ns o x e = by (kind_referred o) refl e
  where
    by : (k : Option Kind) → kind_referred o ≡ k → option_and_then (λ k. key_named ns k o.name) k ≡ Some x → (refers_to x.kind o ≡ true) × (key_named ns x.kind o.name ≡ Some x)
    by None is f = cc
    by (Some k) is f =
        let same = named_as ns k o.name x f in (ap (λ (j : Kind). refers_to j o) (sym same) ∙ find_holds (λ k. refers_to k o) kinds k is, ap (λ (j : Kind). key_named ns j o.name) (sym same) ∙ f)

-- ---- the keys of controllers

module _ (x : Key) (d : Data) (u : List ℕ) (ns : List ℕ) (has : uid d ≡ Some u) where
  abbrev named : List Owner → List Key
  named os = filter_map (λ (o : Owner). key_named ns x.kind o.name) (filter (controls_as x.kind) os)

  later_in : (b : Bool) (o : Owner) (os : List Owner) → IsAmong x (named os)
      → IsAmong x (filter_map (λ (o : Owner). key_named ns x.kind o.name) (cond b (o ∷ filter (controls_as x.kind) os) (filter (controls_as x.kind) os)))
  later_in false o os i = i
  later_in true o os i = by (key_named ns x.kind o.name)
    where
      by : (k : Option Key) → IsAmong x (cons_option k (named os))
      by None = i
      by (Some k) = inr i

  among : (os : List Owner) → list_any (λ (o : Owner). o.is_controller && is_text u o.uid) os ≡ true → AllByRecursion (λ (o : Owner). is_to d o ≡ true → owner_key ns o ≡ Some x) os → IsAmong x (named os)
  among [] e all = absurd (true≢false (sym e))
  among (o ∷ os) e all = by (o.is_controller && is_text u o.uid) refl (λ f. among os f all.1) e
    where
      here : (o.is_controller && is_text u o.uid) ≡ true → IsAmong x (named (o ∷ os))
      here is =
          let two = both_true o.is_controller (is_text u o.uid) is in
          let to : is_to d o ≡ true = ap (λ v. is_some_and (λ w. is_text w o.uid) v) has ∙ two.1 in
          let r = refers ns o x (all.0 to) in
          let passes : controls_as x.kind o ≡ true = ap (λ b. b && refers_to x.kind o) two.0 ∙ r.0 in
          subst (λ b. IsAmong x (filter_map (λ (o : Owner). key_named ns x.kind o.name) (cond b (o ∷ filter (controls_as x.kind) os) (filter (controls_as x.kind) os)))) (sym passes)
          (subst (λ k. IsAmong x (cons_option k (named os))) (sym r.1) (inl refl))

      by : (b : Bool) → (o.is_controller && is_text u o.uid) ≡ b → (list_any (λ (o : Owner). o.is_controller && is_text u o.uid) os ≡ true → IsAmong x (named os))
          → (b || list_any (λ (o : Owner). o.is_controller && is_text u o.uid) os) ≡ true → IsAmong x (named (o ∷ os))
      by true is later e = here is
      by false is later e = later_in (controls_as x.kind o) o os (later e)

pub controlled : ControlledOwe
controlled j x d e u controls names has owned s l same old = by controls
  where
    c : Change
    c = change_of s

    keys : (k : Kind) → j.key.kind ≡ k → IsAmong j.key (of_both (controller_keys k) (change_of s))
    keys k is =
        let i : IsAmong j.key (controller_keys j.key.kind e) = among j.key d u (namespace_of e) has (owners e) owned names in
        let of_k : IsAmong j.key (controller_keys k e) = subst (λ (k : Kind). IsAmong j.key (controller_keys k e)) is i in
        in_left j.key (flat_map (controller_keys k) (one_of s.old)) (flat_map (controller_keys k) (one_of s.new))
        (subst (λ (v : Option Data). IsAmong j.key (flat_map (controller_keys k) (one_of v))) (sym old) (in_left j.key (controller_keys k e) [] of_k))

    by : ((j.controller ≡ controller.ReplicaSet) × (j.key.kind ≡ ReplicaSet) × (x.kind ≡ Pod)) ⊎ ((j.controller ≡ controller.Deployment) × (j.key.kind ≡ Deployment) × (x.kind ≡ ReplicaSet)) → IsAmong j (keys_of (change_of s) l)
    by (inl z) =
        let of_pod : IsAmong j.key (sets_to_look_by Pod l (change_of s)) =
        in_left j.key (of_both (controller_keys ReplicaSet) (change_of s)) (flat_map (adopters l.replica_sets) (one_of s.new)) (keys ReplicaSet z.1) in
        let kind_is : Pod ≡ s.key.kind = sym z.2 ∙ ap (λ (y : Key). y.kind) (sym same) in
        subst (λ (w : Controller). IsAmong (record { controller = w; key = j.key }) (keys_of (change_of s) l)) (sym z.0)
        (owed_set (change_of s) l j.key (subst (λ (k : Kind). IsAmong j.key (sets_to_look_by k l (change_of s))) kind_is of_pod))
    by (inr z) =
        let kind_is : ReplicaSet ≡ s.key.kind = sym z.2 ∙ ap (λ (y : Key). y.kind) (sym same) in
        subst (λ (w : Controller). IsAmong (record { controller = w; key = j.key }) (keys_of (change_of s) l)) (sym z.0)
        (owed_deployment (change_of s) l j.key (subst (λ (k : Kind). IsAmong j.key (deployments_to_look_by k l (change_of s))) kind_is (keys Deployment z.1)))

-- ---- a release

fails_controller : (u : List ℕ) (d : Data) (ds : Items) → uid d ≡ Some u → list_any (λ (o : Owner). o.is_controller && is_text u o.uid) (owners_in ds) ≡ true → Fails (λ r. not (is_to_controller d (owner r))) ds
fails_controller u d no_items has e = absurd (true≢false (sym e))
fails_controller u d (item r ds) has e = by ((owner r).is_controller && is_text u (owner r).uid) refl (fails_controller u d ds has) e
  where
    to : is_to_controller d (owner r) ≡ ((owner r).is_controller && is_text u (owner r).uid)
    to = ap (λ v. (owner r).is_controller && is_some_and (λ w. is_text w (owner r).uid) v) has

    by : (b : Bool) → ((owner r).is_controller && is_text u (owner r).uid) ≡ b → (list_any (λ (o : Owner). o.is_controller && is_text u o.uid) (owners_in ds) ≡ true → Fails (λ r. not (is_to_controller d (owner r))) ds)
        → (b || list_any (λ (o : Owner). o.is_controller && is_text u o.uid) (owners_in ds)) ≡ true → (not (is_to_controller d (owner r)) ≡ false) ⊎ Fails (λ r. not (is_to_controller d (owner r))) ds
    by true is later e = inl (ap not (to ∙ is))
    by false is later e = inr (later e)

-- the uid by which it is owned
pub owned_by : (d e : Data) (v : Option (List ℕ)) → uid d ≡ v → is_some_and (λ u. is_controlled_by u e) v ≡ true → (u : List ℕ) × (uid d ≡ Some u) × (is_controlled_by u e ≡ true)
owned_by d e None is f = cc
owned_by d e (Some u) is f = (u, is, f)

pub releases : ReleasesOwe
releases h g more moment j x d e s q since begins reached controls names at is_one ok unowed =
    let Shown = ShownIn q since in
    let not_going = both_true (not (is_being_deleted d) && is_owned d e) (not (matches d e)) is_one in
    let owned = both_true (not (is_being_deleted d)) (is_owned d e) not_going.0 in
    let by_uid = both_true (is_active e) (is_some_and (λ u. is_controlled_by u e) (uid d)) owned.1 in
    let z = owned_by d e (uid d) refl by_uid.1 in
    let items = only (λ r. not (is_to_controller d (owner r))) (references e) in
    let done =
    fewer_done h g more moment x e s begins reached at (codes "ownerReferences") references_are items (keeping_parsed (λ o. not (is_to_controller d o)) e (held h s x e reached at).1.parsed)
    (fewer (λ r. not (is_to_controller d (owner r))) (references e) (fails_controller z.0 d (references e) z.1 z.2)) ok in
    done_owes j Shown h g (update_object x (released d e)) moment x e done.1.0 (past g more (subst IsReached begins reached)) (controlled j x d e z.0 controls names z.1 z.2) done.0 done.1.1 done.1.2 unowed
