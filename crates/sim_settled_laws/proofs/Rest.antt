-- What it says of ReplicaSets, and of what has owners, that nothing is left to do at rest.
use Rattle.std.proofs.Common.{◌≡◌, inl, inr, ◌<◌, ◌||◌, ◌^◌, ℕ, List, [], ◌∷◌, ◌++◌, map, filter, length, not, Bool, true, false, cond, is_some, IfSome, Option, Some, None, refl, sym, ap, ◌∙◌, subst, arith}
use Rattle.std.specs.List.{AllByRecursion}
use Rattle.serde_json.specs.Data.{Data}
use Rattle.spec_api.specs.declared.kinds.Kind.TheVariants.{ReplicaSet, Deployment}
use Rattle.spec_api.specs.History.{History, present, state, list, found, up_to}
use Rattle.spec_api.specs.Keys.{Key, is_same_key}
use Rattle.spec_api.specs.Metadata.{Owner, owners, uid, is_being_deleted}
use Rattle.spec_api.specs.Reached.{IsReached}
use Rattle.spec_api.proofs.PutLaws.{same_name}
use Rattle.spec_client_go.specs.Hands.{Hand, Read, each_once, is_read, live, unread}
use Rattle.spec_client_go.specs.OwnerReferences.{owner_key, owner_keys, namespace_of}
use Rattle.spec_reconcile.specs.GarbageCollection.{owner_keys_if}
use Rattle.spec_reconcile.specs.Pods.{is_ready}
use Rattle.spec_reconcile.specs.ReplicaSets as replica_sets
use Rattle.spec_reconcile.specs.ReplicaSets.{asks_of, has_adoptable, pods_looked_at, ready_pods}
use Rattle.spec_reconcile.specs.PodClaims.{may_adopt}
use Rattle.spec_reconcile.specs.Standings.{is_to, waits_for_dependents}
use Rattle.spec_laws.specs.SentLaws.{whole}
use Rattle.spec_laws.proofs.AskedReplicaSets.{fewer}
use Rattle.spec_laws.proofs.SentObjects.{IsHeld}
use Rattle.spec_laws.proofs.Stored.{all_stored, last_held, AreStored-up_to}
use Rattle.spec_sim.specs.declared.initial_syncs.InitialSync.{InitialSync}
use Rattle.spec_sim.specs.Clusters.{history}
use Rattle.spec_sim.specs.ControlPlanes.{ControlPlane, Step, opened, run}
use Rattle.spec_sim.specs.Turns.{asks_by, plan_by}
use Rattle.sim_rest_laws.specs.WholeLaws.{IsReadNow, RunsAreReached, present_hand}
use Rattle.sim_rest_laws.proofs.ShiftRuns.{run_both}
use Rattle.reconcile_locality_laws.specs.SettledItems.{Stands}
use Rattle.reconcile_locality_laws.specs.SettledSets.{IsSettled, controlled}
use Rattle.reconcile_locality_laws.proofs.AtPresent.{adopts, few_pods, found_now}
use Rattle.reconcile_locality_laws.proofs.Elements.{In}
use Rattle.reconcile_locality_laws.proofs.Maps.{same_key}
use Rattle.reconcile_locality_laws.proofs.PlainTexts.{stored_plain, replicas_counted, ready_counted, available_counted}
use Rattle.reconcile_locality_laws.proofs.Settled.{blocked_items, owned_items, settled_sets}
use Rattle.reconcile_locality_laws.proofs.SettledRollouts.{rolled_out}
use Rattle.sim_settled_laws.specs.SettledLaws.{DeletionsFollow, DeploymentsFollow, IsAsDeclared, IsThere, ItemsFollow, SetsFollow}

-- ---- what is read now

module _ (h : History) where
  reads_of : List Key → List Read
  reads_of ks = map (λ k. record { key = k; found = state h (present h) k }) ks

  all_now : (ks : List Key) → AllByRecursion (IsReadNow h) (reads_of ks)
  unfolding reads_of
  all_now [] = tt
  all_now (k ∷ ks) = (refl, all_now ks)

  live_is : (ks : List Key) (k : Key) (d : Data) → live (reads_of ks) k ≡ Some d → state h (present h) k ≡ Some d
  unfolding reads_of
  live_is [] k d e = cc
  live_is (i ∷ ks) k d e = by (is_same_key k i) refl e (live_is ks k d)
    where
      by : (b : Bool) → is_same_key k i ≡ b → cond b (state h (present h) i) (live (reads_of ks) k) ≡ Some d → (live (reads_of ks) k ≡ Some d → state h (present h) k ≡ Some d) → state h (present h) k ≡ Some d
      by true same e rest = ap (state h (present h)) (same_name k i same) ∙ e
      by false same e rest = rest e

  first_live : (k : Key) (ks : List Key) → live (reads_of (k ∷ ks)) k ≡ state h (present h) k
  unfolding reads_of
  first_live k ks = ap (λ b. cond b (state h (present h) k) (live (reads_of ks) k)) (same_key k)

  reads_it : (ks : List Key) (k : Key) → In ks k → is_read (reads_of ks) k ≡ true
  unfolding reads_of
  reads_it [] k i = absurd i
  reads_it (y ∷ ks) k (inl is) = ap (λ b. b || is_read (reads_of ks) k) (ap (is_same_key k) is ∙ same_key k)
  reads_it (y ∷ ks) k (inr i) = by (is_same_key k y) (reads_it ks k i)
    where
      by : (b : Bool) → is_read (reads_of ks) k ≡ true → (b || is_read (reads_of ks) k) ≡ true
      by true rest = refl
      by false rest = rest

  none_unread : (rs : List Read) (ks : List Key) → ((k : Key) → In ks k → is_read rs k ≡ true) → unread rs ks ≡ []
  none_unread rs ks all = ap each_once (filtered ks all)
    where
      filtered : (ks : List Key) → ((k : Key) → In ks k → is_read rs k ≡ true) → filter (λ k. not (is_read rs k)) ks ≡ []
      filtered [] all = refl
      filtered (k ∷ ks) all = ap (λ b. cond (not b) (k ∷ filter (λ k. not (is_read rs k)) ks) (filter (λ k. not (is_read rs k)) ks)) (all k (inl refl)) ∙ filtered ks (λ k i. all k (inr i))

-- ---- a ReplicaSet

module _ (h : History) (x : Key) (set : Data) (reached : IsReached h) (is_set : x.kind ≡ ReplicaSet) (is : state h (present h) x ≡ Some set) (stays : is_being_deleted set ≡ false) where
  abbrev now : Hand
  now = present_hand h x (reads_of h (x ∷ []))

  asked_none : (o : Option Data) → unread (reads_of h (x ∷ [])) (asks_of now o) ≡ []
  asked_none None = refl
  asked_none (Some d) = by (has_adoptable d (pods_looked_at now))
    where
      by : (b : Bool) → unread (reads_of h (x ∷ [])) (cond b (x ∷ []) []) ≡ []
      by true = none_unread h (reads_of h (x ∷ [])) (x ∷ []) (λ k i. reads_it h (x ∷ []) k i)
      by false = refl

  looked : found x (list h (whole ReplicaSet) (present h)) ≡ Some set
  looked = ap (λ k. found x (list h (whole k) (present h))) (sym is_set) ∙ found_now h x ∙ is

  has_uid : is_some (uid set) ≡ true
  has_uid =
      subst (λ o. IfSome o (λ d. is_some (uid d) ≡ true)) is (each (state h (present h) x) (last_held x 2 (up_to (present h) h) None tt (AreStored-up_to h (present h) (all_stored h reached))))
    where
      each : (o : Option Data) → IfSome o (λ d. IsHeld x d) → IfSome o (λ d. is_some (uid d) ≡ true)
      each None a = tt
      each (Some d) a = a.1.kept.uid

  was_read : may_adopt set (live (reads_of h (x ∷ [])) x) ≡ true
  was_read = ap (may_adopt set) (first_live h x [] ∙ is) ∙ adopts set has_uid stays

  module _ (none : replica_sets.plan now ≡ []) where
    settled : IsSettled now set
    settled = settled_sets now set looked stays refl (λ some. was_read) none

    declared : IsAsDeclared h x set
    declared =
        let pods = controlled set (pods_looked_at now) in
        let plain = stored_plain h (present h) x set reached is in
        let low : length pods < 2 ^ 63 = few_pods h set x.namespace reached in
        let few : length (ready_pods pods) < 2 ^ 63 = let le = fewer (λ (m : Key × Data). is_ready m.1) pods in omega arith in
        let told = settled.is_reported in
        record {
          just_as_many = settled.just_as_many;
          all_match = settled.all_match;
          no_orphan = settled.no_orphan;
          counts_all = replicas_counted set plain (length pods) (length (ready_pods pods)) low few told;
          counts_ready = ready_counted set plain (length pods) (length (ready_pods pods)) low few told;
          counts_available = available_counted set plain (length pods) (length (ready_pods pods)) low few told;
        }

-- what has happened in a run can happen
reached_at : RunsAreReached → (window workers : ℕ) (initial : InitialSync) (before after : List Step) → IsReached (history (run (run (opened window workers initial) before) after).cluster)
reached_at reach window workers initial before after =
    subst (λ (a : ControlPlane). IsReached (history a.cluster)) (run_both (opened window workers initial) before after) (reach window workers initial (before ++ after))

pub sets_declared : SetsFollow
unfolding asks_by plan_by
sets_declared reach nothing window workers initial before after x set once rest true_references is_set is stays =
    let h = history (run (run (opened window workers initial) before) after).cluster in
    let reached = reached_at reach window workers initial before after in
    declared h x set reached is_set is stays
    (nothing window workers initial before after x set (reads_of h (x ∷ [])) once rest true_references is_set is tt (all_now h (x ∷ []))
    (asked_none h x set reached is_set is stays (found x (list h (whole ReplicaSet) (present h)))))

-- ---- a Deployment

pub deployments_rolled_out : DeploymentsFollow
unfolding asks_by plan_by
deployments_rolled_out nothing window workers initial before after x d once rest true_references is_deployment is may going rolled available =
    let h = history (run (run (opened window workers initial) before) after).cluster in
    let looked : found x (list h (whole Deployment) (present h)) ≡ Some d = ap (λ k. found x (list h (whole k) (present h))) (sym is_deployment) ∙ found_now h x ∙ is in
    rolled_out (present_hand h x []) d looked going rolled may available
    (nothing window workers initial before after x d [] once rest true_references is_deployment is (may, inl rolled) tt refl)

-- ---- what has owners

module _ (h : History) (x : Key) (d : Data) (is : state h (present h) x ≡ Some d) where
  abbrev keys : List Key
  keys = x ∷ owner_keys d

  asked_owners : unread (reads_of h keys) (x ∷ owner_keys_if (live (reads_of h keys) x)) ≡ []
  asked_owners =
      subst (λ o. unread (reads_of h keys) (x ∷ owner_keys_if o) ≡ []) (sym (first_live h x (owner_keys d) ∙ is)) (none_unread h (reads_of h keys) keys (λ k i. reads_it h keys k i))

  there_now : (os : List Owner) → AllByRecursion (Stands (reads_of h keys) (namespace_of d)) os → AllByRecursion (IsThere h (namespace_of d)) os
  there_now [] all = tt
  there_now (o ∷ os) all = (by (owner_key (namespace_of d) o) all.0, there_now os all.1)
    where
      by : (k : Option Key) → IfSome k (λ k. (e : Data) × (live (reads_of h keys) k ≡ Some e) × (is_to e o ≡ true) × (waits_for_dependents e ≡ false))
          → IfSome k (λ k. (e : Data) × (state h (present h) k ≡ Some e) × (is_to e o ≡ true) × (waits_for_dependents e ≡ false))
      by None s = tt
      by (Some k) s = (s.0, live_is h keys k s.0 s.1, s.2, s.3)

pub items_owned : ItemsFollow
unfolding asks_by plan_by
items_owned nothing window workers initial before after x d once rest true_references is stays =
    let h = history (run (run (opened window workers initial) before) after).cluster in
    there_now h x d is (owners d)
    (owned_items (present_hand h x (reads_of h (keys h x d is))) d (first_live h x (owner_keys d) ∙ is) stays
    (nothing window workers initial before after x d (reads_of h (keys h x d is)) once rest true_references tt is tt (all_now h (keys h x d is)) (asked_owners h x d is)))

pub deletions_blocked : DeletionsFollow
unfolding asks_by plan_by
deletions_blocked nothing window workers initial before after x d once rest true_references is going =
    let h = history (run (run (opened window workers initial) before) after).cluster in
    blocked_items (present_hand h x (reads_of h (keys h x d is))) d (first_live h x (owner_keys d) ∙ is) going
    (nothing window workers initial before after x d (reads_of h (keys h x d is)) once rest true_references tt is tt (all_now h (keys h x d is)) (asked_owners h x d is))
