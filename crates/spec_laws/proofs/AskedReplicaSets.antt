-- The commands of the ReplicaSet controller and the collector can be asked.
use Rattle.std.proofs.Common.{◌≡◌, ◌<◌, ◌≤◌, ◌^◌, ◌&&◌, ℕ, zero, suc, List, [], ◌∷◌, ◌++◌, length, map, filter, flat_map, replicate, Bool, true, false, not, cond, Option, Some, None, IfSome, codes, bytes_eq, sym, refl, subst, arith}
use Rattle.std.specs.BTreeMap.{is_at}
use Rattle.std.specs.List.{AllByRecursion, list_all, list_any}
use Rattle.serde_json.specs.Data.{Data, object, put}
use Rattle.spec_api.specs.declared.kinds.Kind.TheVariants.{Pod}
use Rattle.spec_api.specs.Checks.{finalizers, has_text}
use Rattle.spec_api.specs.Defaults.{unsigned_value}
use Rattle.spec_api.specs.declared.policies.Policy.TheVariants.{Foreground}
use Rattle.spec_api.specs.Deletion.{orphan, foreground}
use Rattle.spec_api.specs.History.{Entries, found}
use Rattle.spec_api.specs.Keys.{Key, key_cmp, is_same_key, is_namespace, is_subdomain}
use Rattle.spec_api.specs.Metadata.{Owner, is_being_deleted, uid}
use Rattle.spec_api.specs.Reached.{IsParsed}
use Rattle.spec_api.specs.Replacements.{generation, says_the_same}
use Rattle.spec_api.proofs.PutLaws.{same_name}
use Rattle.spec_client_go.specs.Commands.{Command, create, update, delete, answered}
use Rattle.spec_client_go.specs.Hands.{Hand, Read, live}
use Rattle.spec_client_go.specs.Informers.{of_owner}
use Rattle.spec_client_go.specs.OwnerReferences.{namespace_of}
use Rattle.spec_laws.proofs.Parsed.{Both, Both-set}
use Rattle.spec_reconcile.specs.GarbageCollection as garbage
use Rattle.spec_reconcile.specs.MetadataEdits.{keeping_owners, without_finalizer, blocking_nobody}
use Rattle.spec_reconcile.specs.NewPods.{new_pod}
use Rattle.spec_reconcile.specs.PodClaims.{is_to_controller, is_released, is_adoptable, is_own, may_adopt, own_pods, released, adopted, claim, claims}
use Rattle.spec_reconcile.specs.PodRanks.{missing, victims}
use Rattle.spec_reconcile.specs.Pods.{is_ready}
use Rattle.spec_reconcile.specs.ReplicaSets.{set_looked_at, pods_looked_at, delete_pod, scale, scale_if, ready_pods, with_counts, new_status, report, plan_with, plan_of, replicas}
use Rattle.spec_reconcile.specs.Standings.{standing, standings, is_solid, is_to, waits_for_dependents, dependents, with_owner_if}
use Rattle.spec_reconcile.specs.Statuses.{status}
use Rattle.spec_laws.specs.AskedLaws.{IsStoredAs, AreStored, IsOfServer, CanBeAsked, AllCanBeAsked}
use Rattle.spec_laws.proofs.AskedEdits.{keeping_parsed, without_parsed, nobody_parsed, controlled_parsed, pod_parsed, generation_low, status_both, status_parsed}
use Rattle.spec_laws.proofs.DeploymentPlans.{all_kept}
use Rattle.spec_laws.proofs.Permuted.{all_joined}

-- ---- lists

pub found_all : (P : Key → Data → Type 0) (k : Key) (ms : Entries) → AllByRecursion (λ (m : Key × Data). P m.0 m.1) ms → IfSome (found k ms) (P k)
found_all P k [] a = tt
found_all P k (m ∷ ms) a = by (is_at (key_cmp k) m.0) refl (found_all P k ms a.1)
  where
    by : (b : Bool) → is_same_key k m.0 ≡ b → IfSome (found k ms) (P k) → IfSome (cond b (Some m.1) (found k ms)) (P k)
    by true e rest = subst (λ x. P x m.1) (sym (same_name k m.0 e)) a.0
    by false e rest = rest

pub each_command : {A : Type 0} (P : A → Type 0) (f : A → List Command) → ((a : A) → P a → AllCanBeAsked (f a)) → (xs : List A) → AllByRecursion P xs → AllCanBeAsked (flat_map f xs)
each_command P f one [] a = tt
each_command P f one (x ∷ xs) a = all_joined CanBeAsked (f x) (flat_map f xs) (one x a.0) (each_command P f one xs a.1)

pub one_command : {A : Type 0} (P : A → Type 0) (f : A → Command) → ((a : A) → P a → CanBeAsked (f a)) → (xs : List A) → AllByRecursion P xs → AllCanBeAsked (map f xs)
one_command P f one [] a = tt
one_command P f one (x ∷ xs) a = (one x a.0, one_command P f one xs a.1)

pub either : (b : Bool) (xs ys : List Command) → AllCanBeAsked xs → AllCanBeAsked ys → AllCanBeAsked (cond b xs ys)
either true xs ys p q = p
either false xs ys p q = q

pub fewer : {A : Type 0} (t : A → Bool) (xs : List A) → length (filter t xs) ≤ length xs
fewer t [] = omega arith
fewer t (x ∷ xs) = by (t x) (fewer t xs)
  where
    by : (b : Bool) → length (filter t xs) ≤ length xs → length (cond b (x ∷ filter t xs) (filter t xs)) ≤ suc (length xs)
    by true le = omega arith
    by false le = omega arith

-- ---- ReplicaSets

module _ (k : Key) (set : Data) (valid : is_subdomain k.name ≡ true) (space : is_namespace k.namespace ≡ true) (p : IsParsed set) where
  claim_asked : (may : Bool) (m : Key × Data) → IsStoredAs m.0 m.1 → AllCanBeAsked (claim k set may m)
  claim_asked may m is =
      either (is_released set m.1) (update m.0 (released set m.1) ∷ []) (cond (may && is_adoptable set m.1) (update m.0 (adopted k set m.1) ∷ []) []) (keeping_parsed (λ o. not (is_to_controller set o)) m.1 is.0, tt)
      (either (may && is_adoptable set m.1) (update m.0 (adopted k set m.1) ∷ []) [] (controlled_parsed k set m.1 valid p is.0, tt) tt)

  copies_asked : (n : ℕ) → AllCanBeAsked (replicate n (create Pod k.namespace (new_pod k set)))
  copies_asked zero = tt
  copies_asked (suc n) = ((space, pod_parsed k set valid p), copies_asked n)

  deletes_asked : (ms : Entries) → AllCanBeAsked (map delete_pod ms)
  deletes_asked [] = tt
  deletes_asked (m ∷ ms) = (tt, deletes_asked ms)

  scale_asked : (b : Bool) (pods : Entries) → AllCanBeAsked (scale_if b k set pods)
  scale_asked b pods =
      either (b && not (is_being_deleted set)) (scale k set pods) []
      (all_joined CanBeAsked (replicate (missing (replicas set) pods) (create Pod k.namespace (new_pod k set))) (map delete_pod (victims (replicas set) pods)) (copies_asked (missing (replicas set) pods))
      (deletes_asked (victims (replicas set) pods)))
      tt

  counts_both : (n ready : ℕ) → n < 2 ^ 64 → ready < 2 ^ 64 → Both (with_counts n ready (generation set) (status set))
  counts_both n ready low few =
      let a = put (codes "observedGeneration") (unsigned_value (generation set)) (status set) in
      let b = put (codes "availableReplicas") (unsigned_value ready) a in
      let c = put (codes "readyReplicas") (unsigned_value ready) b in
      let from_a : Both a = Both-set (codes "observedGeneration") refl (unsigned_value (generation set)) (status set) (generation_low set p) (status_both set p) in
      let from_b : Both b = Both-set (codes "availableReplicas") refl (unsigned_value ready) a few from_a in
      let from_c : Both c = Both-set (codes "readyReplicas") refl (unsigned_value ready) b few from_b in
      Both-set (codes "replicas") refl (unsigned_value n) c low from_c

  report_asked : (pods : Entries) → length pods < 2 ^ 64 → AllCanBeAsked (report k set pods)
  report_asked pods low =
      let ready : length (ready_pods pods) < 2 ^ 64 = let le = fewer (λ (m : Key × Data). is_ready m.1) pods in omega arith in
      either (says_the_same (object (status set)) (object (new_status set pods))) [] _ tt
      (status_parsed (new_status set pods) set (counts_both (length pods) (length (ready_pods pods)) low ready) p, tt)

  pub set_asked : (b may : Bool) (pods : Entries) → AreStored pods → length pods < 2 ^ 64 → AllCanBeAsked (plan_with b k set may pods)
  set_asked b may pods stored low =
      let own = own_pods set may pods in
      let few : length own < 2 ^ 64 = let le = fewer (λ (m : Key × Data). is_own set may m.1) pods in omega arith in
      all_joined CanBeAsked (claims k set may pods) (scale_if b k set own ++ report k set own) (each_command (λ (m : Key × Data). IsStoredAs m.0 m.1) (claim k set may) (claim_asked may) pods stored)
      (all_joined CanBeAsked (scale_if b k set own) (report k set own) (scale_asked b own) (report_asked own few))

pub sets_asked : (h : Hand) → IsOfServer h → AllCanBeAsked (plan_of h (set_looked_at h))
sets_asked h is = by (set_looked_at h) (found_all IsStoredAs h.key h.looks.replica_sets is.replica_sets)
  where
    by : (o : Option Data) → IfSome o (IsStoredAs h.key) → AllCanBeAsked (plan_of h o)
    by None a = tt
    by (Some set) a =
        let low : length (pods_looked_at h) < 2 ^ 64 = let le = fewer (λ (m : Key × Data). bytes_eq m.0.namespace h.key.namespace) h.looks.pods in let few = is.few in omega arith in
        set_asked h.key set a.2 a.1 a.0 h.is_satisfied (may_adopt set (live h.reads h.key)) (pods_looked_at h) (all_kept (λ (m : Key × Data). IsStoredAs m.0 m.1) _ h.looks.pods is.pods) low

-- ---- the collector

live_parsed : (k : Key) (rs : List Read) → AllByRecursion (λ (r : Read). IfSome r.found IsParsed) rs → IfSome (live rs k) IsParsed
live_parsed k [] a = tt
live_parsed k (r ∷ rs) a = by (is_same_key k r.key) (live_parsed k rs a.1)
  where
    by : (b : Bool) → IfSome (live rs k) IsParsed → IfSome (cond b r.found (live rs k)) IsParsed
    by true rest = a.0
    by false rest = rest

abbrev IsAt : Key × Data → Type 0
IsAt m = IsStoredAs m.0 m.1

dependents_stored : (h : Hand) (d : Data) → IsOfServer h → AreStored (dependents h.looks d)
dependents_stored h d is = by (uid d)
  where
    of : (u : List ℕ) (ms : Entries) → AreStored ms → AreStored (of_owner u ms)
    of u ms a = all_kept IsAt _ ms a

    by : (o : Option (List ℕ)) → AreStored (with_owner_if h.looks o)
    by None = tt
    by (Some u) =
        all_joined IsAt (of_owner u h.looks.config_maps) (of_owner u h.looks.pods ++ (of_owner u h.looks.replica_sets ++ of_owner u h.looks.deployments)) (of u h.looks.config_maps is.config_maps)
        (all_joined IsAt (of_owner u h.looks.pods) (of_owner u h.looks.replica_sets ++ of_owner u h.looks.deployments) (of u h.looks.pods is.pods)
        (all_joined IsAt (of_owner u h.looks.replica_sets) (of_owner u h.looks.deployments) (of u h.looks.replica_sets is.replica_sets) (of u h.looks.deployments is.deployments)))

module _ (k : Key) (d : Data) (p : IsParsed d) (ms : Entries) (stored : AreStored ms) where
  finish_asked : AllCanBeAsked (garbage.finish k d ms)
  finish_asked =
      either (has_text (finalizers d) orphan) (garbage.orphaned d ms ++ update k (without_finalizer orphan d) ∷ [])
      (cond (has_text (finalizers d) foreground && not (garbage.is_blocked d ms)) (update k (without_finalizer foreground d) ∷ []) [])
      (all_joined CanBeAsked (garbage.orphaned d ms) (update k (without_finalizer orphan d) ∷ []) (one_command IsAt (λ m. update m.0 (keeping_owners (λ o. not (is_to d o)) m.1)) (λ m is. keeping_parsed (λ o. not (is_to d o)) m.1 is.0) ms stored) (without_parsed orphan d p, tt))
      (either (has_text (finalizers d) foreground && not (garbage.is_blocked d ms)) (update k (without_finalizer foreground d) ∷ []) [] (without_parsed foreground d p, tt) tt)

  cut_asked : (b : Bool) → AllCanBeAsked (cond b (update k (blocking_nobody d) ∷ delete k (uid d) (Some answered) (Some Foreground) ∷ []) (garbage.remove k d Foreground))
  cut_asked true = (nobody_parsed d p, (tt, tt))
  cut_asked false = (tt, tt)

  collect_asked : (reads : List Read) → AllCanBeAsked (garbage.collect reads k d ms)
  collect_asked reads =
      let keeps = λ (o : Owner). is_solid (standing reads (namespace_of d) o) in
      let between = garbage.is_between (standings reads d) ms in
      let last = cond between (garbage.remove_after k d ms) (garbage.remove k d (garbage.own_policy d)) in
      let kept = update k (keeping_owners keeps d) ∷ [] in
      let lasts : AllCanBeAsked last =
      either between (garbage.remove_after k d ms) (garbage.remove k d (garbage.own_policy d)) (cut_asked (list_any (λ (m : Key × Data). waits_for_dependents m.1) ms)) (tt, tt) in
      either (list_all is_solid (standings reads d)) [] (cond (list_any is_solid (standings reads d)) kept last) tt
      (either (list_any is_solid (standings reads d)) kept last (keeping_parsed keeps d p, tt) lasts)

pub collector_asked : (h : Hand) → IsOfServer h → AllCanBeAsked (garbage.plan_for h (live h.reads h.key))
collector_asked h is = by (live h.reads h.key) (live_parsed h.key h.reads is.reads)
  where
    by : (o : Option Data) → IfSome o IsParsed → AllCanBeAsked (garbage.plan_for h o)
    by None a = tt
    by (Some d) a =
        either (is_being_deleted d) (garbage.finish h.key d (dependents h.looks d)) (garbage.collect h.reads h.key d (dependents h.looks d))
        (finish_asked h.key d a (dependents h.looks d) (dependents_stored h d is)) (collect_asked h.key d a (dependents h.looks d) (dependents_stored h d is) h.reads)
