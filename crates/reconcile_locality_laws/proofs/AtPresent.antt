-- An empty plan is empty at present, where nothing that came since owed a look.
use Rattle.std.proofs.Common.{◌<◌, ◌≡◌, ◌⊎◌, inl, inr, ◌≤◌, ◌||◌, ◌&&◌, ℕ, List, [], ◌∷◌, Bool, true, false, cond, filter, not, codes, is_some, IfSome, Option, Some, None, arith, refl, sym, ap, subst, ◌∙◌, ◌^◌, length, bytes_eq}
use Rattle.std.proofs.lemmas.Bool.{eq-eqb}
use Rattle.std.proofs.lemmas.Slice.Eq.{bytes_eq-Decides}
use Rattle.std.specs.List.{AllByRecursion, Contains}
use Rattle.serde_json.specs.Data.{Data}
use Rattle.spec_api.specs.declared.kinds.Kind.{Kind}
use Rattle.spec_api.specs.declared.kinds.Kind.TheVariants.{ConfigMap, Pod, ReplicaSet, Deployment}
use Rattle.spec_api.specs.History.{Entries, History, View, entries_at, found, in_view, list, present, seen, state, up_to}
use Rattle.spec_api.specs.Keys.{Key, key_cmp, is_same_key}
use Rattle.spec_api.specs.Kinds.{rank}
use Rattle.spec_api.specs.Metadata.{is_being_deleted, uid}
use Rattle.spec_api.specs.Reached.{IsReached}
use Rattle.spec_api.specs.SelectorValues.{is_some_and}
use Rattle.spec_api.proofs.PutLaws.{IsAscending, IsAscending-after_all, IsAscending-filter, found-after_all, found-viewed, same_name, sorted_from}
use Rattle.spec_api.proofs.Truths.{and_true, left_true}
use Rattle.spec_client_go.specs.declared.controller.Controller.TheVariants as controller
use Rattle.spec_client_go.specs.Hands.{Hand, Read, each_once, is_read, live, unread}
use Rattle.spec_client_go.specs.Informers.{Looks, of_namespace}
use Rattle.spec_client_go.specs.OwedKeys.{changed, Change, own_key}
use Rattle.spec_client_go.specs.OwnerReferences.{is_text, owner_keys}
use Rattle.spec_reconcile.specs.GarbageCollection as garbage
use Rattle.spec_reconcile.specs.GarbageCollection.{owner_keys_if}
use Rattle.spec_reconcile.specs.PodClaims.{have_one_uid, is_adoptable, may_adopt}
use Rattle.spec_reconcile.specs.Pods.{is_owned, is_ready, is_orphan, matches}
use Rattle.spec_reconcile.specs.ReplicaSets as replica_sets
use Rattle.spec_reconcile.specs.ReplicaSets.{ready_pods, asks_of, has_adoptable, pods_looked_at, set_looked_at}
use Rattle.spec_laws.specs.SentLaws.{whole}
use Rattle.spec_laws.proofs.SentChanges.{name_is}
use Rattle.spec_laws.proofs.SentLists.{Lists, all_listed}
use Rattle.spec_laws.proofs.SentObjects.{IsHeld}
use Rattle.spec_laws.proofs.Stored.{all_stored, last_held, AreStored-up_to}
use Rattle.reconcile_locality_laws.specs.CollectorLocality.{of_kind}
use Rattle.reconcile_locality_laws.specs.DeploymentLocality.{KeepsName}
use Rattle.spec_reconcile.specs.Counts.{count_in_status}
use Rattle.spec_reconcile.specs.Deployments as deployments
use Rattle.reconcile_locality_laws.specs.Differences.{change, OwesNone, AreNamed, IsMap, Led, LedUnowed}
use Rattle.reconcile_locality_laws.specs.SettledAtPresent.{AreLists, DeploymentsAreSettledNow, IsReadNow, DeploymentLeads, ItemLeads, ItemsAreSettledNow, ReferencesAreTrue, SetLeads, SetsAreAsDeclaredNow, SetsAreSettledNow, present_hand, present_looks}
use Rattle.reconcile_locality_laws.proofs.Elements.{In, any_in, in_list}
use Rattle.reconcile_locality_laws.proofs.Owing.{owed_set}
use Rattle.reconcile_locality_laws.proofs.Settled.{settled_sets}
use Rattle.reconcile_locality_laws.proofs.PlainTexts.{stored_plain, replicas_counted, ready_counted, available_counted}
use Rattle.reconcile_locality_laws.specs.SettledSets.{controlled}
use Rattle.spec_laws.proofs.AskedReplicaSets.{fewer}
use Rattle.spec_laws.proofs.Limited.{limited}
use Rattle.reconcile_locality_laws.proofs.StillPlans.{deployment_now, deployments_still, item_same, items_still, set_now, sets_still}
use Rattle.reconcile_locality_laws.proofs.References.{own}

-- ---- lists of a server are maps

owns_all : (k : Kind) (ms : Entries) → AllByRecursion (Lists k) ms → AllByRecursion (λ m. own_key k m.1 ≡ m.0) ms
owns_all k [] a = tt
owns_all k (m ∷ ms) a = (name_is k m.0 a.0.1.0 m.1 a.0.0 a.0.1.1.kept, owns_all k ms a.1)

in_order : (h : History) (v : View) (r : ℕ) → IsAscending key_cmp (list h v r)
in_order h v r = IsAscending-filter key_cmp (λ m. in_view v m.0 m.1) (entries_at h r) (IsAscending-after_all [] (up_to r h) (tt {0}))

pub list_map : (h : History) (k : Kind) (r : ℕ) → IsReached h → IsMap k (list h (whole k) r)
list_map h k r reached = record { in_order = sorted_from (list h (whole k) r) (in_order h (whole k) r); own_keys = owns_all k (list h (whole k) r) (all_listed h k r reached) }

lists_show : (h : History) (v : View) (r : ℕ) (k : Key) → found k (list h v r) ≡ seen v k (state h r k)
lists_show h v r k = found-viewed v k (entries_at h r) (IsAscending-after_all [] (up_to r h) (tt {0})) ∙ ap (seen v k) (found-after_all k [] (up_to r h) (tt {0}))

was_seen : (v : View) (k : Key) (o : Option Data) (d : Data) → seen v k o ≡ Some d → o ≡ Some d
was_seen v k None d h = cc
was_seen v k (Some e) d h = by (in_view v k e) h
  where
    by : (b : Bool) → cond b (Some e) None ≡ Some d → Some e ≡ Some d
    by true h = h
    by false h = cc

-- what a list has under a key is there
pub there : (h : History) (v : View) (r : ℕ) (k : Key) (d : Data) → found k (list h v r) ≡ Some d → state h r k ≡ Some d
there h v r k d at = was_seen v k (state h r k) d (sym (lists_show h v r k) ∙ at)

present_is : (h : History) (k : Kind) → of_kind k (present_looks h) ≡ list h (whole k) (present h)
present_is h ConfigMap = refl
present_is h Pod = refl
present_is h ReplicaSet = refl
present_is h Deployment = refl

-- ---- live reads

read_found : (P : Read → Type 0) (rs : List Read) (k : Key) → AllByRecursion P rs → is_read rs k ≡ true → (r : Read) × P r × (live rs k ≡ r.found) × (r.key ≡ k)
read_found P [] k a is = cc
read_found P (r ∷ rs) k a is = by (is_same_key k r.key) refl (read_found P rs k a.1) is
  where
    by : (b : Bool) → is_same_key k r.key ≡ b → (is_read rs k ≡ true → (r : Read) × P r × (live rs k ≡ r.found) × (r.key ≡ k)) → (b || is_read rs k) ≡ true
        → (q : Read) × P q × (cond b r.found (live rs k) ≡ q.found) × (q.key ≡ k)
    by true e rest is = (r, a.0, refl, sym (same_name k r.key e))
    by false e rest is = rest is

asked_was_read : (rs : List Read) (k : Key) (ks : List Key) → unread rs (k ∷ ks) ≡ [] → is_read rs k ≡ true
asked_was_read rs k ks none = by (is_read rs k) none
  where
    by : (b : Bool) → each_once (cond (not b) (k ∷ filter (λ k. not (is_read rs k)) ks) (filter (λ k. not (is_read rs k)) ks)) ≡ [] → b ≡ true
    by true none = refl
    by false none = cc

-- ---- what was shown

module _ (h : History) (reached : IsReached h) (Shown : Looks → Type 0) (lists : (l : Looks) → Shown l → AreLists h l) where
  pub maps : (l : Looks) (k : Kind) → Shown l → IsMap k (of_kind k l)
  maps l k is = let at = lists l is k in subst (IsMap k) (sym at.2) (list_map h k at.0 reached)

  pub last : (k : Kind) → IsMap k (of_kind k (present_looks h))
  last k = subst (IsMap k) (sym (present_is h k)) (list_map h k (present h) reached)

  module _ (true_references : ReferencesAreTrue h) where
    -- references in what was shown name what was there at some time
    shown_named : (l : Looks) (k : Kind) (r : ℕ) (x : Key) (d : Data) → Shown l → r ≤ present h → state h r x ≡ Some d → AreNamed x d (of_kind k l)
    shown_named l k r x d is low at = let of = lists l is k in subst (AreNamed x d) (sym of.2) (true_references r of.0 x d k low of.1 at)

    present_named : (k : Kind) (r : ℕ) (x : Key) (d : Data) → r ≤ present h → state h r x ≡ Some d → AreNamed x d (of_kind k (present_looks h))
    present_named k r x d low at = subst (AreNamed x d) (sym (present_is h k)) (true_references r (present h) x d k low (omega arith) at)

-- ---- a ReplicaSet

pub adopts : (set : Data) → is_some (uid set) ≡ true → is_being_deleted set ≡ false → may_adopt set (Some set) ≡ true
adopts set some stays = and_true (have_one_uid set set) (not (is_being_deleted set)) (by (uid set) refl some) (ap not stays)
  where
    by : (o : Option (List ℕ)) → uid set ≡ o → is_some o ≡ true → is_some_and (λ u. is_text u (uid set)) o ≡ true
    by None at some = cc
    by (Some u) at some = ap (is_text u) at ∙ (bytes_eq-Decides u u).1 refl

stays_if_adoptable : (set : Data) (pods : Entries) → has_adoptable set pods ≡ true → is_being_deleted set ≡ false
stays_if_adoptable set pods some =
    let one = any_in (λ (p : Key × Data). is_adoptable set p.1) pods some in
    by (is_being_deleted set) (left_true (not (is_being_deleted set)) (is_orphan one.0.1) (left_true (not (is_being_deleted set) && is_orphan one.0.1) (matches set one.0.1) one.2))
  where
    by : (b : Bool) → not b ≡ true → b ≡ false
    by true h = cc
    by false h = refl

module _ (h : History) (Shown : Looks → Type 0) (x : Hand) (reads : List Read) (reached : IsReached h) (true_references : ReferencesAreTrue h) (leads : SetLeads h Shown x) where
  abbrev now : Hand
  now = present_hand h x reads

  still_set : (l : Looks) (y : Key) → Shown l → LedUnowed controller.ReplicaSet x.key Shown y.kind y (found y (of_kind y.kind l)) (found y (of_kind y.kind (present_looks h)))
  still_set l y is = leads.leads l is y

  -- it is there now as it was looked at
  present_set : (set : Data) → set_looked_at x ≡ Some set → found x.key (list h (whole ReplicaSet) (present h)) ≡ Some set
  present_set set looked =
      sym (set_now Shown x now leads.sets.0 leads.pods.0 leads.sets.1 leads.pods.1 (maps h reached Shown leads.lists) (last h reached Shown leads.lists) leads.sets.2 leads.pods.2 still_set leads.sets.0 leads.sets.1)
      ∙ sym (ap (found x.key) leads.sets.2) ∙ looked

  stands : (set : Data) → set_looked_at x ≡ Some set → state h (present h) x.key ≡ Some set
  stands set looked = there h (whole ReplicaSet) (present h) x.key set (present_set set looked)

  has_uid : (set : Data) → set_looked_at x ≡ Some set → is_some (uid set) ≡ true
  has_uid set looked =
      subst (λ o. IfSome o (λ d. is_some (uid d) ≡ true)) (stands set looked) (each (state h (present h) x.key) (last_held x.key 2 (up_to (present h) h) None tt (AreStored-up_to h (present h) (all_stored h reached))))
    where
      each : (o : Option Data) → IfSome o (λ d. IsHeld x.key d) → IfSome o (λ d. is_some (uid d) ≡ true)
      each None a = tt
      each (Some d) a = a.1.kept.uid

  own_set : (set : Data) → set_looked_at x ≡ Some set → own_key ReplicaSet set ≡ x.key
  own_set set looked = own ReplicaSet (list h (whole ReplicaSet) (present h)) x.key set (list_map h ReplicaSet (present h) reached) (present_set set looked)

  -- what is there in the end, and owed no look, was there
  set_same : (set : Data) → own_key ReplicaSet set ≡ x.key → (os : List (Option Data)) (old new : Option Data) → Led (OwesNone controller.ReplicaSet x.key Shown) ReplicaSet x.key old os new → new ≡ Some set → old ≡ Some set
  set_same set owned [] old new same there = same ∙ there
  set_same set owned (o ∷ os) old new led there =
      let before : o ≡ Some set = set_same set owned os o new led.2 there in
      absurd (led.0.2 (owed_set (change ReplicaSet old o) led.0.0 x.key (subst (λ (o : Option Data). In (changed (change ReplicaSet old o)) x.key) (sym before) (inl owned))))

  asked : (set : Data) → set_looked_at x ≡ Some set → has_adoptable set (pods_looked_at x) ≡ true → asks_of x (set_looked_at x) ≡ x.key ∷ []
  asked set looked some = ap (asks_of x) looked ∙ ap (λ b. cond b (x.key ∷ []) []) some

  -- where a pod was to be adopted, the live read said that it may be
  might : replica_sets.asks x ≡ [] → (set : Data) → set_looked_at x ≡ Some set → has_adoptable set (pods_looked_at x) ≡ true → may_adopt set (live x.reads x.key) ≡ true
  might none set looked some =
      let owned = own_set set looked in
      let is_set : x.key.kind ≡ ReplicaSet = ap (λ (k : Key). k.kind) (sym owned) in
      let read =
      read_found (λ (r : Read). LedUnowed controller.ReplicaSet x.key Shown r.key.kind r.key r.found (state h (present h) r.key)) x.reads x.key leads.reads
      (asked_was_read x.reads x.key [] (sym (ap (unread x.reads) (asked set looked some)) ∙ none))
      in
      let led : LedUnowed controller.ReplicaSet x.key Shown x.key.kind x.key read.0.found (state h (present h) x.key) =
      subst (λ (k : Key). LedUnowed controller.ReplicaSet x.key Shown k.kind k read.0.found (state h (present h) k)) read.3 read.1
      in
      let one : LedUnowed controller.ReplicaSet x.key Shown ReplicaSet x.key read.0.found (state h (present h) x.key) =
      subst (λ (k : Kind). LedUnowed controller.ReplicaSet x.key Shown k x.key read.0.found (state h (present h) x.key)) is_set led
      in
      let found_then : live x.reads x.key ≡ Some set = read.2 ∙ set_same set owned one.0 read.0.found (state h (present h) x.key) one.1 (stands set looked) in
      ap (may_adopt set) found_then ∙ adopts set (has_uid set looked) (stays_if_adoptable set (pods_looked_at x) some)

  may_now : AllByRecursion (IsReadNow h) reads → replica_sets.asks now ≡ [] → (set : Data) → set_looked_at x ≡ Some set → has_adoptable set (of_namespace x.key.namespace now.looks.pods) ≡ true
      → may_adopt set (live reads x.key) ≡ true
  may_now all none set looked some =
      let asks : asks_of now (set_looked_at now) ≡ x.key ∷ [] = ap (asks_of now) (present_set set looked) ∙ ap (λ b. cond b (x.key ∷ []) []) some in
      let read = read_found (IsReadNow h) reads x.key all (asked_was_read reads x.key [] (sym (ap (unread reads) asks) ∙ none)) in
      let found_now : live reads x.key ≡ Some set = read.2 ∙ read.1 ∙ ap (state h (present h)) read.3 ∙ stands set looked in
      ap (may_adopt set) found_now ∙ adopts set (has_uid set looked) (stays_if_adoptable set (of_namespace x.key.namespace now.looks.pods) some)

  pub set_settled : replica_sets.asks x ≡ [] → replica_sets.plan x ≡ [] → AllByRecursion (IsReadNow h) reads → replica_sets.asks now ≡ [] → replica_sets.plan now ≡ []
  set_settled asks none all later =
      sets_still Shown x now leads.sets.0 leads.pods.0 leads.sets.1 leads.pods.1 (maps h reached Shown leads.lists) (last h reached Shown leads.lists) leads.sets.2 leads.pods.2 still_set refl refl
      (λ set looked before after. may_now all later set looked after ∙ sym (might asks set looked before))
      (λ set looked. (
        subst (AreNamed x.key set) (sym leads.pods.2) (shown_named h reached Shown leads.lists true_references leads.pods.0 Pod (present h) x.key set leads.pods.1 (omega arith) (stands set looked)),
        present_named h reached Shown leads.lists true_references Pod (present h) x.key set (omega arith) (stands set looked),
      ))
      none

pub sets_settled_now : SetsAreSettledNow
sets_settled_now h shown x reads reached true_references leads asks none all later = set_settled h (Contains shown) x reads reached true_references leads asks none all later

-- there are no more pods than objects
pub few_pods : (h : History) (set : Data) (ns : List ℕ) → IsReached h → length (controlled set (of_namespace ns (list h (whole Pod) (present h)))) < 2 ^ 63
few_pods h set ns reached =
    let all = (limited h reached).0 in
    let listed = fewer (λ (m : Key × Data). in_view (whole Pod) m.0 m.1) (entries_at h (present h)) in
    let near = fewer (λ (m : Key × Data). bytes_eq m.0.namespace ns) (list h (whole Pod) (present h)) in
    let own = fewer (λ (m : Key × Data). is_owned set m.1) (of_namespace ns (list h (whole Pod) (present h))) in
    omega arith

pub sets_declared_now : SetsAreAsDeclaredNow
sets_declared_now h shown x set reads reached true_references leads asks none looked satisfied stays all later =
    let now = present_hand h x reads in
    let is = settled_sets now set (present_set h (Contains shown) x reads reached true_references leads set looked) stays satisfied
    (λ some. may_now h (Contains shown) x reads reached true_references leads all later set looked some) (set_settled h (Contains shown) x reads reached true_references leads asks none all later)
    in
    let pods = controlled set (pods_looked_at now) in
    let plain = stored_plain h (present h) x.key set reached (stands h (Contains shown) x reads reached true_references leads set looked) in
    let low : length pods < 2 ^ 63 = few_pods h set x.key.namespace reached in
    let few : length (ready_pods pods) < 2 ^ 63 = let le = fewer (λ (m : Key × Data). is_ready m.1) pods in omega arith in (
      is,
      record {
        all = replicas_counted set plain (length pods) (length (ready_pods pods)) low few is.is_reported;
        ready = ready_counted set plain (length pods) (length (ready_pods pods)) low few is.is_reported;
        available = available_counted set plain (length pods) (length (ready_pods pods)) low few is.is_reported;
      },
    )

-- ---- a Deployment

pub deployment_settled : (h : History) (Shown : Looks → Type 0) (x : Hand) (d : Data) (reads : List Read) → IsReached h → ReferencesAreTrue h → DeploymentLeads h Shown x → found x.key x.looks.deployments ≡ Some d
    → count_in_status (codes "collisionCount") d < 2147483647 → KeepsName x (present_hand h x reads) d → deployments.plan x ≡ [] → deployments.plan (present_hand h x reads) ≡ []
deployment_settled h Shown x d reads reached true_references leads looked low keeps none =
    let maps_of = maps h reached Shown leads.lists in
    let deps = leads.deployments in
    let sets = leads.sets in
    let pods = leads.pods in
    let at_deps = leads.lists deps.0 deps.1 Deployment in
    let at_sets = leads.lists sets.0 sets.1 ReplicaSet in
    let was : state h at_deps.0 x.key ≡ Some d = there h (whole Deployment) at_deps.0 x.key d (sym (ap (found x.key) at_deps.2) ∙ sym (ap (found x.key) deps.2) ∙ looked) in
    deployments_still Shown x (present_hand h x reads) d deps.0 sets.0 pods.0 deps.1 sets.1 pods.1 maps_of (last h reached Shown leads.lists) deps.2 sets.2 pods.2
    (λ l y is. leads.leads l is y)
    looked (λ l is. shown_named h reached Shown leads.lists true_references l ReplicaSet at_deps.0 x.key d is at_deps.1 was)
    (present_named h reached Shown leads.lists true_references ReplicaSet at_deps.0 x.key d at_deps.1 was) refl
    (λ y s at.
    let stood : state h at_sets.0 y ≡ Some s = there h (whole ReplicaSet) at_sets.0 y s (sym (ap (found y) at_sets.2) ∙ sym (ap (found y) sets.2) ∙ at) in
    subst (AreNamed y s) (sym pods.2) (shown_named h reached Shown leads.lists true_references pods.0 Pod at_sets.0 y s pods.1 at_sets.1 stood))
    low keeps none

pub deployment_settled_now : (h : History) (Shown : Looks → Type 0) (x : Hand) (reads : List Read) → IsReached h → ReferencesAreTrue h → DeploymentLeads h Shown x
    → ((d : Data) → found x.key x.looks.deployments ≡ Some d → (count_in_status (codes "collisionCount") d < 2147483647) × KeepsName x (present_hand h x reads) d) → deployments.plan x ≡ []
    → deployments.plan (present_hand h x reads) ≡ []
deployment_settled_now h Shown x reads reached true_references leads few none = by (found x.key x.looks.deployments) refl
  where
    same : found x.key x.looks.deployments ≡ found x.key (present_looks h).deployments
    same =
        ap (found x.key) leads.deployments.2
        ∙ deployment_now Shown x.key (present_looks h) (maps h reached Shown leads.lists) (last h reached Shown leads.lists) (λ l y is. leads.leads l is y) leads.deployments.0 leads.deployments.1

    by : (o : Option Data) → found x.key x.looks.deployments ≡ o → deployments.plan (present_hand h x reads) ≡ []
    by None at = ap (deployments.plan_of x.key (present_looks h)) (sym same ∙ at)
    by (Some d) at = deployment_settled h Shown x d reads reached true_references leads at (few d at).0 (few d at).1 none

pub deployments_settled_now : DeploymentsAreSettledNow
deployments_settled_now h shown x reads reached true_references leads few none = deployment_settled_now h (Contains shown) x reads reached true_references leads few none

-- ---- what the garbage collector looks at

seen_own : (k : Key) (o : Option Data) → seen (whole k.kind) k o ≡ o
seen_own k None = refl
seen_own k (Some d) = ap (λ b. cond (((b && true) && true) && true) (Some d) None) (eq-eqb (rank k.kind) (rank k.kind) refl)

none_left : (rs : List Read) (ks : List Key) → unread rs ks ≡ [] → (k : Key) → In ks k → is_read rs k ≡ true
none_left rs [] none k i = absurd i
none_left rs (j ∷ ks) none k i = by (is_read rs j) refl none i (none_left rs ks)
  where
    by : (b : Bool) → is_read rs j ≡ b → each_once (cond (not b) (j ∷ filter (λ k. not (is_read rs k)) ks) (filter (λ k. not (is_read rs k)) ks)) ≡ [] → (j ≡ k) ⊎ In ks k
        → (unread rs ks ≡ [] → (k : Key) → In ks k → is_read rs k ≡ true) → is_read rs k ≡ true
    by true e none (inl is) rest = ap (is_read rs) (sym is) ∙ e
    by true e none (inr i) rest = rest none k i
    by false e none i rest = cc

-- what the present list of its kind has under a key is what is there
pub found_now : (h : History) (x : Key) → found x (list h (whole x.kind) (present h)) ≡ state h (present h) x
found_now h x = lists_show h (whole x.kind) (present h) x ∙ seen_own x (state h (present h) x)

module _ (h : History) (Shown : Looks → Type 0) (x : Hand) (reads : List Read) (reached : IsReached h) (true_references : ReferencesAreTrue h) (leads : ItemLeads h Shown x) (asks : garbage.asks x ≡ [])
    (all : AllByRecursion (IsReadNow h) reads) (later : garbage.asks (present_hand h x reads) ≡ []) where
  abbrev Q : Change → Type 0
  Q = OwesNone controller.Collector x.key Shown

  -- what was read leads to what is read now
  led_read : (y : Key) → is_read x.reads y ≡ true → is_read reads y ≡ true → (os : List (Option Data)) × Led Q y.kind y (live x.reads y) os (live reads y)
  led_read y before is =
      let old = read_found (λ (r : Read). (os : List (Option Data)) × Led Q r.key.kind r.key r.found os (state h (present h) r.key)) x.reads y leads.reads before in
      let new = read_found (IsReadNow h) reads y all is in
      let found_now : live reads y ≡ state h (present h) y = new.2 ∙ new.1 ∙ ap (state h (present h)) new.3 in
      let led : (os : List (Option Data)) × Led Q y.kind y old.0.found os (state h (present h) y) =
      subst (λ (k : Key). (os : List (Option Data)) × Led Q k.kind k old.0.found os (state h (present h) k)) old.3 old.1
      in
      subst (λ o. (os : List (Option Data)) × Led Q y.kind y o os (live reads y)) (sym old.2) (subst (λ o. (os : List (Option Data)) × Led Q y.kind y old.0.found os o) (sym found_now) led)

  item_led : (os : List (Option Data)) × Led Q x.key.kind x.key (live x.reads x.key) os (live reads x.key)
  item_led =
      led_read x.key (none_left x.reads (x.key ∷ owner_keys_if (live x.reads x.key)) asks x.key (inl refl)) (none_left reads (x.key ∷ owner_keys_if (live reads x.key)) later x.key (inl refl))

  read_now : live reads x.key ≡ found x.key (of_kind x.key.kind (present_looks h))
  read_now =
      let new = read_found (IsReadNow h) reads x.key all (none_left reads (x.key ∷ owner_keys_if (live reads x.key)) later x.key (inl refl)) in
      new.2 ∙ new.1 ∙ ap (state h (present h)) new.3 ∙ sym (ap (found x.key) (present_is h x.key.kind) ∙ lists_show h (whole x.key.kind) (present h) x.key ∙ seen_own x.key (state h (present h) x.key))

  stands_now : (d : Data) → live reads x.key ≡ Some d → state h (present h) x.key ≡ Some d
  stands_now d read = there h (whole x.key.kind) (present h) x.key d (sym (ap (found x.key) (present_is h x.key.kind)) ∙ sym read_now ∙ read)

  same_item : (d : Data) → live reads x.key ≡ Some d → live x.reads x.key ≡ Some d
  same_item d read =
      item_same x.key Shown d (own x.key.kind (list h (whole x.key.kind) (present h)) x.key d (list_map h x.key.kind (present h) reached) (sym (ap (found x.key) (present_is h x.key.kind)) ∙ sym read_now ∙ read))
      item_led.0 (live x.reads x.key) (live reads x.key) item_led.1 read

  owner_led : (d : Data) (y : Key) → live reads x.key ≡ Some d → Contains (owner_keys d) y → (os : List (Option Data)) × Led Q y.kind y (live x.reads y) os (live reads y)
  owner_led d y read owner =
      let i = in_list (owner_keys d) y owner in
      led_read y (none_left x.reads (x.key ∷ owner_keys d) (subst (λ o. unread x.reads (x.key ∷ owner_keys_if o) ≡ []) (same_item d read) asks) y (inr i))
      (none_left reads (x.key ∷ owner_keys d) (subst (λ o. unread reads (x.key ∷ owner_keys_if o) ≡ []) read later) y (inr i))

  pub item_settled : garbage.plan x ≡ [] → garbage.plan (present_hand h x reads) ≡ []
  item_settled none =
      items_still Shown x (present_hand h x reads) (λ k. (leads.looked k).0) (λ k. (leads.looked k).1) (λ k. (leads.looked k).2) (maps h reached Shown leads.lists) (last h reached Shown leads.lists) refl read_now
      (λ l y is. leads.leads l is y) item_led owner_led
      (λ d k read. subst (AreNamed x.key d) (sym (leads.looked k).2) (shown_named h reached Shown leads.lists true_references (leads.looked k).0 k (present h) x.key d (leads.looked k).1 (omega arith) (stands_now d read)))
      none

pub items_settled_now : ItemsAreSettledNow
items_settled_now h shown x reads reached true_references leads asks none all later = item_settled h (Contains shown) x reads reached true_references leads asks all later none
