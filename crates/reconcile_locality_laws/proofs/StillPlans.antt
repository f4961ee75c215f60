-- Where all that was shown since leads to what is there now by changes that owed no look at a key, an empty plan for it is empty still.
use Rattle.std.proofs.Common.{◌≡◌, ◌<◌, ◌++◌, inl, List, [], ◌∷◌, true, codes, IfSome, Option, Some, None, option_map, refl, sym, ap, subst, ◌∙◌}
use Rattle.std.specs.List.{Contains}
use Rattle.serde_json.specs.Data.{Data}
use Rattle.spec_api.specs.declared.kinds.Kind.{Kind}
use Rattle.spec_api.specs.declared.kinds.Kind.TheVariants.{Pod, ReplicaSet, Deployment}
use Rattle.spec_api.specs.History.{Entries, found}
use Rattle.spec_api.specs.Keys.{Key}
use Rattle.spec_client_go.specs.declared.controller.Controller.TheVariants as controller
use Rattle.spec_client_go.specs.Hands.{Hand, live}
use Rattle.spec_client_go.specs.Informers.{Looks, of_namespace}
use Rattle.spec_client_go.specs.OwedKeys.{Change, dependents_left, itself, of_both, one_of, own_key}
use Rattle.spec_client_go.specs.OwnerReferences.{controller_keys, owner_keys}
use Rattle.spec_reconcile.specs.Counts.{count_in_status}
use Rattle.spec_reconcile.specs.Deployments as deployments
use Rattle.spec_reconcile.specs.Deployments.{is_managed_by}
use Rattle.spec_reconcile.specs.GarbageCollection as garbage
use Rattle.spec_reconcile.specs.PodClaims.{may_adopt}
use Rattle.spec_reconcile.specs.ReplicaSets as replica_sets
use Rattle.spec_reconcile.specs.ReplicaSets.{has_adoptable, pods_looked_at, set_looked_at}
use Rattle.reconcile_locality_laws.specs.CollectorLocality.{ShowsItem, of_kind}
use Rattle.reconcile_locality_laws.specs.DeploymentLocality.{KeepsName, ShowsSets}
use Rattle.reconcile_locality_laws.specs.Differences.{AreNamed, IsMap, Led, LedUnowed, OwesNone, Unowed, change}
use Rattle.reconcile_locality_laws.specs.ReplicaSetLocality.{ShowsSet}
use Rattle.reconcile_locality_laws.proofs.DeploymentTurns.{stay_settled as deployment_stays}
use Rattle.reconcile_locality_laws.proofs.Elements.{In, in_left}
use Rattle.reconcile_locality_laws.proofs.ItemTurns.{stay_settled as item_stays}
use Rattle.reconcile_locality_laws.proofs.Maps.{found_in}
use Rattle.reconcile_locality_laws.proofs.Owing.{in_new, in_old, owed_deployment, owed_item, owed_set}
use Rattle.reconcile_locality_laws.proofs.References.{controller_is_named, own, owns, unchanged}
use Rattle.reconcile_locality_laws.proofs.SetTurns.{stay_settled as set_stays}

-- ---- changes of another sort

led_as : (P Q : Change → Type 0) → ((c : Change) → P c → Q c) → (kind : Kind) (x : Key) (os : List (Option Data)) (old new : Option Data) → Led P kind x old os new → Led Q kind x old os new
led_as P Q as' kind x [] old new led = led
led_as P Q as' kind x (o ∷ os) old new led = (as' (change kind old o) led.0, led.1, led_as P Q as' kind x os o new led.2)

-- an object of a kind is under a key of that kind
kind_of : (k : Kind) (ms : Entries) (x : Key) (d : Data) → IsMap k ms → found x ms ≡ Some d → k ≡ x.kind
kind_of k ms x d is at = ap (λ (x : Key). x.kind) (own k ms x d is at)

module _ (Shown : Looks → Type 0) (now : Looks) (maps : (l : Looks) (k : Kind) → Shown l → IsMap k (of_kind k l)) (last : (k : Kind) → IsMap k (of_kind k now)) (Q : Change → Type 0)
    (still : (l : Looks) (x : Key) → Shown l → (os : List (Option Data)) × Led Q x.kind x (found x (of_kind x.kind l)) os (found x (of_kind x.kind now))) where
  -- the objects of a kind lead to those of that kind
  of_one_kind : (k : Kind) (l : Looks) (x : Key) → Shown l → (os : List (Option Data)) × Led Q k x (found x (of_kind k l)) os (found x (of_kind k now))
  of_one_kind k l x shown = by (found x (of_kind k l)) (found x (of_kind k now)) refl refl
    where
      same : k ≡ x.kind → (os : List (Option Data)) × Led Q k x (found x (of_kind k l)) os (found x (of_kind k now))
      same is = subst (λ (k : Kind). (os : List (Option Data)) × Led Q k x (found x (of_kind k l)) os (found x (of_kind k now))) (sym is) (still l x shown)

      by : (a b : Option Data) → found x (of_kind k l) ≡ a → found x (of_kind k now) ≡ b → (os : List (Option Data)) × Led Q k x (found x (of_kind k l)) os (found x (of_kind k now))
      by None None p q = ([], p ∙ sym q)
      by (Some d) b p q = same (kind_of k (of_kind k l) x d (maps l k shown) p)
      by None (Some e) p q = same (kind_of k (of_kind k now) x e (last k) q)

-- ---- a ReplicaSet

module _ (Shown : Looks → Type 0) (h j : Hand) (sets pods : Looks)
    (shown_sets : Shown sets) (shown_pods : Shown pods) (maps : (l : Looks) (k : Kind) → Shown l → IsMap k (of_kind k l)) (last : (k : Kind) → IsMap k (of_kind k j.looks))
    (looked_sets : h.looks.replica_sets ≡ sets.replica_sets) (looked_pods : h.looks.pods ≡ pods.pods)
    (still : (l : Looks) (x : Key) → Shown l → LedUnowed controller.ReplicaSet h.key Shown x.kind x (found x (of_kind x.kind l)) (found x (of_kind x.kind j.looks))) where
  abbrev QS : Change → Type 0
  QS = OwesNone controller.ReplicaSet h.key Shown

  -- the set was the same since
  pub set_now : (l : Looks) → Shown l → found h.key l.replica_sets ≡ found h.key j.looks.replica_sets
  set_now l shown =
      let led = of_one_kind Shown j.looks maps last QS still ReplicaSet l h.key shown in
      unchanged QS ReplicaSet h.key (λ old new w i. w.2 (owed_set (change ReplicaSet old new) w.0 h.key i)) led.0 (found h.key l.replica_sets) (found h.key j.looks.replica_sets)
      (owns ReplicaSet l.replica_sets h.key (maps l ReplicaSet shown)) led.1

  set_shown : (l : Looks) → Shown l → ShowsSet h l
  set_shown l shown = set_now l shown ∙ sym (ap (found h.key) looked_sets ∙ set_now sets shown_sets)

  pub sets_still : j.key ≡ h.key → j.is_satisfied ≡ h.is_satisfied
      → ((set : Data) → set_looked_at h ≡ Some set → has_adoptable set (pods_looked_at h) ≡ true → has_adoptable set (of_namespace h.key.namespace j.looks.pods) ≡ true → may_adopt set (live j.reads h.key) ≡ may_adopt set (live h.reads h.key))
      → ((set : Data) → set_looked_at h ≡ Some set → AreNamed h.key set h.looks.pods × AreNamed h.key set j.looks.pods) → replica_sets.plan h ≡ [] → replica_sets.plan j ≡ []
  sets_still one_key one_answer one_read named none =
      set_stays h j
      (record {
        one_key = one_key;
        one_answer = one_answer;
        one_read = one_read;
        sets = subst (IsMap ReplicaSet) (sym looked_sets) (maps sets ReplicaSet shown_sets);
        later_sets = last ReplicaSet;
        pods = subst (IsMap Pod) (sym looked_pods) (maps pods Pod shown_pods);
        later_pods = last Pod;
        unowed_sets = subst (λ ms. Unowed controller.ReplicaSet h.key (λ l. Unit {0}) ReplicaSet ms j.looks.replica_sets) (sym looked_sets) from_sets;
        unowed_pods = subst (λ ms. Unowed controller.ReplicaSet h.key (ShowsSet h) Pod ms j.looks.pods) (sym looked_pods) from_pods;
        named = λ set looked. (named set looked).0;
        later_named = λ set looked. (named set looked).1;
      }) none
    where
      from_sets : Unowed controller.ReplicaSet h.key (λ l. Unit {0}) ReplicaSet sets.replica_sets j.looks.replica_sets
      from_sets x =
          let led = of_one_kind Shown j.looks maps last QS still ReplicaSet sets x shown_sets in
          (led.0, led_as QS (OwesNone controller.ReplicaSet h.key (λ l. Unit {0})) (λ c w. (w.0, tt, w.2)) ReplicaSet x led.0 (found x sets.replica_sets) (found x j.looks.replica_sets) led.1)

      from_pods : Unowed controller.ReplicaSet h.key (ShowsSet h) Pod pods.pods j.looks.pods
      from_pods x =
          let led = of_one_kind Shown j.looks maps last QS still Pod pods x shown_pods in
          (led.0, led_as QS (OwesNone controller.ReplicaSet h.key (ShowsSet h)) (λ c w. (w.0, set_shown w.0 w.1, w.2)) Pod x led.0 (found x pods.pods) (found x j.looks.pods) led.1)

-- ---- a Deployment

-- a Deployment was the same since
pub deployment_now : (Shown : Looks → Type 0) (k : Key) (now : Looks) (maps : (l : Looks) (k : Kind) → Shown l → IsMap k (of_kind k l)) (last : (k : Kind) → IsMap k (of_kind k now))
    → ((l : Looks) (x : Key) → Shown l → LedUnowed controller.Deployment k Shown x.kind x (found x (of_kind x.kind l)) (found x (of_kind x.kind now))) → (l : Looks) → Shown l
    → found k l.deployments ≡ found k now.deployments
deployment_now Shown k now maps last still l shown =
    let Q = OwesNone controller.Deployment k Shown in
    let led = of_one_kind Shown now maps last Q still Deployment l k shown in
    unchanged Q Deployment k (λ old new w i. w.2 (owed_deployment (change Deployment old new) w.0 k i)) led.0 (found k l.deployments) (found k now.deployments) (owns Deployment l.deployments k (maps l Deployment shown)) led.1

module _ (Shown : Looks → Type 0) (h j : Hand) (d : Data) (deps sets pods : Looks)
    (shown_deps : Shown deps) (shown_sets : Shown sets) (shown_pods : Shown pods) (maps : (l : Looks) (k : Kind) → Shown l → IsMap k (of_kind k l)) (last : (k : Kind) → IsMap k (of_kind k j.looks))
    (looked_deps : h.looks.deployments ≡ deps.deployments) (looked_sets : h.looks.replica_sets ≡ sets.replica_sets) (looked_pods : h.looks.pods ≡ pods.pods)
    (still : (l : Looks) (x : Key) → Shown l → LedUnowed controller.Deployment h.key Shown x.kind x (found x (of_kind x.kind l)) (found x (of_kind x.kind j.looks)))
    (looked_at : found h.key h.looks.deployments ≡ Some d) (named : (l : Looks) → Shown l → AreNamed h.key d l.replica_sets) (later_named : AreNamed h.key d j.looks.replica_sets) where
  abbrev QD : Change → Type 0
  QD = OwesNone controller.Deployment h.key Shown

  is_deployment : h.key.kind ≡ Deployment
  is_deployment = sym (kind_of Deployment deps.deployments h.key d (maps deps Deployment shown_deps) (ap (found h.key) (sym looked_deps) ∙ looked_at))

  owes : (ms : Entries) (x : Key) (s : Data) → AreNamed h.key d ms → found x ms ≡ Some s → is_managed_by d s ≡ true → In (controller_keys Deployment s) h.key
  owes ms x s names at is = controller_is_named Deployment h.key d ms (x, s) is_deployment names (found_in x ms s at) is

  -- a set that the Deployment controls, and that was shown, is there now
  set_stays_on : (l : Looks) (x : Key) (s : Data) → Shown l → found x l.replica_sets ≡ Some s → is_managed_by d s ≡ true → found x j.looks.replica_sets ≡ Some s
  set_stays_on l x s shown at is = by led.0 led.1
    where
      led : (os : List (Option Data)) × Led QD ReplicaSet x (found x l.replica_sets) os (found x j.looks.replica_sets)
      led = of_one_kind Shown j.looks maps last QD still ReplicaSet l x shown

      by : (os : List (Option Data)) → Led QD ReplicaSet x (found x l.replica_sets) os (found x j.looks.replica_sets) → found x j.looks.replica_sets ≡ Some s
      by [] same = sym same ∙ at
      by (o ∷ os) led =
          let c = change ReplicaSet (found x l.replica_sets) o in
          absurd (led.0.2 (owed_deployment c led.0.0 h.key (in_old (controller_keys Deployment) c s h.key at (owes l.replica_sets x s (named l shown) at is))))

  -- one that is there now was shown
  set_was : (l : Looks) (x : Key) (s : Data) → Shown l → found x j.looks.replica_sets ≡ Some s → is_managed_by d s ≡ true → found x l.replica_sets ≡ Some s
  set_was l x s shown at is = by led.0 led.1
    where
      led : (os : List (Option Data)) × Led QD ReplicaSet x (found x l.replica_sets) os (found x j.looks.replica_sets)
      led = of_one_kind Shown j.looks maps last QD still ReplicaSet l x shown

      put_last : (os : List (Option Data)) (old o : Option Data) → Led QD ReplicaSet x old (o ∷ os) (found x j.looks.replica_sets) → ⊥
      put_last [] old o led =
          let c = change ReplicaSet old o in
          led.0.2 (owed_deployment c led.0.0 h.key (in_new (controller_keys Deployment) c s h.key (led.2 ∙ at) (owes j.looks.replica_sets x s later_named at is)))
      put_last (p ∷ os) old o led = put_last os o p led.2

      by : (os : List (Option Data)) → Led QD ReplicaSet x (found x l.replica_sets) os (found x j.looks.replica_sets) → found x l.replica_sets ≡ Some s
      by [] same = same ∙ at
      by (o ∷ os) led = absurd (put_last os (found x l.replica_sets) o led)

  sets_shown : (l : Looks) → Shown l → ShowsSets h d l
  sets_shown l shown x s at is = set_was l x s shown (set_stays_on sets x s shown_sets (ap (found x) (sym looked_sets) ∙ at) is) is

  pub deployments_still : j.key ≡ h.key → ((x : Key) (s : Data) → found x h.looks.replica_sets ≡ Some s → AreNamed x s h.looks.pods) → count_in_status (codes "collisionCount") d < 2147483647 → KeepsName h j d
      → deployments.plan h ≡ [] → deployments.plan j ≡ []
  deployments_still one_key pods_named collisions keeps_name none =
      deployment_stays h j d
      (record {
        one_key = one_key;
        looked_at = looked_at;
        deployments = subst (IsMap Deployment) (sym looked_deps) (maps deps Deployment shown_deps);
        later_deployments = last Deployment;
        sets = subst (IsMap ReplicaSet) (sym looked_sets) (maps sets ReplicaSet shown_sets);
        later_sets = last ReplicaSet;
        pods = (subst (IsMap Pod) (sym looked_pods) (maps pods Pod shown_pods)).in_order;
        unowed_deployments = subst (λ ms. Unowed controller.Deployment h.key (λ l. Unit {0}) Deployment ms j.looks.deployments) (sym looked_deps) from_deps;
        unowed_sets = subst (λ ms. Unowed controller.Deployment h.key (λ l. Unit {0}) ReplicaSet ms j.looks.replica_sets) (sym looked_sets) from_sets;
        unowed_pods = subst (λ ms. Unowed controller.Deployment h.key (ShowsSets h d) Pod ms j.looks.pods) (sym looked_pods) from_pods;
        named = subst (AreNamed h.key d) (sym looked_sets) (named sets shown_sets);
        later_named = later_named;
        pods_named = pods_named;
        collisions = collisions;
        keeps_name = keeps_name;
      }) none
    where
      from_deps : Unowed controller.Deployment h.key (λ l. Unit {0}) Deployment deps.deployments j.looks.deployments
      from_deps x =
          let led = of_one_kind Shown j.looks maps last QD still Deployment deps x shown_deps in
          (led.0, led_as QD (OwesNone controller.Deployment h.key (λ l. Unit {0})) (λ c w. (w.0, tt, w.2)) Deployment x led.0 (found x deps.deployments) (found x j.looks.deployments) led.1)

      from_sets : Unowed controller.Deployment h.key (λ l. Unit {0}) ReplicaSet sets.replica_sets j.looks.replica_sets
      from_sets x =
          let led = of_one_kind Shown j.looks maps last QD still ReplicaSet sets x shown_sets in
          (led.0, led_as QD (OwesNone controller.Deployment h.key (λ l. Unit {0})) (λ c w. (w.0, tt, w.2)) ReplicaSet x led.0 (found x sets.replica_sets) (found x j.looks.replica_sets) led.1)

      from_pods : Unowed controller.Deployment h.key (ShowsSets h d) Pod pods.pods j.looks.pods
      from_pods x =
          let led = of_one_kind Shown j.looks maps last QD still Pod pods x shown_pods in
          (led.0, led_as QD (OwesNone controller.Deployment h.key (ShowsSets h d)) (λ c w. (w.0, sets_shown w.0 w.1, w.2)) Pod x led.0 (found x pods.pods) (found x j.looks.pods) led.1)

-- ---- what the garbage collector looks at

-- what is there in the end, and owed no look, was there
pub item_same : (k : Key) (Shown : Looks → Type 0) (d : Data) → own_key k.kind d ≡ k → (os : List (Option Data)) (old new : Option Data) → Led (OwesNone controller.Collector k Shown) k.kind k old os new → new ≡ Some d → old ≡ Some d
item_same k Shown d owned [] old new same there = same ∙ there
item_same k Shown d owned (o ∷ os) old new led there =
    let before : o ≡ Some d = item_same k Shown d owned os o new led.2 there in
    let c = change k.kind old o in
    absurd (led.0.2 (owed_item c led.0.0 k (in_left (itself c) (of_both owner_keys c ++ dependents_left led.0.0 c) k (subst (λ (o : Option Data). In (one_of (option_map (own_key k.kind) o)) k) (sym before) (inl owned)))))

module _ (Shown : Looks → Type 0) (h j : Hand) (at : Kind → Looks) (shown_at : (k : Kind) → Shown (at k)) (looked : (k : Kind) → of_kind k h.looks ≡ of_kind k (at k))
    (maps : (l : Looks) (k : Kind) → Shown l → IsMap k (of_kind k l)) (last : (k : Kind) → IsMap k (of_kind k j.looks)) (one_key : j.key ≡ h.key)
    (read_now : live j.reads j.key ≡ found j.key (of_kind j.key.kind j.looks))
    (still : (l : Looks) (x : Key) → Shown l → (os : List (Option Data)) × Led (OwesNone controller.Collector h.key Shown) x.kind x (found x (of_kind x.kind l)) os (found x (of_kind x.kind j.looks)))
    (item_read : (os : List (Option Data)) × Led (OwesNone controller.Collector h.key Shown) h.key.kind h.key (live h.reads h.key) os (live j.reads h.key))
    (owner_read : (d : Data) (x : Key) → live j.reads j.key ≡ Some d → Contains (owner_keys d) x → (os : List (Option Data)) × Led (OwesNone controller.Collector h.key Shown) x.kind x (live h.reads x) os (live j.reads x)) where
  abbrev QI : Change → Type 0
  QI = OwesNone controller.Collector h.key Shown

  own_now : IfSome (live j.reads j.key) (λ d. own_key j.key.kind d ≡ j.key)
  own_now = subst (λ o. IfSome o (λ d. own_key j.key.kind d ≡ j.key)) (sym read_now) (owns j.key.kind (of_kind j.key.kind j.looks) j.key (last j.key.kind))

  -- what was shown of the item since, where it is there now, is what is there
  item_shown : (l : Looks) → Shown l → ShowsItem j l
  item_shown l shown = subst (λ o. IfSome o (λ d. found j.key (of_kind j.key.kind l) ≡ Some d)) (sym read_now) (by (found j.key (of_kind j.key.kind j.looks)) refl)
    where
      led : (os : List (Option Data)) × Led QI j.key.kind j.key (found j.key (of_kind j.key.kind l)) os (found j.key (of_kind j.key.kind j.looks))
      led = still l j.key shown

      put_last : (d : Data) → found j.key (of_kind j.key.kind j.looks) ≡ Some d → (os : List (Option Data)) (old o : Option Data) → Led QI j.key.kind j.key old (o ∷ os) (found j.key (of_kind j.key.kind j.looks)) → ⊥
      put_last d there [] old o led =
          let c = change j.key.kind old o in
          let owned : own_key j.key.kind d ≡ h.key = own j.key.kind (of_kind j.key.kind j.looks) j.key d (last j.key.kind) there ∙ one_key in
          led.0.2 (owed_item c led.0.0 h.key (in_left (itself c) (of_both owner_keys c ++ dependents_left led.0.0 c) h.key
          (subst (λ (o : Option Data). In (one_of (option_map (own_key j.key.kind) o)) h.key) (sym (led.2 ∙ there)) (inl owned))))
      put_last d there (p ∷ os) old o led = put_last d there os o p led.2

      from : (d : Data) → found j.key (of_kind j.key.kind j.looks) ≡ Some d → (os : List (Option Data)) → Led QI j.key.kind j.key (found j.key (of_kind j.key.kind l)) os (found j.key (of_kind j.key.kind j.looks))
          → found j.key (of_kind j.key.kind l) ≡ Some d
      from d there [] same = same ∙ there
      from d there (o ∷ os) led = absurd (put_last d there os (found j.key (of_kind j.key.kind l)) o led)

      by : (o : Option Data) → found j.key (of_kind j.key.kind j.looks) ≡ o → IfSome o (λ d. found j.key (of_kind j.key.kind l) ≡ Some d)
      by None there = tt
      by (Some d) there = from d there led.0 led.1

  pub items_still : ((d : Data) (k : Kind) → live j.reads j.key ≡ Some d → AreNamed j.key d (of_kind k h.looks)) → garbage.plan h ≡ [] → garbage.plan j ≡ []
  items_still named none =
      item_stays h j
      (record {
        one_key = one_key;
        in_order = λ k. (subst (IsMap k) (sym (looked k)) (maps (at k) k (shown_at k))).in_order;
        own_key = own_now;
        named = named;
        unowed_item = from_item;
        unowed_owners = from_owner;
        unowed_looks = from_looks;
      }) none
    where
      from_item : LedUnowed controller.Collector h.key (λ l. Unit {0}) h.key.kind h.key (live h.reads h.key) (live j.reads h.key)
      from_item =
          let led = item_read in
          (led.0, led_as QI (OwesNone controller.Collector h.key (λ l. Unit {0})) (λ c w. (w.0, tt, w.2)) h.key.kind h.key led.0 (live h.reads h.key) (live j.reads h.key) led.1)

      from_owner : (d : Data) (x : Key) → live j.reads j.key ≡ Some d → Contains (owner_keys d) x → LedUnowed controller.Collector h.key (ShowsItem j) x.kind x (live h.reads x) (live j.reads x)
      from_owner d x there owner =
          let led = owner_read d x there owner in
          (led.0, led_as QI (OwesNone controller.Collector h.key (ShowsItem j)) (λ c w. (w.0, item_shown w.0 w.1, w.2)) x.kind x led.0 (live h.reads x) (live j.reads x) led.1)

      from_looks : (k : Kind) → Unowed controller.Collector h.key (λ l. Unit {0}) k (of_kind k h.looks) (of_kind k j.looks)
      from_looks k x =
          let led = of_one_kind Shown j.looks maps last QI still k (at k) x (shown_at k) in
          subst (λ ms. LedUnowed controller.Collector h.key (λ l. Unit {0}) k x (found x ms) (found x (of_kind k j.looks))) (sym (looked k))
          (led.0, led_as QI (OwesNone controller.Collector h.key (λ l. Unit {0})) (λ c w. (w.0, tt, w.2)) k x led.0 (found x (of_kind k (at k))) (found x (of_kind k j.looks)) led.1)
