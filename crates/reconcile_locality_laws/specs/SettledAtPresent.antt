-- A ReplicaSet, a Deployment or an object for which nothing was to be done, where nothing that came since owed a look at it, is one for which nothing is to be done now.
use Rattle.std.specs.Prelude.{◌≡◌, ◌≤◌, ◌<◌, ℕ, List, [], true, false, Option, Some, codes}
use Rattle.std.specs.List.{AllByRecursion, Contains}
use Rattle.serde_json.specs.Data.{Data}
use Rattle.spec_api.specs.declared.kinds.Kind.{Kind}
use Rattle.spec_api.specs.declared.kinds.Kind.TheVariants.{ConfigMap, Pod, ReplicaSet, Deployment}
use Rattle.spec_api.specs.History.{History, present, state, list, found}
use Rattle.spec_api.specs.Keys.{Key}
use Rattle.spec_api.specs.Metadata.{is_being_deleted}
use Rattle.spec_api.specs.Reached.{IsReached}
use Rattle.spec_client_go.specs.declared.controller.Controller.TheVariants as controller
use Rattle.spec_client_go.specs.Hands.{Hand, Read}
use Rattle.spec_client_go.specs.Informers.{Looks}
use Rattle.spec_client_go.specs.OwedKeys.{Change}
use Rattle.spec_reconcile.specs.Counts.{count_in_status}
use Rattle.spec_reconcile.specs.Deployments as deployments
use Rattle.spec_reconcile.specs.GarbageCollection as garbage
use Rattle.spec_reconcile.specs.ReplicaSets as replica_sets
use Rattle.spec_laws.specs.SentLaws.{whole}
use Rattle.reconcile_locality_laws.specs.CollectorLocality.{of_kind}
use Rattle.reconcile_locality_laws.specs.DeploymentLocality.{KeepsName}
use Rattle.reconcile_locality_laws.specs.SettledSets.{IsCounted, IsSettled}
use Rattle.reconcile_locality_laws.specs.Differences.{AreNamed, Led, LedUnowed, OwesNone}

-- ---- what is there, and what was shown

abbrev pub present_looks : History → Looks
present_looks h =
    record {
      config_maps = list h (whole ConfigMap) (present h);
      pods = list h (whole Pod) (present h);
      replica_sets = list h (whole ReplicaSet) (present h);
      deployments = list h (whole Deployment) (present h);
    }

-- each owner reference with the uid of an object of this server names that object's kind, namespace and name
abbrev pub ReferencesAreTrue : History → Type 0
ReferencesAreTrue h = (a b : ℕ) (x : Key) (d : Data) (k : Kind) → a ≤ present h → b ≤ present h → state h a x ≡ Some d → AreNamed x d (list h (whole k) b)

-- looks are of server lists
abbrev pub AreLists : History → Looks → Type 0
AreLists h l = (k : Kind) → (r : ℕ) × (r ≤ present h) × (of_kind k l ≡ list h (whole k) r)

-- what was under each key, as looks show it, became by such changes what is there now
abbrev pub LeadsToPresent : (Change → Type 0) → History → Looks → Type 0
LeadsToPresent Q h l = (x : Key) → (os : List (Option Data)) × Led Q x.kind x (found x (of_kind x.kind l)) os (found x (of_kind x.kind (present_looks h)))

-- one of the looks of this sort shows the objects of a kind as a hand does
abbrev pub WasShown : (Looks → Type 0) → Kind → Hand → Type 0
WasShown Shown k x = (l : Looks) × Shown l × (of_kind k x.looks ≡ of_kind k l)

-- a live read found what is there now
abbrev pub IsReadNow : History → Read → Type 0
IsReadNow h r = r.found ≡ state h (present h) r.key

-- a hand of what is there now
abbrev pub present_hand : History → Hand → List Read → Hand
present_hand h x reads = record { key = x.key; looks = present_looks h; is_satisfied = x.is_satisfied; reads = reads }

-- ---- a ReplicaSet

-- what was shown since, looks of some sort, leads to what is there now by changes that owed no look at the set; what was looked at is of this; and so does what was read live
pub record SetLeads (h : History) (Shown : Looks → Type 0) (x : Hand) : Type 0 where
  pub lists : (l : Looks) → Shown l → AreLists h l
  pub leads : (l : Looks) → Shown l → LeadsToPresent (OwesNone controller.ReplicaSet x.key Shown) h l
  pub sets : WasShown Shown ReplicaSet x
  pub pods : WasShown Shown Pod x
  pub reads : AllByRecursion (λ r. LedUnowed controller.ReplicaSet x.key Shown r.key.kind r.key r.found (state h (present h) r.key)) x.reads

-- then, where nothing was to be done for a set, nothing is to be done for it now
abbrev pub SetsAreSettledNow : Type 0
SetsAreSettledNow =
    (h : History) (shown : List Looks) (x : Hand) (reads : List Read) → IsReached h → ReferencesAreTrue h → SetLeads h (Contains shown) x → replica_sets.asks x ≡ [] → replica_sets.plan x ≡ []
    → AllByRecursion (IsReadNow h) reads → replica_sets.asks (present_hand h x reads) ≡ [] → replica_sets.plan (present_hand h x reads) ≡ []

-- and the set has just the pods that it asks for, and its status counts them, if all that was expected had been seen, and it is not being deleted
abbrev pub SetsAreAsDeclaredNow : Type 0
SetsAreAsDeclaredNow =
    (h : History) (shown : List Looks) (x : Hand) (set : Data) (reads : List Read) → IsReached h → ReferencesAreTrue h → SetLeads h (Contains shown) x → replica_sets.asks x ≡ [] → replica_sets.plan x ≡ []
    → replica_sets.set_looked_at x ≡ Some set → x.is_satisfied ≡ true → is_being_deleted set ≡ false → AllByRecursion (IsReadNow h) reads → replica_sets.asks (present_hand h x reads) ≡ []
    → IsSettled (present_hand h x reads) set × IsCounted (present_hand h x reads) set

-- ---- a Deployment

pub record DeploymentLeads (h : History) (Shown : Looks → Type 0) (x : Hand) : Type 0 where
  pub lists : (l : Looks) → Shown l → AreLists h l
  pub leads : (l : Looks) → Shown l → LeadsToPresent (OwesNone controller.Deployment x.key Shown) h l
  pub deployments : WasShown Shown Deployment x
  pub sets : WasShown Shown ReplicaSet x
  pub pods : WasShown Shown Pod x

-- where its new set's name is not taken while it waits for old pods, and it has not collided too often
abbrev pub DeploymentsAreSettledNow : Type 0
DeploymentsAreSettledNow =
    (h : History) (shown : List Looks) (x : Hand) (reads : List Read) → IsReached h → ReferencesAreTrue h → DeploymentLeads h (Contains shown) x
    → ((d : Data) → found x.key x.looks.deployments ≡ Some d → (count_in_status (codes "collisionCount") d < 2147483647) × KeepsName x (present_hand h x reads) d)
    → deployments.plan x ≡ [] → deployments.plan (present_hand h x reads) ≡ []

-- ---- what the garbage collector looks at

pub record ItemLeads (h : History) (Shown : Looks → Type 0) (x : Hand) : Type 0 where
  pub lists : (l : Looks) → Shown l → AreLists h l
  pub leads : (l : Looks) → Shown l → LeadsToPresent (OwesNone controller.Collector x.key Shown) h l
  pub looked : (k : Kind) → WasShown Shown k x
  pub reads : AllByRecursion (λ r. LedUnowed controller.Collector x.key Shown r.key.kind r.key r.found (state h (present h) r.key)) x.reads

abbrev pub ItemsAreSettledNow : Type 0
ItemsAreSettledNow =
    (h : History) (shown : List Looks) (x : Hand) (reads : List Read) → IsReached h → ReferencesAreTrue h → ItemLeads h (Contains shown) x → garbage.asks x ≡ [] → garbage.plan x ≡ []
    → AllByRecursion (IsReadNow h) reads → garbage.asks (present_hand h x reads) ≡ [] → garbage.plan (present_hand h x reads) ≡ []
