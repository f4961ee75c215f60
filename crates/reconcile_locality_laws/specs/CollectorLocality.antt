-- The garbage collector's plan for an object that needs nothing reads only what owes a look at it.
use Rattle.std.specs.Prelude.{◌≡◌, [], Some, IfSome}
use Rattle.std.specs.List.{Contains}
use Rattle.std.specs.List.Sorted.{IsStrictlySortedBy}
use Rattle.std.specs.Map as map
use Rattle.serde_json.specs.Data.{Data}
use Rattle.spec_api.specs.declared.kinds.Kind.{Kind}
use Rattle.spec_api.specs.declared.kinds.Kind.TheVariants.{ConfigMap, Pod, ReplicaSet, Deployment}
use Rattle.spec_api.specs.History.{Entries, found}
use Rattle.spec_api.specs.Keys.{Key, key_cmp}
use Rattle.spec_client_go.specs.declared.controller.Controller.TheVariants as controller
use Rattle.spec_client_go.specs.Hands.{Hand, live}
use Rattle.spec_client_go.specs.Informers.{Looks}
use Rattle.spec_client_go.specs.OwedKeys.{own_key}
use Rattle.spec_client_go.specs.OwnerReferences.{owner_keys}
use Rattle.spec_reconcile.specs.GarbageCollection.{plan}
use Rattle.reconcile_locality_laws.specs.Differences.{AreNamed, LedUnowed, Unowed}

-- ---- two turns

abbrev pub of_kind : Kind → Looks → Entries
of_kind ConfigMap l = l.config_maps
of_kind Pod l = l.pods
of_kind ReplicaSet l = l.replica_sets
of_kind Deployment l = l.deployments

-- looks that show the object as it was read live
abbrev pub ShowsItem : Hand → Looks → Type 0
ShowsItem h l = IfSome (live h.reads h.key) (λ d. found h.key (of_kind h.key.kind l) ≡ Some d)

-- what was read in two turns for an object, where nothing that differs owed a look at it in between
pub record AreItemTurns (h j : Hand) : Type 0 where
  pub one_key : j.key ≡ h.key
  pub in_order : (k : Kind) → IsStrictlySortedBy key_cmp (map.keys_of (of_kind k h.looks))
  pub own_key : IfSome (live j.reads j.key) (λ d. own_key j.key.kind d ≡ j.key)
  pub named : (d : Data) (k : Kind) → live j.reads j.key ≡ Some d → AreNamed j.key d (of_kind k h.looks)
  pub unowed_item : LedUnowed controller.Collector h.key (λ l. Unit {0}) h.key.kind h.key (live h.reads h.key) (live j.reads h.key)
  pub unowed_owners : (d : Data) (x : Key) → live j.reads j.key ≡ Some d → Contains (owner_keys d) x → LedUnowed controller.Collector h.key (ShowsItem j) x.kind x (live h.reads x) (live j.reads x)
  pub unowed_looks : (k : Kind) → Unowed controller.Collector h.key (λ l. Unit {0}) k (of_kind k h.looks) (of_kind k j.looks)

-- then, where nothing was to be done for it, nothing is
abbrev pub ItemsStaySettled : Type 0
ItemsStaySettled = (h j : Hand) → AreItemTurns h j → plan h ≡ [] → plan j ≡ []
