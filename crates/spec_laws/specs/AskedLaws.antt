-- What controllers ask of the server can be asked as bytes: their commands are made of what servers store, and stay as a parser gives it.
use Rattle.std.specs.Prelude.{◌≡◌, ◌<◌, ◌^◌, List, length, true, IfSome}
use Rattle.std.specs.List.{AllByRecursion}
use Rattle.serde_json.specs.Data.{Data}
use Rattle.spec_api.specs.History.{Entries}
use Rattle.spec_api.specs.Keys.{Key, is_namespace, is_subdomain}
use Rattle.spec_api.specs.Reached.{IsParsed}
use Rattle.spec_client_go.specs.Commands.{Command, create, update, update_status, delete}
use Rattle.spec_client_go.specs.Hands.{Hand, Read}
use Rattle.spec_reconcile.specs.Deployments as deployments
use Rattle.spec_reconcile.specs.GarbageCollection as garbage_collection
use Rattle.spec_reconcile.specs.ReplicaSets as replica_sets

-- ---- what is looked at

-- an object as it stands under its key: as a parser gives it, in a namespace and under a name as they have to be
abbrev pub IsStoredAs : Key → Data → Type 0
IsStoredAs k d = IsParsed d × (is_namespace k.namespace ≡ true) × (is_subdomain k.name ≡ true)

abbrev pub AreStored : Entries → Type 0
AreStored ms = AllByRecursion (λ (m : Key × Data). IsStoredAs m.0 m.1) ms

-- all that was looked at, and read live, stands so; and there are no more pods than 64 bits count
pub record IsOfServer (h : Hand) : Type 0 where
  pub config_maps : AreStored h.looks.config_maps
  pub pods : AreStored h.looks.pods
  pub replica_sets : AreStored h.looks.replica_sets
  pub deployments : AreStored h.looks.deployments
  pub few : length h.looks.pods < 2 ^ 64
  pub reads : AllByRecursion (λ (r : Read). IfSome r.found IsParsed) h.reads

-- ---- what is asked

-- a create is in a namespace as it has to be, and a body is as a parser gives it
abbrev pub CanBeAsked : Command → Type 0
CanBeAsked (create kind ns d) = (is_namespace ns ≡ true) × IsParsed d
CanBeAsked (update k d) = IsParsed d
CanBeAsked (update_status k d) = IsParsed d
CanBeAsked (delete k u v p) = Unit {0}

abbrev pub AllCanBeAsked : List Command → Type 0
AllCanBeAsked cs = AllByRecursion CanBeAsked cs

-- each command of a plan can be asked
pub record PlansCanBeAsked : Type 0 where
  pub of_replica_sets : (h : Hand) → IsOfServer h → AllCanBeAsked (replica_sets.plan h)
  pub of_deployments : (h : Hand) → IsOfServer h → AllCanBeAsked (deployments.plan h)
  pub of_the_collector : (h : Hand) → IsOfServer h → AllCanBeAsked (garbage_collection.plan h)
