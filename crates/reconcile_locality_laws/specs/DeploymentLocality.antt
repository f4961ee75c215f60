-- A Deployment's plan, where nothing is to be done, reads only what owes a look at it.
use Rattle.std.specs.Prelude.{◌≡◌, ◌⊎◌, ◌<◌, [], true, Some, codes}
use Rattle.std.specs.List.Sorted.{IsStrictlySortedBy}
use Rattle.std.specs.Map as map
use Rattle.serde_json.specs.Data.{Data}
use Rattle.spec_api.specs.declared.kinds.Kind.TheVariants.{Pod, ReplicaSet, Deployment}
use Rattle.spec_api.specs.Checks.{in_spec}
use Rattle.spec_api.specs.Defaults.{is_rolling_update}
use Rattle.spec_api.specs.History.{found}
use Rattle.spec_api.specs.Keys.{Key, key_cmp}
use Rattle.spec_api.specs.SelectorValues.{is_some_and}
use Rattle.spec_client_go.specs.declared.controller.Controller.TheVariants as controller
use Rattle.spec_client_go.specs.Hands.{Hand}
use Rattle.spec_client_go.specs.Informers.{Looks}
use Rattle.spec_reconcile.specs.Counts.{count_in_status}
use Rattle.spec_reconcile.specs.Deployments.{plan, is_managed_by, is_name_taken, rollout}
use Rattle.reconcile_locality_laws.specs.Differences.{IsMap, Unowed, AreNamed}

-- looks that show the Deployment's sets as a hand does
abbrev pub ShowsSets : Hand → Data → Looks → Type 0
ShowsSets h d l = (x : Key) (s : Data) → found x h.looks.replica_sets ≡ Some s → is_managed_by d s ≡ true → found x l.replica_sets ≡ Some s

-- the Deployment is rolled; or its new set's name is taken only where it was
abbrev pub KeepsName : Hand → Hand → Data → Type 0
KeepsName h j d =
    (is_some_and is_rolling_update (in_spec (codes "strategy") d) ≡ true)
    ⊎ (is_name_taken (rollout h.key d j.looks.replica_sets) j.looks.replica_sets ≡ true → is_name_taken (rollout h.key d h.looks.replica_sets) h.looks.replica_sets ≡ true)

-- what was looked at in two turns for a Deployment, where nothing that differs owed a look at it in between
pub record AreDeploymentTurns (h j : Hand) (d : Data) : Type 0 where
  pub one_key : j.key ≡ h.key
  pub looked_at : found h.key h.looks.deployments ≡ Some d
  pub deployments : IsMap Deployment h.looks.deployments
  pub later_deployments : IsMap Deployment j.looks.deployments
  pub sets : IsMap ReplicaSet h.looks.replica_sets
  pub later_sets : IsMap ReplicaSet j.looks.replica_sets
  pub pods : IsStrictlySortedBy key_cmp (map.keys_of h.looks.pods)
  pub unowed_deployments : Unowed controller.Deployment h.key (λ l. Unit {0}) Deployment h.looks.deployments j.looks.deployments
  pub unowed_sets : Unowed controller.Deployment h.key (λ l. Unit {0}) ReplicaSet h.looks.replica_sets j.looks.replica_sets
  pub unowed_pods : Unowed controller.Deployment h.key (ShowsSets h d) Pod h.looks.pods j.looks.pods
  pub named : AreNamed h.key d h.looks.replica_sets
  pub later_named : AreNamed h.key d j.looks.replica_sets
  pub pods_named : (x : Key) (s : Data) → found x h.looks.replica_sets ≡ Some s → AreNamed x s h.looks.pods
  pub collisions : count_in_status (codes "collisionCount") d < 2147483647
  pub keeps_name : KeepsName h j d

-- then, where nothing was to be done for it, nothing is
abbrev pub DeploymentsStaySettled : Type 0
DeploymentsStaySettled = (h j : Hand) (d : Data) → AreDeploymentTurns h j d → plan h ≡ [] → plan j ≡ []
