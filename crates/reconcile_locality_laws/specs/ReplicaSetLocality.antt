-- A ReplicaSet's plan reads only what owes it.
use Rattle.std.specs.Prelude.{◌≡◌, ◌⊎◌, ◌&&◌, [], true, false, Some}
use Rattle.serde_json.specs.Data.{Data}
use Rattle.spec_api.specs.declared.kinds.Kind.TheVariants.{Pod, ReplicaSet}
use Rattle.spec_api.specs.History.{found}
use Rattle.spec_api.specs.Keys.{Key}
use Rattle.spec_client_go.specs.declared.controller.Controller.TheVariants as controller
use Rattle.spec_client_go.specs.Hands.{Hand, live}
use Rattle.spec_client_go.specs.Informers.{Looks, of_namespace}
use Rattle.spec_reconcile.specs.PodClaims.{is_adoptable, may_adopt}
use Rattle.spec_reconcile.specs.ReplicaSets.{has_adoptable, plan, pods_looked_at, set_looked_at}
use Rattle.reconcile_locality_laws.specs.Differences.{IsMap, Unowed, AreNamed}

-- looks that show the set as a hand does
abbrev pub ShowsSet : Hand → Looks → Type 0
ShowsSet h l = found h.key l.replica_sets ≡ set_looked_at h

-- what was read in two turns for a set, where nothing that differs owed a look at it in between: the answer whether all that was expected was seen is
-- the same; and where in both a pod is to be adopted, the live reads say the same of it
pub record AreSetTurns (h j : Hand) : Type 0 where
  pub one_key : j.key ≡ h.key
  pub one_answer : j.is_satisfied ≡ h.is_satisfied
  pub one_read : (set : Data) → set_looked_at h ≡ Some set → has_adoptable set (pods_looked_at h) ≡ true → has_adoptable set (of_namespace h.key.namespace j.looks.pods) ≡ true
      → may_adopt set (live j.reads h.key) ≡ may_adopt set (live h.reads h.key)
  pub sets : IsMap ReplicaSet h.looks.replica_sets
  pub later_sets : IsMap ReplicaSet j.looks.replica_sets
  pub pods : IsMap Pod h.looks.pods
  pub later_pods : IsMap Pod j.looks.pods
  pub unowed_sets : Unowed controller.ReplicaSet h.key (λ l. Unit {0}) ReplicaSet h.looks.replica_sets j.looks.replica_sets
  pub unowed_pods : Unowed controller.ReplicaSet h.key (ShowsSet h) Pod h.looks.pods j.looks.pods
  pub named : (set : Data) → set_looked_at h ≡ Some set → AreNamed h.key set h.looks.pods
  pub later_named : (set : Data) → set_looked_at h ≡ Some set → AreNamed h.key set j.looks.pods

-- a pod that the set was to adopt is still as it was
abbrev pub KeepsAdoptable : Hand → Hand → Type 0
KeepsAdoptable h j =
    (set : Data) (x : Key) (d : Data) → set_looked_at h ≡ Some set → x.namespace ≡ h.key.namespace → found x h.looks.pods ≡ Some d
    → (found x j.looks.pods ≡ Some d) ⊎ ((may_adopt set (live h.reads h.key) && is_adoptable set d) ≡ false)

-- then its plan is the same
abbrev pub SetPlansStay : Type 0
SetPlansStay = (h j : Hand) → AreSetTurns h j → KeepsAdoptable h j → plan j ≡ plan h

-- and where nothing was to be done, nothing is, whatever became of any pod
abbrev pub SetsStaySettled : Type 0
SetsStaySettled = (h j : Hand) → AreSetTurns h j → plan h ≡ [] → plan j ≡ []
