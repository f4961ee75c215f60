-- A pod that is given the reference to a set was there at the revision that is published, so a run that lets the set alone is fair to it.
use Rattle.std.specs.Prelude.{◌≡◌, ◌≤◌, ℕ, List, true, Some}
use Rattle.serde_json.specs.Data.{Data}
use Rattle.spec_api.specs.Checks.{controllers}
use Rattle.spec_api.specs.History.{History, state}
use Rattle.spec_api.specs.Keys.{Key}
use Rattle.spec_api.specs.Metadata.{owners}
use Rattle.spec_api.specs.Reached.{IsReached}
use Rattle.spec_client_go.specs.Expectations.{Owner}
use Rattle.spec_sim.specs.declared.initial_syncs.InitialSync.{InitialSync}
use Rattle.spec_sim.specs.Clusters.{history}
use Rattle.spec_sim.specs.ControlPlanes.{Step, opened, run}
use Rattle.sim_overshoot_laws.specs.Overshoot.{LetAlone}
use Rattle.sim_overshoot_laws.specs.ShowLaws.{AreClaimedSince}
use Rattle.sim_overshoot_laws.specs.StepLaws.{AreFair}

-- whoever asked, of the owners that an object names at most one is its controller (Kubernetes, Owners and Dependents)
abbrev pub StoredHaveOneController : Type 0
StoredHaveOneController = (h : History) (r : ℕ) (k : Key) (d : Data) → IsReached h → state h r k ≡ Some d → controllers (owners d) ≤ 1

-- whatever steps are taken that let a set alone, once pods are published each write since the revision that is published puts a pod of the set as it is
-- claimed: it is a new one, or was there already, or had the reference before
abbrev pub LetAloneIsClaimed : Type 0
LetAloneIsClaimed =
    (window workers : ℕ) (initial : InitialSync) (steps : List Step) (o : Owner) → LetAlone o (opened window workers initial) steps
    → (let c = (run (opened window workers initial) steps).cluster in
    c.pods.has_listed ≡ true → AreClaimedSince o (history c) c.pods.informer.published.revision)

-- and each step is fair to it: deltas of pods show no more creations of its pods than there were, and the first list shows none
abbrev pub LetAloneIsFair : Type 0
LetAloneIsFair = (window workers : ℕ) (initial : InitialSync) (steps : List Step) (o : Owner) → LetAlone o (opened window workers initial) steps → AreFair o (opened window workers initial) steps
