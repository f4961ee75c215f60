-- What it says of a Deployment that nothing is to be done for it.
use Rattle.std.specs.Prelude.{◌≡◌, ◌≤◌, ◌<◌, [], true, Some, codes}
use Rattle.std.specs.List.{AllByRecursion}
use Rattle.serde_json.specs.Data.{Data}
use Rattle.spec_api.specs.Keys.{Key}
use Rattle.spec_api.specs.History.{found}
use Rattle.spec_client_go.specs.Hands.{Hand}
use Rattle.spec_reconcile.specs.Counts.{count_in_status, replicas}
use Rattle.spec_reconcile.specs.Deployments.{Rollout, due, is_going_on, plan, rollout, sets, tally}
use Rattle.spec_reconcile.specs.Revisions.{revision}
use Rattle.spec_laws.specs.RolloutLaws.{is_rolled}

-- each set has all its pods available
abbrev pub AreAvailable : Rollout → Type 0
AreAvailable r = AllByRecursion (λ s. (tally s).available ≡ replicas s.1) (sets r)

-- the new set is to have all pods, and is of the revision that is due; the old ones none
abbrev pub IsRolledOut : Rollout → Data → Type 0
IsRolledOut r d = (new : Key × Data) × (r.new ≡ Some new) × (replicas new.1 ≡ replicas d) × (due r ≤ revision new.1) × AllByRecursion (λ s. replicas s.1 ≡ 0) r.old

abbrev pub EmptyPlansAreOfRolledOut : Type 0
EmptyPlansAreOfRolledOut =
    (h : Hand) (d : Data) → found h.key h.looks.deployments ≡ Some d → is_going_on d ≡ true → is_rolled d ≡ true → count_in_status (codes "collisionCount") d < 2147483647
    → AreAvailable (rollout h.key d h.looks.replica_sets) → plan h ≡ [] → IsRolledOut (rollout h.key d h.looks.replica_sets) d
