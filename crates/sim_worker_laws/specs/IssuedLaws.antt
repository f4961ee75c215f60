-- Whatever steps are taken: each command that was issued is the next one of its plan, for what the worker had seen and read.
use Rattle.std.specs.Prelude.{◌≡◌, ◌≤◌, ℕ, List, [], ◌∷◌, ◌++◌, map, true, is_some}
use Rattle.std.specs.List.{AllByRecursion}
use Rattle.spec_api.specs.declared.kinds.Kind.{Kind}
use Rattle.spec_api.specs.History.{History, present, state}
use Rattle.spec_server.specs.Snapshots.{Snapshot}
use Rattle.spec_client_go.specs.Commands.{Command}
use Rattle.spec_client_go.specs.Hands.{Read}
use Rattle.spec_sim.specs.declared.initial_syncs.InitialSync.{InitialSync}
use Rattle.spec_sim.specs.Clusters.{history, follower}
use Rattle.spec_sim.specs.ControlPlanes.{ControlPlane, Step, opened, run}
use Rattle.spec_sim.specs.Managers.{Issued}
use Rattle.spec_sim.specs.NextSteps.{Sighting, of_kind, of_expectations, order}
use Rattle.spec_sim.specs.Turns.{Turn, Sight, looked, satisfied, Issue, asks, commands, expected, all_accepted}

-- ---- what was seen and read

-- after some beginning of these steps just this was published of a kind, of which a list had been published
abbrev pub WasPublished : ControlPlane → List Step → Kind → Snapshot → Type 0
WasPublished p steps k s =
    (beginning : List Step) × (rest : List Step) × (steps ≡ beginning ++ rest)
    × (let f = follower k (run p beginning).cluster in (s ≡ f.informer.published) × (f.has_listed ≡ true))

-- just this was there under a key at some revision
abbrev pub WasThere : History → Read → Type 0
WasThere h r = (at : ℕ) × (at ≤ present h) × (r.found ≡ state h at r.key)

abbrev pub IsSeen : (Kind → Snapshot → Type 0) → Sight → Type 0
IsSeen IsLook (looked k s) = IsLook k s
IsSeen IsLook (satisfied b) = Unit {0}

abbrev pub sighting_of : Sight → Sighting
sighting_of (looked k s) = of_kind k
sighting_of (satisfied b) = of_expectations

abbrev pub commands_of : List Issue → List Command
commands_of is = map (λ (i : Issue). i.command) is

-- ---- what is next

-- all was seen, in its order, and all that is asked for was read live; what the plan makes of pods is expected, if it makes any; all
-- that was issued before was accepted; and in the plan this command follows what was issued
pub record IsNext (IsLook : Kind → Snapshot → Type 0) (IsRead : Read → Type 0) (t : Turn) (c : Command) : Type 0 where
  pub seen : map sighting_of t.sights ≡ order t.work_key.controller
  pub looks : AllByRecursion (IsSeen IsLook) t.sights
  pub reads : AllByRecursion IsRead t.reads
  pub read : asks t ≡ []
  pub expects : is_some (expected t) ≡ true → t.has_expected ≡ true
  pub accepted : all_accepted t.issues ≡ true
  pub next : (rest : List Command) × (commands t ≡ commands_of t.issues ++ c ∷ rest)

-- after these steps of a control plane, each command that was issued is the next one of the turn beside it, each look of which is what was
-- published, and each live read what was there at one revision
abbrev pub AreNext : ControlPlane → List Step → Type 0
AreNext p steps =
    let q = run p steps in AllByRecursion (λ (i : Issued). IsNext (WasPublished p steps) (WasThere (history q.cluster)) i.turn i.command) q.manager.issued

-- and so it is over every list of steps
abbrev pub IssuedIsNext : Type 0
IssuedIsNext = (window workers : ℕ) (initial : InitialSync) (steps : List Step) → AreNext (opened window workers initial) steps
