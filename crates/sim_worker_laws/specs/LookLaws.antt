-- Whatever steps are taken: what each worker looked at and read in its turn, and that each command that was issued is the next one of the turn that its worker had in hand.
use Rattle.std.specs.Prelude.{◌≡◌, ℕ, List, ◌∷◌, ◌++◌, map, true, Some, slice_get}
use Rattle.std.specs.List.{AllByRecursion}
use Rattle.spec_api.specs.declared.kinds.Kind.{Kind}
use Rattle.spec_server.specs.Snapshots.{Snapshot}
use Rattle.spec_client_go.specs.Hands.{Read}
use Rattle.spec_sim.specs.declared.initial_syncs.InitialSync.{InitialSync}
use Rattle.spec_sim.specs.Clusters.{history, follower}
use Rattle.spec_sim.specs.ControlPlanes.{ControlPlane, Step, works, opened, run}
use Rattle.spec_sim.specs.Managers.{Issued, Delivery, issue}
use Rattle.spec_sim.specs.NextSteps.{order, unseen}
use Rattle.spec_sim.specs.Turns.{Turn, commands, left}
use Rattle.sim_worker_laws.specs.IssuedLaws.{WasThere, IsSeen, sighting_of, commands_of, IsNext}
use Rattle.sim_worker_laws.specs.OwedLaws.{NoRestart}

-- after some beginning of these steps, since which there was no restart, just this was published of a kind, of which a list had been published
abbrev pub WasPublishedSince : ControlPlane → List Step → Kind → Snapshot → Type 0
WasPublishedSince p steps k s =
    (before : List Step) × (after : List Step) × (steps ≡ before ++ after) × NoRestart after
    × (let f = follower k (run p before).cluster in (s ≡ f.informer.published) × (f.has_listed ≡ true))

-- ---- turns in hand

-- what was seen is a beginning of what is to be seen, in its order; and what was issued is a beginning of the plan
pub record IsUnderWay (IsLook : Kind → Snapshot → Type 0) (IsRead : Read → Type 0) (t : Turn) : Type 0 where
  pub seen : map sighting_of t.sights ++ unseen t ≡ order t.work_key.controller
  pub looks : AllByRecursion (IsSeen IsLook) t.sights
  pub reads : AllByRecursion IsRead t.reads
  pub issued : commands_of t.issues ++ left t ≡ commands t

-- over every list of steps: each turn that is in a worker's hands is under way, whether anything was issued in it or not; each look of it was
-- published since the last restart, and each live read was there at one revision
abbrev pub TurnsAreUnderWay : Type 0
TurnsAreUnderWay =
    (window workers : ℕ) (initial : InitialSync) (steps : List Step) (w : ℕ) (t : Turn)
    → (let p = run (opened window workers initial) steps in
    slice_get p.manager.turns w ≡ Some (Some t) → IsUnderWay (WasPublishedSince (opened window workers initial) steps) (WasThere (history p.cluster)) t)

-- ---- issued commands

-- the steps are some, then that in which a worker issued this command, and the rest; before it the worker had just this turn in its hands, whose
-- next command this is, by looks that were published since the last restart before it, and live reads of what was there at one revision by then
pub record WasIssued (p : ControlPlane) (steps : List Step) (i : Issued) : Type 0 where
  pub before : List Step
  pub after : List Step
  pub worker : ℕ
  pub delivery : Delivery
  pub step : steps ≡ before ++ works worker (issue delivery) ∷ after
  pub hand : slice_get (run p before).manager.turns worker ≡ Some (Some i.turn)
  pub next : IsNext (WasPublishedSince p before) (WasThere (history (run p before).cluster)) i.turn i.command

-- over every list of steps, so was each command that was issued
abbrev pub CommandsWereIssued : Type 0
CommandsWereIssued = (window workers : ℕ) (initial : InitialSync) (steps : List Step) → AllByRecursion (WasIssued (opened window workers initial) steps) (run (opened window workers initial) steps).manager.issued
