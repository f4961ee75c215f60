-- What holds of every world, over every list of steps of clients, controllers, reflectors, workers, cut streams and compactions: of a world
-- that was opened, and all steps that were taken since, whichever calls took them.
use Rattle.std.specs.Prelude.{◌≡◌, ◌≤◌, ◌⊎◌, ℕ, List, [], ◌∷◌, ◌++◌, true, Some, slice_get}
use Rattle.std.specs.List.{AllByRecursion}
use Rattle.spec_api.specs.declared.kinds.Kind.{Kind}
use Rattle.serde_json.specs.Data.{Data}
use Rattle.spec_api.specs.History as history
use Rattle.spec_api.specs.History.{History, write, present, state}
use Rattle.spec_api.specs.Keys.{Key}
use Rattle.spec_api.specs.Metadata.{version}
use Rattle.spec_api.specs.ObjectRequests.{Request}
use Rattle.spec_client_go.specs.Commands.{Command}
use Rattle.spec_client_go.specs.Expectations.{Owner}
use Rattle.spec_client_go.specs.WorkQueues.{WorkKey}
use Rattle.spec_sim.specs.Clusters as clusters
use Rattle.spec_sim.specs.Clusters.{follower, request, moves}
use Rattle.spec_sim.specs.Followers.{Notification}
use Rattle.spec_sim.specs.Moves.{publish}
use Rattle.sim_cluster_laws.specs.ClusterLaws.{Asks, NamesVersion}
use Rattle.spec_sim.specs.ControlPlanes as planes
use Rattle.spec_sim.specs.ControlPlanes.{ControlPlane, Step, in_cluster, works, client, have_all_listed}
use Rattle.spec_sim.specs.Managers.{Issued, Action, act, take}
use Rattle.spec_sim.specs.Turns.{Turn, begun}
use Rattle.sim_worker_laws.specs.IssuedLaws.{IsNext, WasThere}
use Rattle.sim_worker_laws.specs.LookLaws.{WasPublishedSince, IsUnderWay, WasIssued}
use Rattle.sim_worker_laws.specs.OwedLaws.{IsAmong, NoRestart, IsKept, published}
use Rattle.sim_worker_laws.specs.TakeLaws.{HasInHand, HasNothing, TakesTheHead}
use Rattle.sim_worker_laws.specs.TurnLaws.{AreApart}
use Rattle.sim_control_plane_laws.specs.PlaneLaws.{IsServerList}
use Rattle.sim_control_plane_laws.specs.SparingLaws as collector
use Rattle.sim_control_plane_laws.specs.SparingLaws.{IsOfTheCollector}
use Rattle.sim_overshoot_laws.specs.Overshoot.{LetAlone, NeverMoreThanDeclared}
use Rattle.world.specs.Rests.{RestsAsDeclared}
use Rattle.world.specs.Taken.{Taken, opening, plane}
use Rattle.sim_cluster.specs.Headline.{ShowsLists}
use Rattle.world.specs.Standing.{StandsFor}
use Rattle.world.specs.WorldStates.{WorldState}

-- ---- the steps that were taken

-- the control plane after these of the steps that were taken, and what had happened at its server then
abbrev pub plane_after : Taken → List Step → ControlPlane
plane_after t steps = planes.run (opening t) steps

abbrev pub history_after : Taken → List Step → History
history_after t steps = clusters.history (plane_after t steps).cluster

-- some of the steps that were taken, then this one, and then the others
abbrev pub WasTaken : Taken → List Step → Step → List Step → Type 0
WasTaken t before s after = t.steps ≡ before ++ s ∷ after

-- ---- commands, and what stands behind them

-- each turn in a worker's hands, whether it has issued anything or not, is as its steps made it, in their order: each look is a map that the
-- informer of its kind had published since the last restart, and each live read is what was there at one revision
pub record TurnsAreUnderWay (t : Taken) (turns : ℕ → Turn → Type 0) : Type 0 where
  pub under_way : (worker : ℕ) (u : Turn) → turns worker u → IsUnderWay (WasPublishedSince (opening t) t.steps) (WasThere (history_after t t.steps)) u

-- ---- conditional writes

-- a client's line asks this request in a step, or a worker's command
abbrev pub IsAskedBy : ControlPlane → Step → Request → Type 0
IsAskedBy p (in_cluster (request t)) q = Asks t q
IsAskedBy p (works n a) q = (act (client p.cluster) n a p.manager).request ≡ Some q
IsAskedBy p s q = ⊥

-- where a step asked an update, an update of the status, a patch or a delete that names a version: if that made a write, it is of the object
-- asked for, and what stood there before had just this version (Kubernetes API Conventions, Concurrency Control and Consistency)
pub record ReplacesNamedVersions (t : Taken) : Type 0 where
  pub replaces :
      (before after : List Step) (s : Step) (q : Request) (k : Key) (named : List ℕ) (w : history.Write) → WasTaken t before s after
      → (let h = history_after t before in
      IsAskedBy (plane_after t before) s q → NamesVersion h k named q → history_after t (before ++ s ∷ []) ≡ h ++ write w ∷ []
      → (existing : Data) × (w.key ≡ k) × (state h (present h) k ≡ Some existing) × (version existing ≡ Some named))

-- ---- what changes owe

-- each change that a step published is kept until the next restart: it is still to be handled; or it was handled, and each key that it owed,
-- by what was published then, is dirty, or was taken after that
pub record ForgetsNothing (t : Taken) : Type 0 where
  pub kept :
      (before after rest : List Step) (k : Kind) (n : Notification) → WasTaken t before (in_cluster (moves k publish)) (after ++ rest) → IsAmong n (published k (plane_after t before).cluster)
      → NoRestart after → IsKept (planes.step (plane_after t before) (in_cluster (moves k publish))).plane after k n

-- between any two restarts, and before the first and after the last, the revision that is published of a kind does not fall
pub record RevisionsRise (t : Taken) : Type 0 where
  pub rise :
      (before middle after : List Step) (k : Kind) → t.steps ≡ before ++ (middle ++ after) → NoRestart middle
      → (follower k (plane_after t before).cluster).informer.published.revision ≤ (follower k (plane_after t (before ++ middle)).cluster).informer.published.revision

-- ---- how turns begin

-- a worker that has nothing in hand and takes a key gets that at the head of the queue, if one is queued and each kind has been published;
-- and nothing else gives a turn: who has one after a step had one of that key before it, or took the head of the queue in it
pub record TakesTheHeads (t : Taken) : Type 0 where
  pub gives :
      (before after : List Step) (w : ℕ) (k : WorkKey) (rest : List WorkKey) → WasTaken t before (works w take) after
      → (let p = plane_after t before in
      HasNothing w p → have_all_listed p.cluster ≡ true → p.manager.board.work.queue ≡ k ∷ rest → TakesTheHead w k rest p.manager (plane_after t (before ++ works w take ∷ [])).manager)
  pub only :
      (before after : List Step) (s : Step) (w : ℕ) (u : Turn) → WasTaken t before s after
      → (let p = plane_after t before in
      let q = plane_after t (before ++ s ∷ []) in
      HasInHand w u q
      → ((v : Turn) × HasInHand w v p × (v.work_key ≡ u.work_key))
      ⊎ (HasNothing w p × (s ≡ works w take) × ((rest : List WorkKey) × TakesTheHead w u.work_key rest p.manager q.manager) × (u ≡ begun u.work_key)))

-- ---- what the collector spares

-- where a worker's next command was the collector's, and its step made a write: what a delete marked or removed named an owner, and none of
-- those that it named was there and not being deleted, each being of a served kind; and what an update removed was being deleted already
-- (Kubernetes, Garbage Collection)
pub record SparesLiveOwners (t : Taken) : Type 0 where
  pub spares :
      (before after : List Step) (n : ℕ) (a : Action) (x : Command) (w : history.Write) → WasTaken t before (works n a) after
      → (let h = history_after t before in
      IsOfTheCollector n x (plane_after t before).manager → history_after t (before ++ works n a ∷ []) ≡ h ++ write w ∷ [] → collector.SparesLiveOwners h x w)

-- ---- no more pods than were declared

-- a set of this key and uid was let alone in the first of these steps: at no yes to its question whether all expected pods have been seen were
-- creations left to be seen, so that it was not by age alone; none but the ReplicaSet controller gave a pod the controller reference to the
-- set, took it away, or changed the labels of a pod that has it; and no finished pod of it began again. Then of the pods that the
-- controller made for the set there are no more active ones than the greatest number of replicas that the set ever had
pub record NeverOvershoots (t : Taken) : Type 0 where
  pub few : (o : Owner) (before after : List Step) → t.steps ≡ before ++ after → LetAlone o (opening t) before → NeverMoreThanDeclared o (opening t) before

-- ---- all of it

pub record Headline (w : WorldState) : Type 0 where
  -- what is stored stands for the control plane that was opened, after the steps that were taken
  pub stands : StandsFor w (plane w.trace)
  -- its journal is what has happened: each write and each compaction of all these steps
  pub happened : w.stored.cluster.journal ≡ history_after w.trace w.trace.steps
  -- what each informer has published is the server's list at the revision that is published with it, which has happened
  pub lists : ShowsLists w.stored.cluster
  -- no key is in two workers' hands
  pub hands : AreApart w.stored.manager.turns
  -- each command that a worker issued is the next one of its plan for the turn that it then had in hand, each look of which its informer had
  -- published since the last restart, and each live read of which is what was there at one revision; and so is each turn in hand now
  pub issued : AllByRecursion (WasIssued (opening w.trace) w.trace.steps) w.stored.manager.issued
  pub turns : TurnsAreUnderWay w.trace (λ n u. slice_get w.stored.manager.turns n ≡ Some (Some u))
  -- so each look was the server's list at its revision, by the journal
  pub looks : AllByRecursion (λ (i : Issued). IsNext (IsServerList w.stored.cluster.journal) (WasThere w.stored.cluster.journal) i.turn i.command) w.stored.manager.issued
  -- each accepted write that names a version replaced exactly that version
  pub replaces : ReplacesNamedVersions w.trace
  -- no published change is forgotten, and no informer goes back
  pub owed : ForgetsNothing w.trace
  pub rise : RevisionsRise w.trace
  -- a turn begins with the head of the queue
  pub takes : TakesTheHeads w.trace
  -- the collector spares what has a live owner
  pub spares : SparesLiveOwners w.trace
  -- of the pods that were made for a set that is let alone never more are active than the greatest number of replicas that it had
  pub few : NeverOvershoots w.trace
  -- where nothing is left to do, what is declared is there
  pub rests : RestsAsDeclared w.trace
