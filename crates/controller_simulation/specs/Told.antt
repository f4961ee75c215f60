-- What is told of a step, by what was wanted.
use Rattle.std.specs.Prelude.{◌≡◌, ◌⊎◌, ◌+◌, ◌^◌, ◌-◌, ℕ, List, Option, None, Bool, true, false, Vec, min}
use Rattle.std.specs.Global.{Global}
use Rattle.std.specs.declared.cmp.Ordering.{Ordering}
use Rattle.spec_api.specs.declared.kinds.Kind.{Kind}
use Rattle.spec_sim.specs.Clusters.{ClusterStep, request, compact, moves, restart}
use Rattle.keyed_board.specs.Boards.{KeyBoard}
use Rattle.keyed_board.specs.declared.outcome.Outcome.{Outcome}
use Rattle.keyed_queues.specs.Queues.{handed}
use Rattle.sim_cluster.specs.ClusterStates.{ClusterState, step}
use Rattle.sim_followers.specs.Outcomes.{outcome_of}
use Rattle.sim_followers.specs.declared.outcomes.ClusterOutcome.{ClusterOutcome}
use Rattle.sim_steps.specs.Steps.{step_of}
use Rattle.sim_steps.specs.declared.actions.Action.{Action}
use Rattle.sim_steps.specs.declared.actions.Action.TheVariants.{Take, Look, AskSatisfied, ReadLive, Expect, Issue, Finish}
use Rattle.sim_steps.specs.declared.plane_steps.PlaneStep.{PlaneStep}
use Rattle.sim_steps.specs.declared.plane_steps.PlaneStep.TheVariants as plane
use Rattle.controller_simulation.specs.Working.{AsksBy, can_take, looks_now, taking_of}
use Rattle.controller_simulation.specs.Worlds.{oldest_in}
use Rattle.controller_simulation.specs.declared.events.WorldEvent.{WorldEvent}
use Rattle.controller_simulation.specs.declared.events.WorldEvent.TheVariants.{NoStep, InCluster, Restarted, Handled, OwedAgain, Took, Looked, Asked, Finished, Differs, Time}
use Rattle.controller_simulation.specs.declared.fates.Fate.{Fate}
use Rattle.controller_simulation.specs.declared.fates.Fate.TheVariants.{Sent, Refused}
use Rattle.controller_simulation.specs.declared.steps.WorldStep.{WorldStep}
use Rattle.controller_simulation.specs.declared.steps.WorldStep.TheVariants.{Plane, Refuse, OweAgain}
use Rattle.controller_simulation.specs.declared.turns.ControllerTurn.{ControllerTurn}
use Rattle.controller_simulation.specs.declared.working.Taking.{Taking}
use Rattle.controller_simulation.specs.declared.working.Taking.TheVariants as taking
use Rattle.controller_simulation.specs.declared.worlds.ControllerWorld.{ControllerWorld}

-- ---- the cluster

-- just this step was taken, and is told
abbrev pub ToldBy : {K : Type 0} → ClusterStep → ClusterState → ClusterState → WorldEvent K → Type 0
ToldBy s w v told = (o : ClusterOutcome) × (told ≡ InCluster o) × (v ≡ (step w s).cluster) × (outcome_of o ≡ (step w s).outcome)

-- where it is a restart, that is told
abbrev pub TookStep : {K : Type 0} → ClusterStep → ClusterState → ClusterState → WorldEvent K → Type 0
TookStep (request l) w v told = ToldBy (request l) w v told
TookStep (compact r) w v told = ToldBy (compact r) w v told
TookStep (moves k m) w v told = ToldBy (moves k m) w v told
TookStep restart w v told = told ≡ Restarted

-- ---- changes

-- a change of the kind was handled, unless none is to be
abbrev pub IsHandled : {K : Type 0} → Kind → ClusterState → WorldEvent K → Type 0
IsHandled {K = K} k w told = ((told ≡ NoStep) × (oldest_in k w ≡ None)) ⊎ ((keys : Vec K Global) × (told ≡ Handled k keys))

abbrev pub IsOwedAgain : {K : Type 0} → WorldEvent K → Type 0
IsOwedAgain {K = K} told = (keys : Vec K Global) × (told ≡ OwedAgain keys)

-- ---- workers

abbrev pub told_of_taking : {K : Type 0} → ℕ → Taking → WorldEvent K
told_of_taking worker taking.NotOpen = NoStep
told_of_taking worker taking.NoneWaits = Took worker false
told_of_taking worker taking.Took = Took worker true

-- a worker that may take a key takes the one that waits longest
abbrev pub told_of_take : {K N : Type 0} {R : N → N → Ordering} → ℕ → List (Option (ControllerTurn K)) → ClusterState → KeyBoard R → WorldEvent K
told_of_take worker turns w b = told_of_taking worker (taking_of (can_take worker turns w) (handed b.work))

abbrev pub told_of_looking : {K : Type 0} → ℕ → Kind → Bool → WorldEvent K
told_of_looking worker k false = NoStep
told_of_looking worker k true = Looked worker k

-- a worker looks at a kind once in a turn
abbrev pub told_of_look : {K : Type 0} → ℕ → Kind → List (Option (ControllerTurn K)) → WorldEvent K
told_of_look worker k turns = told_of_looking worker k (looks_now worker k turns)

-- a worker asked something, with this fate; or its reconcile asks something else than before, or it asks nothing
abbrev pub IsIssued : {K : Type 0} → Fate → ℕ → ControllerWorld K → ControllerWorld K → WorldEvent K → Type 0
IsIssued f worker w v told = ((told ≡ Asked worker) × AsksBy f worker w v) ⊎ ((told ≡ Differs worker) ⊎ (told ≡ NoStep))

-- a worker gave its key back, or its reconcile does not end
abbrev pub IsFinished : {K : Type 0} → ℕ → WorldEvent K → Type 0
IsFinished {K = K} worker told = ((key : K) × (outcome : Outcome) × (told ≡ Finished worker key outcome)) ⊎ (told ≡ NoStep)

abbrev pub IsWork : {K N : Type 0} {R : N → N → Ordering} → Action → ℕ → ControllerWorld K → ControllerWorld K → KeyBoard R → WorldEvent K → Type 0
IsWork Take worker w v b told = told ≡ told_of_take worker w.turns.items w.cluster b
IsWork (Look k) worker w v b told = told ≡ told_of_look worker k w.turns.items
IsWork AskSatisfied worker w v b told = told ≡ NoStep
IsWork ReadLive worker w v b told = told ≡ NoStep
IsWork Expect worker w v b told = told ≡ NoStep
IsWork (Issue d) worker w v b told = IsIssued (Sent d) worker w v told
IsWork Finish worker w v b told = IsFinished worker told

-- ---- all

-- by the world before and after, and what the board says before
abbrev pub IsPlanned : {K N : Type 0} {R : N → N → Ordering} → PlaneStep → ControllerWorld K → ControllerWorld K → KeyBoard R → WorldEvent K → Type 0
IsPlanned (plane.InCluster s) w v b told = TookStep (step_of s) w.cluster v.cluster told
IsPlanned (plane.Handle k) w v b told = IsHandled k w.cluster told
IsPlanned (plane.Works worker a) w v b told = IsWork a worker w v b told
IsPlanned (plane.Tick milliseconds) w v b told = told ≡ Time (min (w.time + milliseconds) (2 ^ 64 - 1))

abbrev pub IsToldOf : {K N : Type 0} {R : N → N → Ordering} → WorldStep → ControllerWorld K → ControllerWorld K → KeyBoard R → WorldEvent K → Type 0
IsToldOf (Plane s) w v b told = IsPlanned s w v b told
IsToldOf (Refuse worker code) w v b told = IsIssued (Refused code) worker w v told
IsToldOf OweAgain w v b told = IsOwedAgain told
