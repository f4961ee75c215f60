-- At rest, what is declared is there: each controller's plan of what is there is empty; and what that follows from.
use Rattle.std.specs.Prelude.{◌≡◌, ◌⊎◌, ◌≤◌, ◌<◌, ℕ, List, [], map, true, false, Some, codes}
use Rattle.std.specs.List.{AllByRecursion}
use Rattle.serde_json.specs.Data.{Data}
use Rattle.spec_api.specs.declared.kinds.Kind.{Kind}
use Rattle.spec_api.specs.declared.kinds.Kind.TheVariants as kind
use Rattle.spec_api.specs.Checks.{in_spec}
use Rattle.spec_api.specs.Defaults.{is_rolling_update}
use Rattle.spec_api.specs.History.{History, present, state, list}
use Rattle.spec_api.specs.Keys.{Key}
use Rattle.spec_api.specs.Metadata.{owners}
use Rattle.spec_api.specs.Reached.{IsReached}
use Rattle.spec_api.specs.SelectorValues.{is_some_and}
use Rattle.spec_client_go.specs.declared.controller.Controller.{Controller}
use Rattle.spec_client_go.specs.declared.controller.Controller.TheVariants as controller
use Rattle.spec_client_go.specs.Hands.{Hand, Read}
use Rattle.spec_client_go.specs.Informers.{Looks}
use Rattle.spec_client_go.specs.OwnerReferences.{owner_key, namespace_of}
use Rattle.spec_client_go.specs.Shifts.{Shift}
use Rattle.spec_client_go.specs.WorkQueues.{WorkKey}
use Rattle.spec_laws.specs.SentLaws.{whole}
use Rattle.spec_reconcile.specs.Counts.{count_in_status}
use Rattle.spec_reconcile.specs.Deployments.{is_name_taken, rollout}
use Rattle.spec_reconcile.specs.Standings.{is_to}
use Rattle.spec_sim.specs.declared.initial_syncs.InitialSync.{InitialSync}
use Rattle.spec_sim.specs.Clusters.{history, follower}
use Rattle.spec_sim.specs.ControlPlanes.{ControlPlane, Step, opened, run}
use Rattle.spec_sim.specs.NextSteps.{order}
use Rattle.spec_sim.specs.Turns.{Turn, asks_by, plan_by, asks, commands, was_satisfied}
use Rattle.sim_worker_laws.specs.IssuedLaws.{WasThere, IsSeen, sighting_of}
use Rattle.sim_rest_laws.specs.Rests.{IsAtRest}
use Rattle.sim_rest_laws.specs.ShiftRunLaws.{Lead}
use Rattle.sim_rest_laws.specs.LastTurnLaws.{BeganOnce, IsLastTurn, at_take, since_take}
use Rattle.sim_rest_laws.specs.OwedObjectLaws.{LooksAfter}
use Rattle.sim_rest_laws.specs.StillLaws.{of_kind, present_looks, OwedNothing, IsStill, IsLookOf, ShownIn}

-- ---- the whole

-- what is read live now
abbrev pub IsReadNow : History → Read → Type 0
IsReadNow h r = r.found ≡ state h (present h) r.key

-- a hand of what is there: the present lists, and these live reads; all that was expected was seen
abbrev pub present_hand : History → Key → List Read → Hand
present_hand h x reads = record { key = x; looks = present_looks h; is_satisfied = true; reads = reads }

-- no object ever had an owner reference with the uid of an object of this server that names another kind, namespace or name
abbrev pub ReferencesAreTrue : History → Type 0
ReferencesAreTrue h =
    (a b : ℕ) (x : Key) (d : Data) (k : Kind) → a ≤ present h → b ≤ present h → state h a x ≡ Some d
    → AllByRecursion (λ m. AllByRecursion (λ o. is_to d o ≡ true → owner_key (namespace_of m.1) o ≡ Some x) (owners m.1)) (list h (whole k) b)

-- a Deployment has not collided as often as can be counted (the greatest int32)
abbrev pub MayCollide : Data → Type 0
MayCollide d = count_in_status (codes "collisionCount") d < 2147483647

-- a Deployment of strategy Recreate has its new set, or no ReplicaSet has that set's name
abbrev pub NameIsFree : History → Key → Data → Type 0
NameIsFree h x d =
    let sets = list h (whole kind.ReplicaSet) (present h) in (is_some_and is_rolling_update (in_spec (codes "strategy") d) ≡ true) ⊎ (is_name_taken (rollout x d sets) sets ≡ false)

-- nothing keeps the new set of a Deployment from being made; of other objects nothing is asked
abbrev pub MayGoOn : Controller → History → Key → Data → Type 0
MayGoOn controller.Deployment h x d = MayCollide d × NameIsFree h x d
MayGoOn controller.ReplicaSet h x d = Unit {0}
MayGoOn controller.Collector h x d = Unit {0}

-- where followers have begun anew, as after a restart, no kind gave the whole map a second time, references are true, and nothing is left to do: of each object that is
-- there, the plan of a controller that looks after it, of what is there, is empty; where it is a Deployment, it may go on
abbrev pub NothingIsLeftOf : Controller → Type 0
NothingIsLeftOf c =
    (window workers : ℕ) (initial : InitialSync) (before after : List Step) (x : Key) (d : Data) (reads : List Read)
    → (let p = run (opened window workers initial) before in
    let h = history (run p after).cluster in
    BeganOnce p after → IsAtRest (run p after) → ReferencesAreTrue h → LooksAfter c x.kind → state h (present h) x ≡ Some d → MayGoOn c h x d
    → AllByRecursion (IsReadNow h) reads → asks_by c (present_hand h x reads) ≡ [] → plan_by c (present_hand h x reads) ≡ [])

-- so of each controller
abbrev pub NothingIsLeftAtRest : Type 0
NothingIsLeftAtRest = (c : Controller) → NothingIsLeftOf c

-- ---- what it follows from, beside the laws of runs

-- what has happened in a run can happen (a law of control planes says so)
abbrev pub RunsAreReached : Type 0
RunsAreReached = (window workers : ℕ) (initial : InitialSync) (steps : List Step) → IsReached (history (run (opened window workers initial) steps).cluster)

-- what an informer has published is the server's list at a revision that has happened (a law of control planes says so)
abbrev pub RunsShowLists : Type 0
RunsShowLists =
    (window workers : ℕ) (initial : InitialSync) (steps : List Step) (k : Kind)
    → (let c = (run (opened window workers initial) steps).cluster in
    let s = (follower k c).informer.published in (s.members ≡ list (history c) (whole k) s.revision) × (s.revision ≤ present (history c)))

-- these looks are of server lists
abbrev pub AreServerLists : History → (Looks → Type 0) → Type 0
AreServerLists h Shown = (l : Looks) → Shown l → (k : Kind) → (r : ℕ) × (r ≤ present h) × (of_kind k l ≡ list h (whole k) r)

-- a live read in a last turn leads, as a look does, to what is there by changes that owed its key nothing: none was skipped
abbrev pub LastReadsLead : Type 0
LastReadsLead =
    (window workers : ℕ) (initial : InitialSync) (before after : List Step) (j : WorkKey) (t : Turn)
    → (let p = run (opened window workers initial) before in
    let h = history (run p after).cluster in
    BeganOnce p after → IsAtRest (run p after) → (z : IsLastTurn p after j t)
    → AllByRecursion
    (λ (r : Read). (ss : List Shift) × Lead r.key r.found ss (state h (present h) r.key) × AllByRecursion (OwedNothing j (ShownIn (at_take p after j t z) (since_take p after j t z))) ss)
    t.reads)

-- in the last turn of a ReplicaSet all that was expected had been seen
abbrev pub LastAnswersAreYes : Type 0
LastAnswersAreYes =
    (window workers : ℕ) (initial : InitialSync) (before after : List Step) (j : WorkKey) (t : Turn)
    → (let p = run (opened window workers initial) before in
    BeganOnce p after → IsAtRest (run p after) → IsLastTurn p after j t → j.controller ≡ controller.ReplicaSet → was_satisfied t.sights ≡ true)

-- the plan of a last turn of a controller was empty, where an object is there under its key, since what its commands write owes the key again (a last turn of the collector may
-- have removed the object itself)
abbrev pub LastPlansAreEmptyOf : Controller → Type 0
LastPlansAreEmptyOf c =
    (window workers : ℕ) (initial : InitialSync) (before after : List Step) (j : WorkKey) (t : Turn)
    → (let p = run (opened window workers initial) before in
    let h = history (run p after).cluster in
    BeganOnce p after → IsAtRest (run p after) → ReferencesAreTrue h → IsLastTurn p after j t → j.controller ≡ c → LooksAfter c j.key.kind → (d : Data) → state h (present h) j.key ≡ Some d → commands t ≡ [])

-- a plan reads only what owes it: where it was empty, and all that was looked at and read leads to what is there by changes that owed its key nothing, it is empty
abbrev pub EmptyPlansStay : Type 0
EmptyPlansStay =
    (h : History) (j : WorkKey) (t : Turn) (d : Data) (q : ControlPlane) (since : List Step) (reads : List Read)
    → (let Shown = ShownIn q since in
    IsReached h → ReferencesAreTrue h → AreServerLists h Shown → IsStill j Shown (present_looks h)
    → t.work_key ≡ j → state h (present h) j.key ≡ Some d → MayGoOn j.controller h j.key d
    → map sighting_of t.sights ≡ order j.controller → AllByRecursion (IsSeen (IsLookOf Shown)) t.sights
    → AllByRecursion (λ (r : Read). (ss : List Shift) × Lead r.key r.found ss (state h (present h) r.key) × AllByRecursion (OwedNothing j Shown) ss) t.reads
    → AllByRecursion (WasThere h) t.reads → (j.controller ≡ controller.ReplicaSet → was_satisfied t.sights ≡ true) → asks t ≡ [] → commands t ≡ [] → AllByRecursion (IsReadNow h) reads
    → asks_by j.controller (present_hand h j.key reads) ≡ [] → plan_by j.controller (present_hand h j.key reads) ≡ [])

-- then it holds, of each controller whose last plans were empty
abbrev pub ItFollows : Type 0
ItFollows = RunsAreReached → RunsShowLists → LastReadsLead → EmptyPlansStay → (c : Controller) → LastPlansAreEmptyOf c → NothingIsLeftOf c
