-- Where nothing is left to do, what is declared is there. Said of a control plane that was opened, at the end of any of the steps that were taken since.
use Rattle.std.specs.Prelude.{◌≡◌, ◌++◌, List, [], true, false, Some}
use Rattle.std.specs.List.{AllByRecursion}
use Rattle.serde_json.specs.Data.{Data}
use Rattle.spec_api.specs.declared.kinds.Kind.TheVariants as kind
use Rattle.spec_api.specs.History.{History, present, state, list}
use Rattle.spec_api.specs.Keys.{Key}
use Rattle.spec_api.specs.Metadata.{is_being_deleted, owners}
use Rattle.spec_client_go.specs.declared.controller.Controller.{Controller}
use Rattle.spec_client_go.specs.Hands.{Read}
use Rattle.spec_client_go.specs.OwnerReferences.{namespace_of}
use Rattle.spec_laws.specs.RolloutLaws.{is_rolled}
use Rattle.spec_laws.specs.SentLaws.{whole}
use Rattle.spec_reconcile.specs.Deployments.{is_going_on, rollout}
use Rattle.spec_sim.specs.Clusters.{history}
use Rattle.spec_sim.specs.ControlPlanes.{ControlPlane, Step, run}
use Rattle.spec_sim.specs.Turns.{asks_by, plan_by}
use Rattle.reconcile_locality_laws.specs.SettledDeployments.{AreAvailable, IsRolledOut}
use Rattle.sim_rest_laws.specs.Rests.{IsAtRest}
use Rattle.sim_rest_laws.specs.LastTurnLaws.{BeganOnce}
use Rattle.sim_rest_laws.specs.OwedObjectLaws.{LooksAfter}
use Rattle.sim_rest_laws.specs.WholeLaws.{IsReadNow, MayCollide, MayGoOn, ReferencesAreTrue, present_hand}
use Rattle.sim_settled_laws.specs.SettledLaws.{IsAsDeclared, IsBlocked, IsThere}
use Rattle.world.specs.Taken.{Taken, opening}

-- the control plane that was opened, after these steps and then those
abbrev pub plane_at : Taken → List Step → List Step → ControlPlane
plane_at t before after = run (run (opening t) before) after

abbrev pub history_at : Taken → List Step → List Step → History
history_at t before after = history (plane_at t before after).cluster

-- these were steps that were taken; the followers had nothing when the second part of them began, as at first and after a restart, and no kind was listed or streamed whole a
-- second time in that part; at its end nothing is left to do; and no object ever had an owner reference with the uid of an object of this server that names another key
pub record HasComeToRest (t : Taken) (before after : List Step) : Type 0 where
  pub later : List Step
  pub taken : t.steps ≡ before ++ (after ++ later)
  pub once : BeganOnce (run (opening t) before) after
  pub rest : IsAtRest (plane_at t before after)
  pub references : ReferencesAreTrue (history_at t before after)

-- then, of each object that is there, the plan of a controller that looks after it, of what is there, is empty, unless it is a Deployment whose new set cannot be made. A
-- ReplicaSet that is not being deleted has just the active pods that it asks for, all match, no matching one of its namespace is without a controller, and its status counts
-- them. A Deployment of strategy RollingUpdate that is neither paused nor being deleted and has not collided as often as can be counted, all of whose sets have all their pods
-- available by their statuses, is rolled out: its new set is to have all pods and is at least of the revision that is due, the old ones are to have none. And of an object
-- that is not being deleted each owner of a served kind that it names is there, and does not wait for its dependents to go; one that is being deleted has no dependents that
-- are to be orphaned, and where it waits for them to go, one of them blocks it
pub record RestsAsDeclared (t : Taken) : Type 0 where
  pub nothing_is_left :
      (before after : List Step) (c : Controller) (x : Key) (d : Data) (reads : List Read) → HasComeToRest t before after
      → (let h = history_at t before after in
      LooksAfter c x.kind → state h (present h) x ≡ Some d → MayGoOn c h x d → AllByRecursion (IsReadNow h) reads → asks_by c (present_hand h x reads) ≡ [] → plan_by c (present_hand h x reads) ≡ [])
  pub sets :
      (before after : List Step) (x : Key) (set : Data) → HasComeToRest t before after
      → (let h = history_at t before after in x.kind ≡ kind.ReplicaSet → state h (present h) x ≡ Some set → is_being_deleted set ≡ false → IsAsDeclared h x set)
  pub deployments :
      (before after : List Step) (x : Key) (d : Data) → HasComeToRest t before after
      → (let h = history_at t before after in
      let r = rollout x d (list h (whole kind.ReplicaSet) (present h)) in
      x.kind ≡ kind.Deployment → state h (present h) x ≡ Some d → MayCollide d → is_going_on d ≡ true → is_rolled d ≡ true → AreAvailable r → IsRolledOut r d)
  pub owners :
      (before after : List Step) (x : Key) (d : Data) → HasComeToRest t before after
      → (let h = history_at t before after in state h (present h) x ≡ Some d → is_being_deleted d ≡ false → AllByRecursion (IsThere h (namespace_of d)) (owners d))
  pub deletions :
      (before after : List Step) (x : Key) (d : Data) → HasComeToRest t before after
      → (let h = history_at t before after in state h (present h) x ≡ Some d → is_being_deleted d ≡ true → IsBlocked h d)
