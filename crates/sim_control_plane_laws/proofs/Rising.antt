-- Between two restarts the revisions that are published never fall.
use Rattle.std.proofs.Common.{◌≤◌, ℕ, List, [], ◌∷◌, Option, Some, None, arith}
use Rattle.spec_api.specs.declared.kinds.Kind.{Kind}
use Rattle.spec_api.specs.ObjectRequests.{Request}
use Rattle.spec_api.specs.Verbs.{accept, history_after}
use Rattle.spec_sim.specs.Clusters.{Cluster, history, follower, request, compact, moves, restart}
use Rattle.spec_sim.specs.Followers.{Follower, Notification}
use Rattle.sim_cluster_laws.specs.ClusterLaws.{IsFollowed}
use Rattle.sim_cluster_laws.proofs.Runs.{rise_all}
use Rattle.spec_sim.proofs.ClusterFollowers.{with_moved, with_session}
use Rattle.spec_sim.specs.ControlPlanes.{ControlPlane, Step, in_cluster, handle, works, tick, opened, client, after_request, handle_in, step_in, step, run}
use Rattle.spec_sim.specs.Managers.{act}
use Rattle.sim_worker_laws.specs.OwedLaws.{NoRestart}
use Rattle.sim_worker_laws.proofs.Counting.{by_counted, by_tick}
use Rattle.sim_worker_laws.proofs.Owed.{first_of_none}
use Rattle.sim_control_plane_laws.specs.PlaneLaws.{PublishedRevisionsRise}
use Rattle.sim_control_plane_laws.proofs.PlaneRuns.{Well, well_step, all_well}

abbrev at : Kind → Cluster → ℕ
at k c = (follower k c).informer.published.revision

abbrev RisesFrom : Cluster → Kind → Follower → Type 0
RisesFrom c k f = at k c ≤ f.informer.published.revision

still : (c : Cluster) (k : Kind) → RisesFrom c k (follower k c)
still c k = omega arith

module _ (k : Kind) where
  rise_request : (o : Option Request) (c : Cluster) → at k c ≤ at k (after_request o c)
  rise_request None c = omega arith
  rise_request (Some q) c = with_session (RisesFrom c) c (record c.session { history = history_after (history c) (accept q (history c) c.session.moment) }) (still c) k

  rise_handle : (j : Kind) (ns : List Notification) (p : ControlPlane) → at k p.cluster ≤ at k (handle_in j ns p).plane.cluster
  rise_handle j [] p = omega arith
  rise_handle j (n ∷ ns) p = with_moved (RisesFrom p.cluster) p.cluster j (record (follower j p.cluster) { unhandled = ns }) (still p.cluster j) (still p.cluster) k

  rise_in : (p : ControlPlane) (s : Step) → NoRestart (s ∷ []) → IsFollowed p.cluster → at k p.cluster ≤ at k (step_in p s).plane.cluster
  rise_in p (in_cluster (request t)) none is = rise_all k p.cluster (request t ∷ []) tt is
  rise_in p (in_cluster (compact r)) none is = rise_all k p.cluster (compact r ∷ []) tt is
  rise_in p (in_cluster (moves j m)) none is = rise_all k p.cluster (moves j m ∷ []) tt is
  rise_in p (in_cluster restart) none is = absurd none
  rise_in p (handle j) none is = rise_handle j (follower j p.cluster).unhandled p
  rise_in p (works w a) none is = rise_request (act (client p.cluster) w a p.manager).request p.cluster
  rise_in p (tick n) none is = by_tick (λ c m o. at k p.cluster ≤ at k c) n p (still p.cluster k) (still p.cluster k)

  rise_run : (p : ControlPlane) (ss : List Step) → NoRestart ss → Well p.cluster p.manager → at k p.cluster ≤ at k (run p ss).cluster
  rise_run p [] none is = omega arith
  rise_run p (s ∷ ss) none is =
      let two = first_of_none s ss none in
      let here : at k p.cluster ≤ at k (step p s).plane.cluster = by_counted (λ c m o. at k p.cluster ≤ at k c) (step_in p s) (rise_in p s two.0 is.0) in
      let later = rise_run (step p s).plane ss two.1 (well_step p s is) in omega (arith, here, later)

pub revisions_rise : PublishedRevisionsRise
revisions_rise window workers initial before steps k none = rise_run k (run (opened window workers initial) before) steps none (all_well window workers initial before)
