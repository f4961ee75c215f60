-- Whatever steps are taken: the keys that are being processed are those in workers' hands, and no key is in two.
use Rattle.std.proofs.Common.{ℕ, ◌+◌, List, [], ◌∷◌, Bool, true, false, cond}
use Rattle.spec_api.specs.declared.kinds.Kind.{Kind}
use Rattle.spec_client_go.specs.Delays.{due}
use Rattle.spec_client_go.specs.Boards.{may_tick, passed}
use Rattle.spec_sim.specs.declared.initial_syncs.InitialSync.{InitialSync}
use Rattle.spec_sim.specs.Clusters.{ClusterStep, request, compact, moves, restart, follower}
use Rattle.spec_sim.specs.Followers.{Notification}
use Rattle.spec_sim.specs.ControlPlanes.{ControlPlane, Step, Stepped, in_cluster, handle, works, tick, client, handle_in, tick_in, closed, step_in, counted, step, opened, run, owed, manager_after}
use Rattle.spec_sim.specs.Managers.{Manager}
use Rattle.spec_sim.specs.Outcomes as outcomes
use Rattle.spec_sim.specs.Outcomes.{was_open}
use Rattle.sim_worker_laws.specs.TurnLaws.{HandsAreApart, ProcessingIsInHands}
use Rattle.sim_worker_laws.proofs.InHands.{unique}
use Rattle.sim_worker_laws.proofs.Processing.{Fits, fits-added, fits-act, fits-begun, fits-restarted}

abbrev pub FitsIn : Manager → Type 0
FitsIn m = Fits m.board.work m.turns

-- that a step is counted changes neither the cluster nor the manager
pub same_manager : (P : Manager → Type 0) (s : Stepped) → P s.plane.manager → P (counted s).plane.manager
same_manager P s p = by (was_open s.outcome)
  where
    by : (b : Bool) → P (cond b (record s { plane = record s.plane { taken = s.plane.taken + 1 } }) s).plane.manager
    by true = p
    by false = p

fits_restart : (s : ClusterStep) (m : Manager) → FitsIn m → FitsIn (manager_after s m)
fits_restart (request t) m f = f
fits_restart (compact r) m f = f
fits_restart (moves k x) m f = f
fits_restart restart m f = fits-restarted m.turns

fits_handle : (k : Kind) (ns : List Notification) (p : ControlPlane) → FitsIn p.manager → FitsIn (handle_in k ns p).plane.manager
fits_handle k [] p f = f
fits_handle k (n ∷ ns) p f = fits-added (owed p.cluster n) p.manager.board.work p.manager.turns f

fits_tick : (n : ℕ) (p : ControlPlane) → FitsIn p.manager → FitsIn (tick_in n p).plane.manager
fits_tick n p f = by (may_tick n p.manager.board)
  where
    by : (x : Bool)
        → FitsIn (cond x (record { plane = record p { manager = record p.manager { board = cond x (passed (p.manager.board.time + n) p.manager.board) p.manager.board } }; outcome = outcomes.time (p.manager.board.time + n) }) (closed p)).plane.manager
    by true = fits-added (due (p.manager.board.time + n) p.manager.board.delays) p.manager.board.work p.manager.turns f
    by false = f

fits_in : (p : ControlPlane) (s : Step) → FitsIn p.manager → FitsIn (step_in p s).plane.manager
fits_in p (in_cluster s) f = fits_restart s p.manager f
fits_in p (handle k) f = fits_handle k (follower k p.cluster).unhandled p f
fits_in p (works w a) f = fits-act (client p.cluster) w a p.manager f
fits_in p (tick n) f = fits_tick n p f

run_fits : (p : ControlPlane) (ss : List Step) → FitsIn p.manager → FitsIn (run p ss).manager
run_fits p [] f = f
run_fits p (s ∷ ss) f = run_fits (step p s).plane ss (same_manager FitsIn (step_in p s) (fits_in p s f))

pub all_fit : (window workers : ℕ) (initial : InitialSync) (steps : List Step) → FitsIn (run (opened window workers initial) steps).manager
all_fit window workers initial steps = run_fits (opened window workers initial) steps (fits-begun workers)

pub apart : HandsAreApart
apart window workers initial steps v w a b x y k = unique v w a b (run (opened window workers initial) steps).manager.turns (all_fit window workers initial steps).2 x y k

pub processing : ProcessingIsInHands
processing window workers initial steps k = (all_fit window workers initial steps).1 k
