-- A world as it is stored, and how it goes on: a stored cluster stands in the place of all that has happened.
use Rattle.std.specs.Prelude.{ℕ, ◌+◌, List, [], ◌∷◌, length, refl, if◌then◌else◌}
use Rattle.std.specs.Coded.{Coded, code_by, coded×}
use Rattle.spec_api.specs.declared.kinds.Kind.{Kind}
use Rattle.spec_client_go.specs.Boards.{observed, may_tick, ticked}
use Rattle.spec_client_go.specs.OwedKeys.{keys_of}
use Rattle.spec_client_go.specs.WorkQueues.{WorkKey}
use Rattle.spec_sim.specs.declared.initial_syncs.InitialSync.{InitialSync}
use Rattle.spec_sim.specs.Clusters.{ClusterStep}
use Rattle.spec_sim.specs.Followers.{Notification}
use Rattle.spec_sim.specs.ControlPlanes.{Step, in_cluster, handle, works, tick, change_of, manager_after}
use Rattle.spec_sim.specs.Managers as managers
use Rattle.spec_sim.specs.Managers.{Manager, Acted, act}
use Rattle.spec_sim.specs.Outcomes.{Outcome, of_cluster, handled, time, no_step}
use Rattle.spec_sim.specs.PodObservations.{observations}
use Rattle.sim_cluster.specs.Changes.{looks, without_oldest}
use Rattle.sim_cluster.specs.ClusterStates as clusters
use Rattle.sim_cluster.specs.ClusterStates.{ClusterState, coded_cluster, follower}
use Rattle.sim_manager.specs.Codes.{coded_manager}
use Rattle.sim_manager.specs.Reached.{client_of, after_request}

-- a cluster, and the controller manager
pub record StoredState : Type 0 where
  pub cluster : ClusterState
  pub manager : Manager

-- a code by which a model may store it
abbrev pub coded_stored : Coded StoredState
coded_stored =
    code_by (ClusterState × Manager) (coded× coded_cluster coded_manager) (λ w. (w.cluster, w.manager)) (λ p. record { cluster = p.0; manager = p.1 }) (λ _. refl)

-- nothing has happened yet; windows have this size, there are so many workers, and followers begin so
abbrev pub opened : ℕ → ℕ → InitialSync → StoredState
opened window workers initial = record { cluster = clusters.opened window initial; manager = managers.begun workers }

-- ---- steps

-- a world after a step, and what is told of it
pub record Stepped : Type 0 where
  pub world : StoredState
  pub outcome : Outcome

abbrev pub closed : StoredState → Stepped
closed w = record { world = w; outcome = no_step }

-- a step of the cluster, of which a restart is one of the manager too
abbrev pub step_cluster : ClusterStep → StoredState → Stepped
step_cluster s w =
    let c = clusters.step w.cluster s in
    record { world = record w { cluster = c.cluster; manager = manager_after s w.manager }; outcome = of_cluster c.outcome }

-- the work keys that a change owes, by what is published when it is handled
abbrev pub owed : ClusterState → Notification → List WorkKey
owed c n = keys_of (change_of n.shift) (looks c)

-- the oldest change of a kind is handled
abbrev pub handle_in : Kind → List Notification → StoredState → Stepped
handle_in k [] w = closed w
handle_in k (n ∷ rest) w =
    let ks = owed w.cluster n in
    record {
      world = record w { cluster = without_oldest k w.cluster; manager = record w.manager { board = observed (observations n) ks w.manager.board } };
      outcome = handled k (length ks);
    }

-- a worker acts
abbrev pub after_action : Acted → StoredState → Stepped
after_action a w = record { world = record w { cluster = after_request a.request w.cluster; manager = a.manager }; outcome = a.outcome }

-- time passes
abbrev pub tick_in : ℕ → StoredState → Stepped
tick_in n w =
    let b = w.manager.board in
    if may_tick n b then record { world = record w { manager = record w.manager { board = ticked n b } }; outcome = time (b.time + n) } else closed w

unfoldable pub step : StoredState → Step → Stepped
step w (in_cluster s) = step_cluster s w
step w (handle k) = handle_in k (follower k w.cluster).unhandled w
step w (works n a) = after_action (act (client_of w.cluster) n a w.manager) w
step w (tick n) = tick_in n w

-- one step after another
abbrev pub run : StoredState → List Step → StoredState
run w [] = w
run w (s ∷ ss) = run (step w s).world ss
