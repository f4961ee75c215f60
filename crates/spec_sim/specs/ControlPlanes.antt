-- A control plane: a cluster and the controller manager beside it, one step after another (Kubernetes, Cluster Architecture, Control plane components).
use Rattle.std.specs.Prelude.{ℕ, ◌+◌, ◌&&◌, List, [], ◌∷◌, length, Bool, Option, Some, None, if◌then◌else◌}
use Rattle.spec_api.specs.declared.kinds.Kind.{Kind}
use Rattle.spec_api.specs.History.{present, state}
use Rattle.spec_api.specs.ObjectRequests.{Request}
use Rattle.spec_api.specs.Verbs.{accept, history_after}
use Rattle.spec_client_go.specs.OwedKeys.{Change, keys_of}
use Rattle.spec_client_go.specs.Shifts.{Shift}
use Rattle.spec_client_go.specs.WorkQueues.{WorkKey}
use Rattle.spec_client_go.specs.Boards.{observed, may_tick, ticked}
use Rattle.spec_sim.specs.declared.initial_syncs.InitialSync.{InitialSync}
use Rattle.spec_sim.specs.Clusters as clusters
use Rattle.spec_sim.specs.Clusters.{Cluster, history, follower, with_follower, looks, ClusterStep, restart}
use Rattle.spec_sim.specs.Followers.{Notification}
use Rattle.spec_sim.specs.Managers as managers
use Rattle.spec_sim.specs.Managers.{Client, Manager, Action, Acted, act}
use Rattle.spec_sim.specs.Outcomes.{Outcome, of_cluster, handled, time, no_step, was_open}
use Rattle.spec_sim.specs.PodObservations.{observations}

-- a cluster, the controller manager, and how many steps were taken
pub record ControlPlane : Type 0 where
  pub cluster : Cluster
  pub manager : Manager
  pub taken : ℕ

-- nothing has happened yet; windows have this size, there are so many workers, and followers begin so
abbrev pub opened : ℕ → ℕ → InitialSync → ControlPlane
opened window workers i = record { cluster = clusters.opened window i; manager = managers.begun workers; taken = 0 }

-- ---- what workers reach of a cluster

abbrev pub have_all_listed : Cluster → Bool
have_all_listed c = c.config_maps.has_listed && c.pods.has_listed && c.replica_sets.has_listed && c.deployments.has_listed

abbrev pub client : Cluster → Client
client c =
    record {
      has_synced = have_all_listed c;
      published = λ k. (follower k c).informer.published;
      live = λ k. state (history c) (present (history c)) k;
      answer = λ q. accept q (history c) c.session.moment;
    }

-- the cluster after a request, if one was asked
abbrev pub after_request : Option Request → Cluster → Cluster
after_request None c = c
after_request (Some q) c = record c { session = record c.session { history = history_after (history c) (accept q (history c) c.session.moment) } }

-- ---- steps

-- a step of the cluster, of which a restart is one of the manager too; the oldest change of a kind is handled; a worker acts; so many
-- milliseconds pass
pub data Step : Type 0 where
  in_cluster : ClusterStep → Step
  handle : Kind → Step
  works : ℕ → Action → Step
  tick : ℕ → Step

-- a control plane after a step, and what is told of it
pub record Stepped : Type 0 where
  pub plane : ControlPlane
  pub outcome : Outcome

abbrev pub closed : ControlPlane → Stepped
closed p = record { plane = p; outcome = no_step }

abbrev pub manager_after : ClusterStep → Manager → Manager
manager_after restart m = managers.restarted m
manager_after s m = m

abbrev pub step_cluster : ClusterStep → ControlPlane → Stepped
step_cluster s p =
    let c = clusters.step p.cluster s in
    record { plane = record p { cluster = c.cluster; manager = manager_after s p.manager }; outcome = of_cluster c.outcome }

-- ---- a change is handled

abbrev pub change_of : Shift → Change
change_of s = record { kind = s.key.kind; old = s.old; new = s.new }

-- the work keys that it owes, by what is published when it is handled
abbrev pub owed : Cluster → Notification → List WorkKey
owed c n = keys_of (change_of n.shift) (looks c)

abbrev pub without_oldest : Kind → List Notification → Cluster → Cluster
without_oldest k rest c = with_follower k (record (follower k c) { unhandled = rest }) c

-- what it shows of expected pods is noted, and the keys that it owes are added
abbrev pub handle_in : Kind → List Notification → ControlPlane → Stepped
handle_in k [] p = closed p
handle_in k (n ∷ rest) p =
    let ks = owed p.cluster n in
    record {
      plane = record p { cluster = without_oldest k rest p.cluster; manager = record p.manager { board = observed (observations n) ks p.manager.board } };
      outcome = handled k (length ks);
    }

-- ---- a worker acts, and time passes

abbrev pub after_action : Acted → ControlPlane → Stepped
after_action a p = record { plane = record p { cluster = after_request a.request p.cluster; manager = a.manager }; outcome = a.outcome }

abbrev pub tick_in : ℕ → ControlPlane → Stepped
tick_in n p =
    let b = p.manager.board in
    if may_tick n b then record { plane = record p { manager = record p.manager { board = ticked n b } }; outcome = time (b.time + n) } else closed p

-- ---- one step after another

abbrev pub step_in : ControlPlane → Step → Stepped
step_in p (in_cluster s) = step_cluster s p
step_in p (handle k) = handle_in k (follower k p.cluster).unhandled p
step_in p (works w a) = after_action (act (client p.cluster) w a p.manager) p
step_in p (tick n) = tick_in n p

-- a step that was open is taken
abbrev pub counted : Stepped → Stepped
counted s = if was_open s.outcome then record s { plane = record s.plane { taken = s.plane.taken + 1 } } else s

abbrev pub step : ControlPlane → Step → Stepped
step p s = counted (step_in p s)

abbrev pub run : ControlPlane → List Step → ControlPlane
run p [] = p
run p (s ∷ ss) = run (step p s).plane ss

-- what is told of each
abbrev pub outcomes : ControlPlane → List Step → List Outcome
outcomes p [] = []
outcomes p (s ∷ ss) = (step p s).outcome ∷ outcomes (step p s).plane ss
