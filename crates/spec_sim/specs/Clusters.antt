-- A cluster: a server, and a follower of each kind, one step after another.
use Rattle.std.specs.Prelude.{ℕ, List, [], ◌∷◌}
use Rattle.spec_api.specs.declared.kinds.Kind.{Kind}
use Rattle.spec_api.specs.declared.kinds.Kind.TheVariants.{ConfigMap, Pod, ReplicaSet, Deployment}
use Rattle.spec_api.specs.History.{History}
use Rattle.spec_api.specs.Replies.{Session, start}
use Rattle.spec_line_protocol.specs.Lines as lines
use Rattle.spec_line_protocol.specs.Lines.{line_of, reply_to, session_after}
use Rattle.spec_client_go.specs.Informers.{Looks}
use Rattle.spec_sim.specs.declared.initial_syncs.InitialSync.{InitialSync}
use Rattle.spec_sim.specs.Followers.{Follower, begun}
use Rattle.spec_sim.specs.Moves.{Move, Outcome, replied, restarted, Moved, move}

-- what has happened at the server, the moment and the size of its windows; how followers begin; and what follows each kind
pub record Cluster : Type 0 where
  pub session : Session
  pub initial : InitialSync
  pub config_maps : Follower
  pub pods : Follower
  pub replica_sets : Follower
  pub deployments : Follower

-- all followers begin anew
abbrev pub with_new_followers : InitialSync → Session → Cluster
with_new_followers i s =
    record { session = s; initial = i; config_maps = begun i ConfigMap; pods = begun i Pod; replica_sets = begun i ReplicaSet; deployments = begun i Deployment }

-- nothing has happened yet, windows have this size, and followers begin so
abbrev pub opened : ℕ → InitialSync → Cluster
opened window i = with_new_followers i (start window)

abbrev pub history : Cluster → History
history c = c.session.history

abbrev pub follower : Kind → Cluster → Follower
follower ConfigMap c = c.config_maps
follower Pod c = c.pods
follower ReplicaSet c = c.replica_sets
follower Deployment c = c.deployments

abbrev pub with_follower : Kind → Follower → Cluster → Cluster
with_follower ConfigMap f c = record c { config_maps = f }
with_follower Pod f c = record c { pods = f }
with_follower ReplicaSet f c = record c { replica_sets = f }
with_follower Deployment f c = record c { deployments = f }

-- what is published of each kind
abbrev pub looks : Cluster → Looks
looks c =
    record {
      config_maps = c.config_maps.informer.published.members;
      pods = c.pods.informer.published.members;
      replica_sets = c.replica_sets.informer.published.members;
      deployments = c.deployments.informer.published.members;
    }

-- ---- steps

-- the server reads a line, which asks or sets the moment; it compacts up to a revision; a move of the follower of a kind; all
-- followers begin anew
pub data ClusterStep : Type 0 where
  request : List ℕ → ClusterStep
  compact : ℕ → ClusterStep
  moves : Kind → Move → ClusterStep
  restart : ClusterStep

-- a cluster after a step, and what is told of it
pub record Stepped : Type 0 where
  pub cluster : Cluster
  pub outcome : Outcome

abbrev pub moved_in : Kind → Cluster → Moved → Stepped
moved_in k c m = record { cluster = with_follower k m.follower c; outcome = m.outcome }

abbrev pub asked_of : Cluster → lines.Line → Stepped
asked_of c l = record { cluster = record c { session = session_after c.session l }; outcome = replied (reply_to c.session l) }

abbrev pub step : Cluster → ClusterStep → Stepped
step c (request t) = asked_of c (line_of t)
step c (compact r) = asked_of c (lines.compact r)
step c (moves k m) = moved_in k c (move k c.session.window c.session.history (follower k c) m)
step c restart = record { cluster = with_new_followers c.initial c.session; outcome = restarted }

-- one step after another
abbrev pub run : Cluster → List ClusterStep → Cluster
run c [] = c
run c (s ∷ ss) = run (step c s).cluster ss

-- what is told of each
abbrev pub outcomes : Cluster → List ClusterStep → List Outcome
outcomes c [] = []
outcomes c (s ∷ ss) = (step c s).outcome ∷ outcomes (step c s).cluster ss
