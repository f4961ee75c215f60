-- A cluster as it is stored, and how it goes on: a server stands in the place of all that has happened.
use Rattle.std.specs.Prelude.{ℕ, List, [], ◌∷◌, refl}
use Rattle.std.specs.Coded.{Coded, code_by, coded×}
use Rattle.model_encodings.specs.HistoryCodes.{coded_history}
use Rattle.spec_api.specs.declared.kinds.Kind.{Kind}
use Rattle.spec_api.specs.History.{History}
use Rattle.spec_line_protocol.specs.Lines as lines
use Rattle.spec_line_protocol.specs.Lines.{line_of}
use Rattle.spec_server.specs.Snapshots.{Snapshot}
use Rattle.line_session.specs.SessionStates as sessions
use Rattle.line_session.specs.SessionStates.{SessionState, coded_state, state_after, reply_to}
use Rattle.spec_sim.specs.contracts.initial_syncs.InitialSync as initial_sync
use Rattle.spec_sim.specs.declared.initial_syncs.InitialSync.{InitialSync}
use Rattle.spec_sim.specs.Clusters.{ClusterStep, request, compact, moves, restart}
use Rattle.spec_sim.specs.Codes.{coded_follower}
use Rattle.spec_sim.specs.Followers.{Follower, begun}
use Rattle.spec_sim.specs.Moves.{Moved, Outcome, replied, restarted, answers_by, move_by}
use Rattle.line_session.specs.RecordedStates.{journal_after}
use Rattle.object_keys.specs.PerKind.{of_kind, with_kind, each_kind}
use Rattle.object_keys.specs.declared.per_kind.PerKind.{PerKind}

-- a session, all that has happened at it, the oldest first, how followers begin, and what follows each kind
pub record ClusterState : Type 0 where
  pub session : SessionState
  pub journal : History
  pub initial : InitialSync
  pub followers : PerKind Follower

-- a code by which a model may store what stands for each kind
abbrev pub coded_per_kind : {T : Type 0} → Coded T → Coded (PerKind T)
coded_per_kind {T = T} c =
    code_by ((T × T) × (T × T)) (coded× (coded× c c) (coded× c c)) (λ t. ((t.config_maps, t.pods), (t.replica_sets, t.deployments)))
    (λ p. record { config_maps = p.0.0; pods = p.0.1; replica_sets = p.1.0; deployments = p.1.1 }) (λ _. refl)

-- and a cluster
abbrev pub coded_cluster : Coded ClusterState
coded_cluster =
    code_by ((SessionState × (History × InitialSync)) × PerKind Follower)
    (coded× (coded× coded_state (coded× coded_history initial_sync.the_row.coded)) (coded_per_kind coded_follower)) (λ w. ((w.session, (w.journal, w.initial)), w.followers))
    (λ p. record { session = p.0.0; journal = p.0.1.0; initial = p.0.1.1; followers = p.1 }) (λ _. refl)

-- all followers begin anew
abbrev pub with_new_followers : InitialSync → SessionState → History → ClusterState
with_new_followers i s j = record { session = s; journal = j; initial = i; followers = each_kind (begun i) }

-- nothing has happened yet, windows have this size, and followers begin so
abbrev pub opened : ℕ → InitialSync → ClusterState
opened window i = with_new_followers i (sessions.begun window) []

abbrev pub follower : Kind → ClusterState → Follower
follower k w = of_kind k w.followers

abbrev pub with_follower : Kind → Follower → ClusterState → ClusterState
with_follower k f w = record w { followers = with_kind k f w.followers }

-- what is published of a kind, and at which revision
abbrev pub published : Kind → ClusterState → Snapshot
published k w = (follower k w).informer.published

-- ---- steps

-- a cluster after a step, and what is told of it
pub record Stepped : Type 0 where
  pub cluster : ClusterState
  pub outcome : Outcome

abbrev pub moved_in : Kind → ClusterState → Moved → Stepped
moved_in k w m = record { cluster = with_follower k m.follower w; outcome = m.outcome }

-- a line is answered, and what it changes is changed
abbrev pub answered_line : ClusterState → lines.Line → Stepped
answered_line w l =
    record { cluster = record w { session = state_after w.session l; journal = journal_after w.session w.journal l }; outcome = replied (reply_to w.session l) }

unfoldable pub step : ClusterState → ClusterStep → Stepped
step w (request t) = answered_line w (line_of t)
step w (compact r) = answered_line w (lines.compact r)
step w (moves k m) = moved_in k w (move_by k (answers_by k w.session.server) (follower k w) m)
step w restart = record { cluster = with_new_followers w.initial w.session w.journal; outcome = restarted }

-- one step after another
abbrev pub run : ClusterState → List ClusterStep → ClusterState
run w [] = w
run w (s ∷ ss) = run (step w s).cluster ss
