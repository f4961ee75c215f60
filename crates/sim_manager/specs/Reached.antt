-- What workers reach of a stored cluster, and the cluster after a request of theirs.
use Rattle.std.specs.Prelude.{ℕ, Option, Some, None, IfSome, option_and_then}
use Rattle.spec_api.specs.History.{Write, found}
use Rattle.spec_api.specs.ObjectRequests.{Request}
use Rattle.spec_api.specs.Reached.{CanBeRead}
use Rattle.spec_api.specs.Verbs.{write_of}
use Rattle.spec_sim.specs.Managers.{Client, Manager, Action, Delivery, act, reaching, requested}
use Rattle.spec_sim.specs.NextSteps.{next}
use Rattle.spec_sim.specs.Turns.{Turn}
use Rattle.reconcile_turn.specs.Seen.{command_issued}
use Rattle.line_session.specs.SessionStates.{SessionState, accepted}
use Rattle.sim_cluster.specs.Requested.{have_all_listed, written}
use Rattle.sim_cluster.specs.ClusterStates.{ClusterState, published}

-- whether each kind has been published, what is published of each, what is there under a key, and what a request is answered
abbrev pub client_of : ClusterState → Client
client_of w =
    record {
      has_synced = have_all_listed w;
      published = λ k. published k w;
      live = λ k. found k w.session.server.snapshot.members;
      answer = λ q. accepted w.session q;
    }

-- what the server writes of a request that reaches it, if one does
abbrev pub write_reaching : SessionState → Option Request → Option Write
write_reaching s None = None
write_reaching s (Some q) = write_of (accepted s q)

-- what the command that a turn issues next asks of the server, if one is issued and reaches it
abbrev pub asked_by : Delivery → Turn → Option Request
asked_by d t = option_and_then (λ x. reaching d (requested t x)) (command_issued (next t))

-- the cluster after a request, if one was asked
abbrev pub after_request : Option Request → ClusterState → ClusterState
after_request q w = written (write_reaching w.session q) w

-- what a worker's action asks of the server, if it asks anything, can be read of bytes
abbrev pub CanBeAsked : ClusterState → ℕ → Action → Manager → Type 0
CanBeAsked w n a m = IfSome (act (client_of w) n a m).request CanBeRead
