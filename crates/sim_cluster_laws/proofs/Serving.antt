-- A server in the place of what has happened.
use Rattle.std.proofs.Common.{◌≡◌, ℕ, ap}
use Rattle.spec_api.specs.declared.kinds.Kind.{Kind}
use Rattle.spec_api.specs.History.{History, viewed}
use Rattle.spec_server.specs.Servers.{Server, IsServerAfter}
use Rattle.spec_laws.specs.SentLaws.{whole}
use Rattle.spec_laws.proofs.ServerAnswers.{watches_held}
use Rattle.spec_sim.specs.Moves.{answers_after, answers_by, move_by}
use Rattle.sim_cluster_laws.specs.FollowerLaws.{ServersServe}

pub same_answers : (size : ℕ) (s : Server) (h : History) (k : Kind) → IsServerAfter size s h → answers_by k s ≡ answers_after k size h
same_answers size s h k is = λ i. record {
  present = (is.0 i).revision;
  members = viewed (whole k) (is.0 i).members;
  watched = λ a n. watches_held size s h (whole k) a n is i;
}

pub servers_serve : ServersServe
servers_serve size s h k f m is = ap (λ a. move_by k a f m) (same_answers size s h k is)
