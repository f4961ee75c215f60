-- Whatever steps are taken, the deltas that wait skip nothing.
use Rattle.std.proofs.Common.{List, [], ◌∷◌, sym, subst}
use Rattle.spec_api.specs.declared.kinds.Kind.{Kind}
use Rattle.spec_api.specs.Replies.{start}
use Rattle.spec_line_protocol.specs.Lines as lines
use Rattle.spec_line_protocol.specs.Lines.{Line, cut, line_of, session_after}
use Rattle.spec_laws.proofs.ReadRequests.{IsTimed, timed_from}
use Rattle.spec_sim.specs.Moves as moving
use Rattle.spec_sim.specs.Clusters.{Cluster, opened, history, follower, with_follower, ClusterStep, request, compact, moves, restart, step, run}
use Rattle.sim_cluster_laws.specs.ClusterLaws.{IsFollowed}
use Rattle.sim_cluster_laws.specs.PassLaws.{IsPassed, RunsPass}
use Rattle.sim_cluster_laws.specs.LeadLaws.{IsLed}
use Rattle.sim_cluster_laws.proofs.LeadRuns.{AreLed, lead_on}
use Rattle.sim_cluster_laws.proofs.Passing.{passes_past}
use Rattle.sim_cluster_laws.proofs.PassMoves.{moves_pass}
use Rattle.sim_cluster_laws.proofs.Runs.{at_first, read_on, keeps, opens}
use Rattle.spec_sim.proofs.ClusterFollowers.{with_session, with_moved, same_session}

-- each follower's deltas skip nothing
abbrev pub ArePassed : Cluster → Type 0
ArePassed c = (k : Kind) → IsPassed (history c) k (follower k c)

by_server : (c : Cluster) (l : Line) → IsTimed l → IsFollowed c → AreLed c → ArePassed c → ArePassed (record c { session = session_after c.session l })
by_server c l timed is led passed =
    let on = read_on c.session l timed is.0 is.1 in
    with_session (IsPassed (session_after c.session l).history) c (session_after c.session l)
    (λ k. subst (λ h. IsPassed h k (follower k c)) (sym on.1.1.1) (passes_past (history c) on.1.1.0 k (follower k c).informer.published (follower k c).informer.pending (led k) (passed k)))

pub pass_on : (c : Cluster) (s : ClusterStep) → IsFollowed c → AreLed c → ArePassed c → ArePassed (step c s).cluster
pass_on c (request t) is led passed = by_server c (line_of t) (timed_from (cut t)) is led passed
pass_on c (compact r) is led passed = by_server c (lines.compact r) tt is led passed
pass_on c (moves k m) is led passed =
    let f = (moving.move k c.session.window (history c) (follower k c) m).follower in
    let here = moves_pass k c.session.window (history c) (follower k c) m is.0 (is.2 k) (passed k) in
    subst (λ s. (j : Kind) → IsPassed s.history j (follower j (with_follower k f c))) (sym (same_session c k f)) (with_moved (IsPassed (history c)) c k f here passed)
pass_on c restart is led passed = at_first (IsPassed (history c)) c.initial c.session (λ k. tt)

run_passes : (c : Cluster) (ss : List ClusterStep) → IsFollowed c → AreLed c → ArePassed c → ArePassed (run c ss)
run_passes c [] is led passed = passed
run_passes c (s ∷ ss) is led passed = run_passes (step c s).cluster ss (keeps c s is) (lead_on c s is led) (pass_on c s is led passed)

pub runs_pass : RunsPass
runs_pass size i ss = run_passes (opened size i) ss (opens size i) (at_first (IsLed []) i (start size) (λ k. tt)) (at_first (IsPassed []) i (start size) (λ k. tt))
