-- A request that workers make, answered and written: what the cluster stands for goes on.
use Rattle.std.proofs.Common.{◌≡◌, refl, sym, ap, subst, ◌∙◌, [], Option, Some, None, IfSome, Result, Ok, Err, OnOk, OnErr, false}
use Rattle.spec_api.specs.declared.kinds.Kind.{Kind}
use Rattle.spec_api.specs.History.{History, Write}
use Rattle.spec_api.specs.ObjectRequests.{Request}
use Rattle.spec_api.specs.Reached.{CanBeRead, asks}
use Rattle.spec_api.specs.Verbs.{accept, history_after, overflows, with_write, write_of}
use Rattle.spec_laws.specs.AnswerLaws.{IsOfObject}
use Rattle.spec_laws.proofs.ReadBacks.{answers_back}
use Rattle.spec_laws.proofs.Limits.{room}
use Rattle.spec_laws.proofs.Runs.{nothing, begins-write}
use Rattle.spec_laws.proofs.ServerHistories.{accepted_holds}
use Rattle.spec_server.specs.Servers.{IsServerAfter, after_writing}
use Rattle.line_session.proofs.Followed.{same_outcome}
use Rattle.line_session.specs.Laws as sessions
use Rattle.line_session.specs.SessionStates.{SessionState, accepted, changed_by, of_write, HasRoom}
use Rattle.spec_sim.specs.Clusters as clusters
use Rattle.spec_sim.specs.Clusters.{Cluster, history}
use Rattle.sim_cluster_laws.specs.ClusterLaws.{IsFollowed}
use Rattle.sim_cluster_laws.specs.FollowerLaws.{IsFollowing}
use Rattle.sim_cluster_laws.proofs.Growing.{stand}
use Rattle.spec_sim.proofs.ClusterFollowers.{with_session}
use Rattle.line_session.specs.RecordedStates.{RecordedState}
use Rattle.sim_cluster.specs.Requested.{IsWriteOf, IsRead, written}
use Rattle.sim_cluster.specs.Standing.{StandsFor, Stands}
use Rattle.sim_cluster.specs.ClusterStates.{ClusterState}

-- ---- the cluster after a request

abbrev pub after : Request → Cluster → Cluster
after q c = record c { session = record c.session { history = history_after (history c) (accept q (history c) c.session.moment) } }

follows : (q : Request) (c : Cluster) → CanBeRead q → IsFollowed c → IsFollowed (after q c)
follows q c read is =
    let s = record c.session { history = history_after (history c) (accept q (history c) c.session.moment) } in
    let more = begins-write (history c) (history c) (write_of (accept q (history c) c.session.moment)) ([], nothing (history c)) in
    let later : (k : Kind) → IsFollowing s.history k (clusters.follower k c) = λ k. subst (λ h. IsFollowing h k (clusters.follower k c)) (sym more.1) (stand k (history c) more.0 (clusters.follower k c) (is.2 k)) in
    (asks (history c) q c.session.moment is.0 read is.1, is.1, with_session (IsFollowing s.history) c s later)

-- ---- the cluster after its write

same_server : (s : SessionState) (o : Option Write) → changed_by s (of_write o) ≡ record s { server = after_writing s.server o }
same_server s None = refl
same_server s (Some w) = refl

pub stands_after : (w : ClusterState) (c : Cluster) (q : Request) (o : Option Write) → write_of (accepted w.session q) ≡ o → StandsFor w c → StandsFor (written o w) (after q c)
stands_after w c q o writes_this is =
    let same : accepted w.session q ≡ accept q (history c) c.session.moment = same_outcome w.session c.session is.session q in
    let this : o ≡ write_of (accept q (history c) c.session.moment) = sym writes_this ∙ ap write_of same in
    let server : IsServerAfter c.session.window (after_writing w.session.server o) (after q c).session.history =
    subst (λ z. IsServerAfter c.session.window (after_writing w.session.server z) (after q c).session.history) (sym this) (accepted_holds c.session.window w.session.server (history c) q c.session.moment is.session.0).1 in
    record {
      session = subst (λ (s : SessionState). sessions.Follows s (after q c).session) (sym (same_server w.session o)) (server, is.session.1);
      journal = ap (λ j. with_write j o) is.journal ∙ ap (with_write (history c)) this;
      initial = is.initial;
      followers = is.followers;
    }

written_stands : (w : ClusterState) (o : Option Write) → IsWriteOf w.session o → Stands w → Stands (written o w)
unfolding Stands
written_stands w o (q, read, this) (c, is, followed) = (after q c, stands_after w c q o this is, follows q c read followed)

-- a write that was made, or changed nothing
pub standing_written : (w : ClusterState) (o : Option Write) (s : SessionState) (j : History) → s ≡ changed_by w.session (of_write o) → j ≡ with_write w.journal o → IsWriteOf w.session o → Stands w
    → Stands (record w { session = s; journal = j })
standing_written w o s j changed added this is = subst Stands (λ i. record w { session = sym changed i; journal = sym added i }) (written_stands w o this is)

-- ---- there is room for it

has_room : (s : SessionState) (o : Option Write) → IfSome o (λ w. overflows s.server.snapshot.members s.server.snapshot.revision w ≡ false) → HasRoom s (of_write o)
has_room s None h = tt
has_room s (Some w) h = h

pub room_for : (s : SessionState) (o : Option Write) → IsWriteOf s o → HasRoom s (of_write o)
room_for s o (q, read, this) =
    has_room s o (subst (λ z. IfSome z (λ w. overflows s.server.snapshot.members s.server.snapshot.revision w ≡ false)) this (room q s.server.snapshot.members s.server.snapshot.revision s.moment))

-- ---- an answer is read back

pub answer_read : (w : ClusterState) (q : Request) → CanBeRead q → IsOfObject q → Stands w → IsRead (accepted w.session q)
unfolding Stands
answer_read w q read one (c, is, followed) a answers =
    answers_back (history c) q c.session.moment a followed.0 read followed.1 one (sym (same_outcome w.session c.session is.session q) ∙ answers)

pub standing_taken : {X E : Type 0} (w : ClusterState) (o : Option Write) (n : RecordedState) (r : Result X E) → OnOk r (n.session ≡ changed_by w.session (of_write o)) → OnOk r (n.journal ≡ with_write w.journal o)
    → OnErr r (n ≡ record { session = w.session; journal = w.journal }) → IsWriteOf w.session o → Stands w → Stands (record w { session = n.session; journal = n.journal })
standing_taken w o n (Ok x) changed added same this is = standing_written w o n.session n.journal changed added this is
standing_taken w o n (Err e) changed added same this is = subst (λ (z : RecordedState). Stands (record w { session = z.session; journal = z.journal })) (sym same) is
