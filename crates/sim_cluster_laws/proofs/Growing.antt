-- A follower of what has happened follows what has happened since.
use Rattle.std.proofs.Common.{◌≡◌, ◌≤◌, ℕ, List, ◌++◌, length, true, Option, Some, None, sym, ap, ◌∙◌, subst, arith, length-append}
use Rattle.spec_api.specs.declared.kinds.Kind.{Kind}
use Rattle.spec_api.specs.History.{History, writes, present, viewed}
use Rattle.spec_api.specs.Streams.{Line}
use Rattle.spec_api.specs.WatchReplies.{opening_lines}
use Rattle.spec_server.specs.Snapshots.{Snapshot}
use Rattle.spec_client_go.specs.Reflectors.{Reflector}
use Rattle.spec_laws.specs.SentLaws.{whole}
use Rattle.spec_laws.proofs.Looks.{still_streams}
use Rattle.spec_laws.proofs.Past.{writes-append, past}
use Rattle.spec_sim.specs.Followers.{Link}
use Rattle.sim_cluster_laws.specs.FollowerLaws.{list_at, Begins, watching, streaming, IsLinked, FollowersStand}

pub list_past : (h more : History) (k : Kind) (r : ℕ) → r ≤ present h → list_at (h ++ more) k r ≡ list_at h k r
list_past h more k r le = λ i. record { members = viewed (whole k) (past h more r le i); revision = r }

pub further : (h more : History) → present h ≤ present (h ++ more)
further h more = omega (arith, ap length (writes-append h more), length-append (writes h) (writes more))

still_begins : (h more : History) (k : Kind) (a : ℕ) (s : Reflector) (opening : List Line) → a ≤ present h → Begins h k a s opening → Begins (h ++ more) k a s opening
still_begins h more k a s opening le (watching at) = watching at
still_begins h more k a s opening le (streaming at low) =
    subst (λ (m : Snapshot). Begins (h ++ more) k a s (opening_lines true a m.members)) (list_past h more k a le) (streaming at low)

still_linked : (h more : History) (k : Kind) (s : Reflector) (o : Option Link) → IsLinked h k s o → IsLinked (h ++ more) k s o
still_linked h more k s None is = is
still_linked h more k s (Some o) is =
    record {
      from = is.from;
      start = is.start;
      opening = is.opening;
      lines = is.lines;
      refusal = is.refusal;
      read = is.read;
      kind = is.kind;
      begins = still_begins h more k is.from is.start is.opening (omega (arith, is.forward, is.reached)) is.begins;
      forward = is.forward;
      reached = omega (arith, is.reached, further h more);
      stream = still_streams h more (whole k) is.from o.stands is.lines is.forward is.reached is.stream;
      lines_read = is.lines_read;
      refusal_read = is.refusal_read;
      is_refused = is.is_refused;
      bytes = is.bytes;
      goes_on = is.goes_on;
      taken = is.taken;
    }

pub stand : FollowersStand
stand k h more f is = record {
  kind = is.kind;
  reached = omega (arith, is.reached, further h more);
  published = is.published ∙ sym (list_past h more k f.informer.published.revision (omega (arith, is.passed, is.reached)));
  passed = is.passed;
  pending = is.pending ∙ sym (list_past h more k f.reflector.revision is.reached);
  linked = still_linked h more k f.reflector f.link is.linked;
}
