-- What has happened stays, whatever steps are taken.
use Rattle.std.proofs.Common.{◌≡◌, ◌≤◌, ◌+◌, ◌-◌, ℕ, List, [], ◌∷◌, ◌++◌, length, take, Option, Some, None, Result, Ok, Err, sym, ap, ◌∙◌, subst, arith}
use Rattle.std.proofs.lemmas.List.{take-append-le, length-append}
use Rattle.spec_api.specs.declared.kinds.Kind.{Kind}
use Rattle.spec_api.specs.History.{History, compaction, writes, last_of, present, state}
use Rattle.spec_api.specs.Keys.{Key}
use Rattle.spec_api.specs.ObjectRequests.{Request}
use Rattle.spec_api.specs.Refusals.{Refusal}
use Rattle.spec_api.specs.Replies.{Session, reply_for, history_from}
use Rattle.spec_api.specs.Targets.{Asked, request as asked_request, list, watch, read_request}
use Rattle.spec_api.specs.Verbs.{accept, write_of}
use Rattle.spec_line_protocol.specs.Lines as lines
use Rattle.spec_line_protocol.specs.Lines.{Line, line_of, session_after}
use Rattle.spec_laws.proofs.Past.{writes-append}
use Rattle.spec_laws.proofs.Runs.{Begins, nothing, kept_asked, kept_watched, begins-write, begins-entry, by_compaction}
use Rattle.spec_client_go.specs.Hands.{Read}
use Rattle.spec_sim.specs.Clusters.{Cluster, history, follower, ClusterStep, request, compact, moves, restart}
use Rattle.spec_sim.specs.Clusters as clusters
use Rattle.spec_sim.specs.Followers.{Notification}
use Rattle.spec_sim.specs.Moves as moving
use Rattle.spec_sim.specs.ControlPlanes.{ControlPlane, Step, in_cluster, handle, works, tick, client, after_request, handle_in, step_in, step}
use Rattle.spec_sim.specs.Managers.{act}
use Rattle.sim_worker_laws.specs.IssuedLaws.{WasThere}
use Rattle.sim_worker_laws.proofs.Counting.{by_counted, by_tick}
use Rattle.spec_sim.proofs.ClusterFollowers.{same_session}

-- ---- the server

none : (h : History) → Begins h h
none h = ([], nothing h)

by_reply : (s : Session) (r : Result Asked Refusal) → Begins s.history (history_from s.history (reply_for s r))
by_reply s (Err f) = none s.history
by_reply s (Ok (asked_request q)) = begins-write s.history s.history (write_of (accept q s.history s.moment)) (none s.history)
by_reply s (Ok (list v o)) = subst (Begins s.history) (sym (kept_asked s v o)) (none s.history)
by_reply s (Ok (watch v o)) = subst (Begins s.history) (sym (kept_watched s v o)) (none s.history)

by_line : (s : Session) (l : Line) → Begins s.history (session_after s l).history
by_line s (lines.ask method target body) = by_reply s (read_request method target body)
by_line s (lines.at moment) = none s.history
by_line s (lines.compact r) = by_compaction (Begins s.history) (λ h r le b. begins-entry s.history h (compaction r) b) s.history r (none s.history)
by_line s lines.unreadable = none s.history

-- ---- each step

by_cluster : (c : Cluster) (s : ClusterStep) → Begins (history c) (history (clusters.step c s).cluster)
by_cluster c (request t) = by_line c.session (line_of t)
by_cluster c (compact r) = by_line c.session (lines.compact r)
by_cluster c (moves k m) =
    subst (λ (s : Session). Begins (history c) s.history) (sym (same_session c k (moving.move k c.session.window (history c) (follower k c) m).follower)) (none (history c))
by_cluster c restart = none (history c)

by_request : (o : Option Request) (c : Cluster) → Begins (history c) (history (after_request o c))
by_request None c = none (history c)
by_request (Some q) c = begins-write (history c) (history c) (write_of (accept q (history c) c.session.moment)) (none (history c))

by_handle : (k : Kind) (ns : List Notification) (p : ControlPlane) → Begins (history p.cluster) (history (handle_in k ns p).plane.cluster)
by_handle k [] p = none (history p.cluster)
by_handle k (n ∷ ns) p =
    subst (λ (s : Session). Begins (history p.cluster) s.history) (sym (same_session p.cluster k (record (follower k p.cluster) { unhandled = ns }))) (none (history p.cluster))

by_step : (p : ControlPlane) (s : Step) → Begins (history p.cluster) (history (step_in p s).plane.cluster)
by_step p (in_cluster s) = by_cluster p.cluster s
by_step p (handle k) = by_handle k (follower k p.cluster).unhandled p
by_step p (works w a) = by_request (act (client p.cluster) w a p.manager).request p.cluster
by_step p (tick n) = by_tick (λ c m o. Begins (history p.cluster) (history c)) n p (none (history p.cluster)) (none (history p.cluster))

pub step_begins : (p : ControlPlane) (s : Step) → Begins (history p.cluster) (history (step p s).plane.cluster)
step_begins p s = by_counted (λ c m o. Begins (history p.cluster) (history c)) (step_in p s) (by_step p s)

-- ---- what was there

pub state_stands : (h more : History) (at : ℕ) (k : Key) → at ≤ present h → state (h ++ more) at k ≡ state h at k
state_stands h more at k le = ap (λ ws. last_of None k (take (at - 1) ws)) (writes-append h more) ∙ ap (last_of None k) (take-append-le (at - 1) (writes h) (writes more) (omega (arith, le)))

pub present_grows : (h more : History) → present h ≤ present (h ++ more)
present_grows h more =
    let long : length (writes (h ++ more)) ≡ length (writes h) + length (writes more) = ap length (writes-append h more) ∙ length-append (writes h) (writes more) in omega (arith, long)

pub there_still : (h later : History) → Begins h later → (r : Read) → WasThere h r → WasThere later r
there_still h later b r t = subst (λ l. WasThere l r) (sym b.1) (t.0, omega (arith, present_grows h b.0, t.1), t.2 ∙ sym (state_stands h b.0 t.0 r.key t.1))
