-- What steps publish of a kind, and what it makes of what was published.
use Rattle.std.proofs.Common.{◌≡◌, ◌==◌, ℕ, List, [], ◌∷◌, ◌++◌, map, Bool, true, false, cond, Option, Some, None, Result, Ok, Err, refl, sym, ap, ap₂, ◌∙◌, subst, append_assoc, arith}
use mathlib.Core.Bool.{true≢false}
use Rattle.spec_api.specs.declared.kinds.Kind.{Kind}
use Rattle.spec_api.specs.declared.kinds.Kind.TheVariants.{ConfigMap, Pod, ReplicaSet, Deployment}
use Rattle.spec_api.specs.History.{Entries, found}
use Rattle.spec_api.specs.Keys.{Key}
use Rattle.spec_api.specs.Kinds.{rank}
use Rattle.spec_api.specs.ObjectRequests.{Request}
use Rattle.spec_api.specs.Refusals.{Refusal}
use Rattle.spec_api.specs.Streams.{Line, bookmark}
use Rattle.spec_api.specs.Verbs.{accept, history_after}
use Rattle.spec_api.specs.Versions.{Watched}
use Rattle.spec_api.proofs.KindOrder.{rank_tells}
use Rattle.spec_server.specs.Snapshots.{Snapshot}
use Rattle.spec_line_protocol.specs.Lines as lines
use Rattle.spec_line_protocol.specs.Lines.{line_of, session_after}
use Rattle.spec_client_go.specs.declared.reflectors.Phase.{Phase}
use Rattle.spec_client_go.specs.declared.reflectors.Phase.TheVariants.{Listing, Streaming, Watching}
use Rattle.spec_client_go.specs.Informers.{Informer, applied, all_applied}
use Rattle.spec_client_go.specs.Reflectors.{Delta, replace, put, remove, mark, apply_delta, apply_deltas}
use Rattle.spec_client_go.specs.Shifts.{Shift, shifts_of, all_shifts}
use Rattle.spec_sim.specs.Clusters.{Cluster, history, follower, with_follower, request, compact, moves, restart}
use Rattle.spec_sim.specs.Followers.{Link, Follower, Notification, notified, notifications}
use Rattle.spec_sim.specs.Moves as moving
use Rattle.spec_sim.specs.Moves.{Moved, Answers, Move, answers_after, list_in, watch_in, open_by, stream_in, write_changes, send_next, send_on, write_bookmark, bookmark_next, bookmark_on, deliver_on, deliver_all_on, cut_on, publish_now, closed, move_by}
use Rattle.spec_sim.specs.ControlPlanes.{ControlPlane, Step, in_cluster, handle, works, tick, client, after_request, handle_in, step_in, step, run}
use Rattle.spec_sim.specs.Managers.{act}
use Rattle.spec_sim.proofs.ClusterFollowers.{with_session, with_moved}
use Rattle.sim_worker_laws.specs.OwedLaws.{unhandled, published, NoRestart}
use Rattle.sim_worker_laws.proofs.Counting.{by_counted, by_tick}
use Rattle.sim_worker_laws.proofs.Owed.{first_of_none}
use Rattle.sim_rest_laws.specs.ShiftRunLaws.{members, if_kind, waiting, deltas_by, published_by, all_deltas, all_published, NoReplace, OnlyTheFirst, Lead, shifts, PublishedChangesLead}
use Rattle.sim_rest_laws.proofs.Shifted.{ascending_deltas, lead_deltas, lead_anew}

-- ---- moves that publish nothing

abbrev pub IsNoPublish : Move → Type 0
IsNoPublish moving.publish = ⊥
IsNoPublish m = Unit {0}

-- what holds of what is published, and of whether the first list was, is left
module _ (Q : Snapshot → Bool → Type 0) (k : Kind) (a : Answers) (f : Follower) (q : Q f.informer.published f.has_listed) where
  abbrev Same : Moved → Type 0
  Same m = Q m.follower.informer.published m.follower.has_listed

  same_if : (b : Bool) (m : Moved) → Same m → Same (cond b (closed f) m)
  same_if true m is = q
  same_if false m is = is

  same_list : (p : Phase) → Same (list_in k p a f)
  same_list Listing = q
  same_list Streaming = q
  same_list Watching = q

  same_open : (o : Result Watched Refusal) → Same (open_by k o f)
  same_open (Ok w) = q
  same_open (Err e) = q

  same_watch : (p : Phase) (o : Option Link) → Same (watch_in k p o a f)
  same_watch Watching None = same_open (a.watched f.reflector.revision 0)
  same_watch Watching (Some l) = q
  same_watch Listing o = q
  same_watch Streaming o = q

  same_stream : (p : Phase) (o : Option Link) → Same (stream_in k p o a f)
  same_stream Streaming None = q
  same_stream Streaming (Some l) = q
  same_stream Listing o = q
  same_stream Watching o = q

  same_changes : (o : Result Watched Refusal) (l : Link) → Same (write_changes k o l f)
  same_changes (Ok w) l = q
  same_changes (Err e) l = q

  same_next : (is : List Line) (n : ℕ) (l : Link) → Same (send_next k is n a l f)
  same_next [] n l = same_changes (a.watched l.stands n) l
  same_next (i ∷ is) n l = q

  same_send : (o : Option Link) (n : ℕ) → Same (send_on k o n a f)
  same_send None n = q
  same_send (Some l) n = same_if l.is_refused (send_next k l.initial n a l f) (same_next l.initial n l)

  same_mark : (o : Result Watched Refusal) (now : ℕ) (l : Link) → Same (write_bookmark k o now l f)
  same_mark (Ok w) now l = by (w.stands == now)
    where
      by : (b : Bool) → Same (cond b (record { follower = moving.with_link (moving.after_lines k (bookmark now ∷ []) now l) f; outcome = moving.sent k 1 }) (closed f))
      by true = q
      by false = q
  same_mark (Err e) now l = q

  same_mark_next : (is : List Line) (l : Link) → Same (bookmark_next k is a l f)
  same_mark_next [] l = same_mark (a.watched l.stands 0) a.present l
  same_mark_next (i ∷ is) l = q

  same_bookmark : (o : Option Link) → Same (bookmark_on k o a f)
  same_bookmark None = q
  same_bookmark (Some l) = same_if l.is_refused (bookmark_next k l.initial a l f) (same_mark_next l.initial l)

  same_deliver : (o : Option Link) (n : ℕ) → Same (deliver_on k o n f)
  same_deliver None n = q
  same_deliver (Some l) n = q

  same_all : (o : Option Link) → Same (deliver_all_on k o f)
  same_all None = q
  same_all (Some l) = q

  same_cut : (o : Option Link) → Same (cut_on k o f)
  same_cut None = q
  same_cut (Some l) = q

  pub unpublished : (m : Move) → IsNoPublish m → Same (move_by k a f m)
  unpublished moving.list n = same_list f.reflector.phase
  unpublished moving.watch n = same_watch f.reflector.phase f.link
  unpublished moving.stream n = same_stream f.reflector.phase f.link
  unpublished (moving.send i) n = same_send f.link i
  unpublished moving.send_bookmark n = same_bookmark f.link
  unpublished (moving.deliver i) n = same_deliver f.link i
  unpublished moving.deliver_all n = same_all f.link
  unpublished moving.cut n = same_cut f.link
  unpublished moving.publish n = absurd n

-- ---- followers of a cluster

pub same_rank : (k : Kind) → (rank k == rank k) ≡ true
same_rank ConfigMap = refl
same_rank Pod = refl
same_rank ReplicaSet = refl
same_rank Deployment = refl

pub kinds_are : (j k : Kind) → (rank j == rank k) ≡ true → j ≡ k
kinds_are j k e = rank_tells j k (ranks_are (rank j) (rank k) e)
  where
    ranks_are : (m n : ℕ) → (m == n) ≡ true → m ≡ n
    ranks_are m n e = grind arith

moved_there : (k : Kind) (f : Follower) (c : Cluster) → follower k (with_follower k f c) ≡ f
moved_there ConfigMap f c = refl
moved_there Pod f c = refl
moved_there ReplicaSet f c = refl
moved_there Deployment f c = refl

moved_other : (j k : Kind) (f : Follower) (c : Cluster) → (rank j == rank k) ≡ false → follower k (with_follower j f c) ≡ follower k c
moved_other ConfigMap ConfigMap f c e = absurd (true≢false e)
moved_other ConfigMap Pod f c e = refl
moved_other ConfigMap ReplicaSet f c e = refl
moved_other ConfigMap Deployment f c e = refl
moved_other Pod ConfigMap f c e = refl
moved_other Pod Pod f c e = absurd (true≢false e)
moved_other Pod ReplicaSet f c e = refl
moved_other Pod Deployment f c e = refl
moved_other ReplicaSet ConfigMap f c e = refl
moved_other ReplicaSet Pod f c e = refl
moved_other ReplicaSet ReplicaSet f c e = absurd (true≢false e)
moved_other ReplicaSet Deployment f c e = refl
moved_other Deployment ConfigMap f c e = refl
moved_other Deployment Pod f c e = refl
moved_other Deployment ReplicaSet f c e = refl
moved_other Deployment Deployment f c e = absurd (true≢false e)

-- ---- one step

pub applied_members : (s : Snapshot) (ds : List Delta) → (all_applied s ds).members ≡ apply_deltas s.members ds
applied_members s [] = refl
applied_members s (d ∷ ds) = applied_members (applied s d) ds

pub applied_both : (s : Snapshot) (ds es : List Delta) → all_applied s (ds ++ es) ≡ all_applied (all_applied s ds) es
applied_both s [] es = refl
applied_both s (d ∷ ds) es = applied_both (applied s d) ds es

abbrev pub shown : Kind → ControlPlane → Snapshot
shown k p = (follower k p.cluster).informer.published

module _ (k : Kind) where
  abbrev ShownIs : Cluster → Snapshot → Type 0
  ShownIs c s = (follower k c).informer.published ≡ s

  -- where the followers of all kinds have published what they had
  same_moved : (c : Cluster) (j : Kind) (f : Follower) → f.informer.published ≡ (follower j c).informer.published → ShownIs (with_follower j f c) (follower k c).informer.published
  same_moved c j f is = with_moved (λ i (g : Follower). g.informer.published ≡ (follower i c).informer.published) c j f is (λ i. refl) k

  shown_publish : (c : Cluster) (j : Kind) → (let f = (move_by j (answers_after j c.session.window (history c)) (follower j c) moving.publish).follower in
      ShownIs (with_follower j f c) (all_applied (follower k c).informer.published (if_kind j k (waiting k c))))
  shown_publish c j = by_kind (rank j == rank k) refl
    where
      one : (b : Bool) → (cond b (closed (follower k c)) (publish_now k (follower k c))).follower.informer.published
          ≡ all_applied (follower k c).informer.published (cond b [] (follower k c).informer.pending)
      one true = refl
      one false = refl

      by_kind : (b : Bool) → (rank j == rank k) ≡ b → (let f = (move_by j (answers_after j c.session.window (history c)) (follower j c) moving.publish).follower in
          ShownIs (with_follower j f c) (all_applied (follower k c).informer.published (cond b (waiting k c) [])))
      by_kind true e =
          let g = (move_by k (answers_after k c.session.window (history c)) (follower k c) moving.publish).follower in
          subst
          (λ i.
          let f = (move_by i (answers_after i c.session.window (history c)) (follower i c) moving.publish).follower in
          ShownIs (with_follower i f c) (all_applied (follower k c).informer.published (waiting k c)))
          (sym (kinds_are j k e))
          (ap (λ (x : Follower). x.informer.published) (moved_there k g c) ∙ one ((follower k c).reflector.revision == 0))
      by_kind false e = ap (λ (g : Follower). g.informer.published) (moved_other j k (move_by j (answers_after j c.session.window (history c)) (follower j c) moving.publish).follower c e)

  -- where a move leaves what was published
  same_move : (c : Cluster) (j : Kind) (m : Move)
      → (let f = (move_by j (answers_after j c.session.window (history c)) (follower j c) m).follower in
      f.informer.published ≡ (follower j c).informer.published → ShownIs (with_follower j f c) (follower k c).informer.published)
  same_move c j m is = same_moved c j (move_by j (answers_after j c.session.window (history c)) (follower j c) m).follower is

  unless_published : (c : Cluster) (j : Kind) (m : Move) → IsNoPublish m
      → ShownIs (with_follower j (move_by j (answers_after j c.session.window (history c)) (follower j c) m).follower c) (follower k c).informer.published
  unless_published c j m n =
      same_move c j m (unpublished (λ s b. s ≡ (follower j c).informer.published) j (answers_after j c.session.window (history c)) (follower j c) refl m n)

  shown_move : (p : ControlPlane) (j : Kind) (m : Move) → ShownIs (step_in p (in_cluster (moves j m))).plane.cluster (all_applied (shown k p) (deltas_by k p (in_cluster (moves j m))))
  shown_move p j moving.list = unless_published p.cluster j moving.list tt
  shown_move p j moving.watch = unless_published p.cluster j moving.watch tt
  shown_move p j moving.stream = unless_published p.cluster j moving.stream tt
  shown_move p j (moving.send n) = unless_published p.cluster j (moving.send n) tt
  shown_move p j moving.send_bookmark = unless_published p.cluster j moving.send_bookmark tt
  shown_move p j (moving.deliver n) = unless_published p.cluster j (moving.deliver n) tt
  shown_move p j moving.deliver_all = unless_published p.cluster j moving.deliver_all tt
  shown_move p j moving.cut = unless_published p.cluster j moving.cut tt
  shown_move p j moving.publish = shown_publish p.cluster j

  shown_request : (o : Option Request) (c : Cluster) → ShownIs (after_request o c) (follower k c).informer.published
  shown_request None c = refl
  shown_request (Some q) c =
      with_session (λ i (g : Follower). g.informer.published ≡ (follower i c).informer.published) c
      (record c.session { history = history_after (history c) (accept q (history c) c.session.moment) }) (λ i. refl) k

  shown_handle : (j : Kind) (ns : List Notification) (p : ControlPlane) → ShownIs (handle_in j ns p).plane.cluster (shown k p)
  shown_handle j [] p = refl
  shown_handle j (n ∷ ns) p = same_moved p.cluster j (record (follower j p.cluster) { unhandled = ns }) refl

  shown_in : (p : ControlPlane) (s : Step) → NoRestart (s ∷ []) → ShownIs (step_in p s).plane.cluster (all_applied (shown k p) (deltas_by k p s))
  shown_in p (in_cluster (request t)) none =
      with_session (λ i (g : Follower). g.informer.published ≡ (follower i p.cluster).informer.published) p.cluster (session_after p.cluster.session (line_of t)) (λ i. refl) k
  shown_in p (in_cluster (compact r)) none =
      with_session (λ i (g : Follower). g.informer.published ≡ (follower i p.cluster).informer.published) p.cluster (session_after p.cluster.session (lines.compact r)) (λ i. refl) k
  shown_in p (in_cluster (moves j m)) none = shown_move p j m
  shown_in p (in_cluster restart) none = absurd none
  shown_in p (handle j) none = shown_handle j (unhandled j p) p
  shown_in p (works w a) none = shown_request (act (client p.cluster) w a p.manager).request p.cluster
  shown_in p (tick n) none = by_tick (λ c m o. ShownIs c (shown k p)) n p refl refl

  pub shown_step : (p : ControlPlane) (s : Step) → NoRestart (s ∷ []) → shown k (step p s).plane ≡ all_applied (shown k p) (deltas_by k p s)
  shown_step p s none = by_counted (λ c m o. ShownIs c (all_applied (shown k p) (deltas_by k p s))) (step_in p s) (shown_in p s none)

  -- ---- all steps

  pub shown_run : (p : ControlPlane) (ss : List Step) → NoRestart ss → shown k (run p ss) ≡ all_applied (shown k p) (all_deltas k p ss)
  shown_run p [] none = refl
  shown_run p (s ∷ ss) none =
      let two = first_of_none s ss none in
      shown_run (step p s).plane ss two.1
      ∙ ap (λ m. all_applied m (all_deltas k (step p s).plane ss)) (shown_step p s two.0)
      ∙ sym (applied_both (shown k p) (deltas_by k p s) (all_deltas k (step p s).plane ss))

  members_step : (p : ControlPlane) (s : Step) → NoRestart (s ∷ []) → members k (step p s).plane ≡ apply_deltas (members k p) (deltas_by k p s)
  members_step p s none = ap (λ (m : Snapshot). m.members) (shown_step p s none) ∙ applied_members (shown k p) (deltas_by k p s)

  pub members_run : (p : ControlPlane) (ss : List Step) → NoRestart ss → members k (run p ss) ≡ apply_deltas (members k p) (all_deltas k p ss)
  members_run p ss none = ap (λ (m : Snapshot). m.members) (shown_run p ss none) ∙ applied_members (shown k p) (all_deltas k p ss)

-- ---- the changes

shifts_notified : (b : Bool) (ss : List Shift) → shifts (notified b ss) ≡ ss
shifts_notified b [] = refl
shifts_notified b (s ∷ ss) = ap (λ l. s ∷ l) (shifts_notified b ss)

map_both : {A B : Type 0} (f : A → B) (xs ys : List A) → map f (xs ++ ys) ≡ map f xs ++ map f ys
map_both f [] ys = refl
map_both f (x ∷ xs) ys = ap (λ l. f x ∷ l) (map_both f xs ys)

shifts_both : (b c : Bool) (ss ts : List Shift) → shifts (notified b ss ++ notified c ts) ≡ ss ++ ts
shifts_both b c ss ts = map_both (λ (n : Notification). n.shift) (notified b ss) (notified c ts) ∙ ap₂ (λ x y. x ++ y) (shifts_notified b ss) (shifts_notified c ts)

shifts_are : (b : Bool) (ds : List Delta) (ms : Entries) → shifts (notifications b ms ds) ≡ all_shifts ms ds
shifts_are true ds ms = shifts_notified false (all_shifts ms ds)
shifts_are false [] ms = refl
shifts_are false (replace r os ∷ ds) ms = shifts_both true false (shifts_of ms (replace r os)) (all_shifts (apply_delta ms (replace r os)) ds)
shifts_are false (put o ∷ ds) ms = first_then ms (put o) ds (shifts_are false ds (apply_delta ms (put o)))
  where
    first_then : (ms : Entries) (d : Delta) (ds : List Delta) → shifts (notifications false (apply_delta ms d) ds) ≡ all_shifts (apply_delta ms d) ds
        → shifts (notified false (shifts_of ms d) ++ notifications false (apply_delta ms d) ds) ≡ shifts_of ms d ++ all_shifts (apply_delta ms d) ds
    first_then ms d ds rest =
        map_both (λ (n : Notification). n.shift) (notified false (shifts_of ms d)) (notifications false (apply_delta ms d) ds) ∙ ap₂ (λ x y. x ++ y) (shifts_notified false (shifts_of ms d)) rest
shifts_are false (remove r n ∷ ds) ms =
    map_both (λ (n : Notification). n.shift) (notified false (shifts_of ms (remove r n))) (notifications false (apply_delta ms (remove r n)) ds)
    ∙ ap₂ (λ x y. x ++ y) (shifts_notified false (shifts_of ms (remove r n))) (shifts_are false ds (apply_delta ms (remove r n)))
shifts_are false (mark r ∷ ds) ms = shifts_are false ds ms

pub all_shifts_both : (ms : Entries) (ds es : List Delta) → all_shifts ms (ds ++ es) ≡ all_shifts ms ds ++ all_shifts (apply_deltas ms ds) es
all_shifts_both ms [] es = refl
all_shifts_both ms (d ∷ ds) es =
    ap (λ r. shifts_of ms d ++ r) (all_shifts_both (apply_delta ms d) ds es)
    ∙ sym (append_assoc (shifts_of ms d) (all_shifts (apply_delta ms d) ds) (all_shifts (apply_deltas (apply_delta ms d) ds) es))

module _ (k : Kind) where
  changes_if : (b : Bool) (f : Follower) → shifts (cond b [] (notifications f.has_listed f.informer.published.members f.informer.pending)) ≡ all_shifts f.informer.published.members (cond b [] f.informer.pending)
  changes_if true f = refl
  changes_if false f = shifts_are f.has_listed f.informer.pending f.informer.published.members

  changes_kind : (b : Bool) (c : Cluster) → shifts (cond b (published k c) []) ≡ all_shifts (follower k c).informer.published.members (cond b (waiting k c) [])
  changes_kind true c = changes_if ((follower k c).reflector.revision == 0) (follower k c)
  changes_kind false c = refl

  changes_step : (p : ControlPlane) (s : Step) → shifts (published_by k p s) ≡ all_shifts (members k p) (deltas_by k p s)
  changes_step p (in_cluster (request t)) = refl
  changes_step p (in_cluster (compact r)) = refl
  changes_step p (in_cluster (moves j moving.list)) = refl
  changes_step p (in_cluster (moves j moving.watch)) = refl
  changes_step p (in_cluster (moves j moving.stream)) = refl
  changes_step p (in_cluster (moves j (moving.send n))) = refl
  changes_step p (in_cluster (moves j moving.send_bookmark)) = refl
  changes_step p (in_cluster (moves j (moving.deliver n))) = refl
  changes_step p (in_cluster (moves j moving.deliver_all)) = refl
  changes_step p (in_cluster (moves j moving.cut)) = refl
  changes_step p (in_cluster (moves j moving.publish)) = changes_kind (rank j == rank k) p.cluster
  changes_step p (in_cluster restart) = refl
  changes_step p (handle j) = refl
  changes_step p (works w a) = refl
  changes_step p (tick n) = refl

  pub changes_run : (p : ControlPlane) (ss : List Step) → NoRestart ss → shifts (all_published k p ss) ≡ all_shifts (members k p) (all_deltas k p ss)
  changes_run p [] none = refl
  changes_run p (s ∷ ss) none =
      let two = first_of_none s ss none in
      map_both (λ (n : Notification). n.shift) (published_by k p s) (all_published k (step p s).plane ss)
      ∙ ap₂ (λ x y. x ++ y) (changes_step p s) (changes_run (step p s).plane ss two.1 ∙ ap (λ ms. all_shifts ms (all_deltas k (step p s).plane ss)) (members_step k p s two.0))
      ∙ sym (all_shifts_both (members k p) (deltas_by k p s) (all_deltas k (step p s).plane ss))

-- ---- between two points

pub none_split : (xs ys : List Step) → NoRestart (xs ++ ys) → NoRestart xs × NoRestart ys
none_split [] ys n = (tt, n)
none_split (in_cluster (request t) ∷ xs) ys n = none_split xs ys n
none_split (in_cluster (compact r) ∷ xs) ys n = none_split xs ys n
none_split (in_cluster (moves k m) ∷ xs) ys n = none_split xs ys n
none_split (in_cluster restart ∷ xs) ys n = absurd n
none_split (handle k ∷ xs) ys n = none_split xs ys n
none_split (works w x ∷ xs) ys n = none_split xs ys n
none_split (tick i ∷ xs) ys n = none_split xs ys n

pub run_both : (p : ControlPlane) (xs ys : List Step) → run p (xs ++ ys) ≡ run (run p xs) ys
run_both p [] ys = refl
run_both p (x ∷ xs) ys = run_both (step p x).plane xs ys

pub deltas_both : (k : Kind) (p : ControlPlane) (xs ys : List Step) → all_deltas k p (xs ++ ys) ≡ all_deltas k p xs ++ all_deltas k (run p xs) ys
deltas_both k p [] ys = refl
deltas_both k p (x ∷ xs) ys =
    ap (λ l. deltas_by k p x ++ l) (deltas_both k (step p x).plane xs ys) ∙ sym (append_assoc (deltas_by k p x) (all_deltas k (step p x).plane xs) (all_deltas k (run (step p x).plane xs) ys))

pub none_later : (ds es : List Delta) → NoReplace (ds ++ es) → NoReplace es
none_later [] es n = n
none_later (replace r os ∷ ds) es n = absurd n
none_later (put o ∷ ds) es n = none_later ds es n
none_later (remove r k ∷ ds) es n = none_later ds es n
none_later (mark r ∷ ds) es n = none_later ds es n

-- deltas after deltas, the first of which may give the whole map
lead_later : (x : Key) (ds es : List Delta) → OnlyTheFirst (ds ++ es) → Lead x (found x (apply_deltas [] ds)) (all_shifts (apply_deltas [] ds) es) (found x (apply_deltas (apply_deltas [] ds) es))
lead_later x [] es once = lead_anew x es once
lead_later x (d ∷ ds) es once = lead_deltas x es (apply_deltas [] (d ∷ ds)) (none_later ds es once) (ascending_deltas (d ∷ ds) [] tt)

pub changes_lead : PublishedChangesLead
changes_lead p before after k x nothing none once =
    let two = none_split before after none in
    let q = run p before in
    let ds = all_deltas k p before in
    let es = all_deltas k q after in
    let begins : members k p ≡ [] = ap (λ (i : Informer). i.published.members) nothing in
    let here : members k q ≡ apply_deltas [] ds = members_run k p before two.0 ∙ ap (λ ms. apply_deltas ms ds) begins in
    let then : members k (run p (before ++ after)) ≡ apply_deltas (members k q) es =
    ap (members k) (run_both p before after) ∙ members_run k q after two.1 in
    let led : Lead x (found x (members k q)) (all_shifts (members k q) es) (found x (apply_deltas (members k q) es)) =
    subst (λ ms. Lead x (found x ms) (all_shifts ms es) (found x (apply_deltas ms es))) (sym here) (lead_later x ds es (subst OnlyTheFirst (deltas_both k p before after) once)) in
    subst (λ ss. Lead x (found x (members k q)) ss (found x (members k (run p (before ++ after))))) (sym (changes_run k q after two.1))
    (subst (λ ms. Lead x (found x (members k q)) (all_shifts (members k q) es) (found x ms)) (sym then) led)
