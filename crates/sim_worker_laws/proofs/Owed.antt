-- What a change owes is kept, step by step.
use Rattle.std.proofs.Common.{◌≡◌, ◌⊎◌, inl, inr, ◌==◌, ◌+◌, List, [], ◌∷◌, ◌++◌, Bool, true, false, ◌||◌, cond, Option, Some, None, refl, sym, ap, ◌∙◌, subst}
use Rattle.std.specs.FinSet as set
use Rattle.spec_api.specs.declared.kinds.Kind.{Kind}
use Rattle.spec_api.specs.declared.kinds.Kind.TheVariants.{ConfigMap, Pod, ReplicaSet, Deployment}
use Rattle.spec_api.specs.ObjectRequests.{Request}
use Rattle.spec_api.specs.Verbs.{accept, history_after}
use Rattle.spec_client_go.specs.Delays.{due}
use Rattle.spec_client_go.specs.WorkQueues.{WorkKey}
use Rattle.spec_line_protocol.specs.Lines as lines
use Rattle.spec_line_protocol.specs.Lines.{line_of, session_after}
use Rattle.spec_sim.specs.Clusters.{Cluster, history, follower, with_follower, request, compact, moves, restart}
use Rattle.spec_sim.specs.Followers.{Follower, Notification, notifications}
use Rattle.spec_sim.specs.Moves.{Move, publish, answers_after, move_by, publish_now, closed}
use Rattle.spec_sim.specs.ControlPlanes.{ControlPlane, Step, in_cluster, handle, works, tick, opened, client, after_request, handle_in, step_in, step, run, owed}
use Rattle.spec_sim.specs.Managers.{Manager, act}
use Rattle.spec_sim.specs.NextSteps.{first}
use Rattle.spec_sim.specs.Outcomes.{Outcome}
use Rattle.sim_worker_laws.specs.OwedLaws.{IsAmong, unhandled, published, NoRestart, tells_taken, was_taken, is_dirty, IsKept, waits, was_handled, NothingIsForgotten}
use Rattle.sim_worker_laws.proofs.Counting.{by_counted, by_tick}
use Rattle.sim_worker_laws.proofs.Dirty.{or_false, or_right, dirty-all, shut-all, all-dirty, act-dirty, act-open}
use Rattle.sim_worker_laws.proofs.Moved.{by_move}
use Rattle.spec_sim.proofs.ClusterFollowers.{with_session, with_moved}

-- ---- nobody shuts the queue

abbrev IsOpen : Manager → Type 0
IsOpen m = m.board.work.is_shut ≡ false

open_handle : (k : Kind) (ns : List Notification) (p : ControlPlane) → IsOpen p.manager → IsOpen (handle_in k ns p).plane.manager
open_handle k [] p e = e
open_handle k (n ∷ ns) p e = shut-all (owed p.cluster n) p.manager.board.work ∙ e

open_in : (p : ControlPlane) (s : Step) → IsOpen p.manager → IsOpen (step_in p s).plane.manager
open_in p (in_cluster (request t)) e = e
open_in p (in_cluster (compact r)) e = e
open_in p (in_cluster (moves k m)) e = e
open_in p (in_cluster restart) e = refl
open_in p (handle k) e = open_handle k (unhandled k p) p e
open_in p (works w a) e = act-open (client p.cluster) w a p.manager ∙ e
open_in p (tick n) e = by_tick (λ c m o. IsOpen m) n p e (shut-all (due (p.manager.board.time + n) p.manager.board.delays) p.manager.board.work ∙ e)

open_step : (p : ControlPlane) (s : Step) → IsOpen p.manager → IsOpen (step p s).plane.manager
open_step p s e = by_counted (λ c m o. IsOpen m) (step_in p s) (open_in p s e)

pub open_run : (p : ControlPlane) (ss : List Step) → IsOpen p.manager → IsOpen (run p ss).manager
open_run p [] e = e
open_run p (s ∷ ss) e = open_run (step p s).plane ss (open_step p s e)

-- ---- a key that is dirty is so after a step, or the step hands it out

pub first_of_none : (s : Step) (ss : List Step) → NoRestart (s ∷ ss) → NoRestart (s ∷ []) × NoRestart ss
first_of_none (in_cluster (request t)) ss n = (tt, n)
first_of_none (in_cluster (compact r)) ss n = (tt, n)
first_of_none (in_cluster (moves k m)) ss n = (tt, n)
first_of_none (in_cluster restart) ss n = absurd n
first_of_none (handle k) ss n = (tt, n)
first_of_none (works w a) ss n = (tt, n)
first_of_none (tick i) ss n = (tt, n)

module _ (j : WorkKey) where
  abbrev IsWanted : Cluster → Manager → Outcome → Type 0
  IsWanted c m o = (set.contains m.board.work.dirty j || tells_taken j o) ≡ true

  abbrev IsDirty : Manager → Type 0
  IsDirty m = set.contains m.board.work.dirty j ≡ true

  dirty_handle : (k : Kind) (ns : List Notification) (p : ControlPlane) → IsDirty p.manager → IsWanted p.cluster (handle_in k ns p).plane.manager (handle_in k ns p).outcome
  dirty_handle k [] p d = or_false _ d
  dirty_handle k (n ∷ ns) p d = or_false _ (dirty-all (owed p.cluster n) p.manager.board.work j d)

  dirty_in : (p : ControlPlane) (s : Step) → NoRestart (s ∷ []) → IsDirty p.manager → IsWanted (step_in p s).plane.cluster (step_in p s).plane.manager (step_in p s).outcome
  dirty_in p (in_cluster (request t)) n d = or_false _ d
  dirty_in p (in_cluster (compact r)) n d = or_false _ d
  dirty_in p (in_cluster (moves k m)) n d = or_false _ d
  dirty_in p (in_cluster restart) n d = absurd n
  dirty_in p (handle k) n d = dirty_handle k (unhandled k p) p d
  dirty_in p (works w a) n d = act-dirty j (client p.cluster) w a p.manager d
  dirty_in p (tick i) n d = by_tick IsWanted i p (or_false _ d) (or_false _ (dirty-all (due (p.manager.board.time + i) p.manager.board.delays) p.manager.board.work j d))

  dirty_step : (p : ControlPlane) (s : Step) → NoRestart (s ∷ []) → is_dirty j p ≡ true → (is_dirty j (step p s).plane || tells_taken j (step p s).outcome) ≡ true
  dirty_step p s n d = by_counted IsWanted (step_in p s) (dirty_in p s n d)

  pub dirty_run : (p : ControlPlane) (ss : List Step) → NoRestart ss → is_dirty j p ≡ true → (is_dirty j (run p ss) || was_taken j p ss) ≡ true
  dirty_run p [] n d = or_false (is_dirty j p) d
  dirty_run p (s ∷ ss) n d =
      let two = first_of_none s ss n in by (is_dirty j (step p s).plane) (tells_taken j (step p s).outcome) refl (dirty_step p s two.0 d) (dirty_run (step p s).plane ss two.1)
    where
      by : (a b : Bool) → is_dirty j (step p s).plane ≡ a → (a || b) ≡ true
          → (is_dirty j (step p s).plane ≡ true → (is_dirty j (run (step p s).plane ss) || was_taken j (step p s).plane ss) ≡ true)
          → (is_dirty j (run (step p s).plane ss) || (b || was_taken j (step p s).plane ss)) ≡ true
      by a true e o rest = or_right _ true refl
      by true false e o rest = rest e
      by false false e o rest = cc

-- ---- the changes that wait

in_after : {A : Type 0} (x : A) (xs ys : List A) → IsAmong x ys → IsAmong x (xs ++ ys)
in_after x [] ys i = i
in_after x (y ∷ xs) ys i = inr (in_after x xs ys i)

in_before : {A : Type 0} (x : A) (xs ys : List A) → IsAmong x xs → IsAmong x (xs ++ ys)
in_before x [] ys i = absurd i
in_before x (y ∷ xs) ys (inl e) = inl e
in_before x (y ∷ xs) ys (inr i) = inr (in_before x xs ys i)

-- the step handles the change
abbrev Handles : Kind → Notification → ControlPlane → Step → Type 0
Handles k n p s = (s ≡ handle k) × (first (unhandled k p) ≡ Some n)

module _ (k : Kind) (n : Notification) where
  -- of the followers of other kinds nothing is said
  abbrev WaitsIn : Kind → Follower → Type 0
  WaitsIn j f = j ≡ k → IsAmong n f.unhandled

  abbrev WaitsOr : ControlPlane → Step → Kind → Follower → Type 0
  WaitsOr p s j f = j ≡ k → IsAmong n f.unhandled ⊎ Handles k n p s

  waits_in : (c : Cluster) → IsAmong n (follower k c).unhandled → (j : Kind) → WaitsIn j (follower j c)
  waits_in c i j e = subst (λ x. IsAmong n (follower x c).unhandled) (sym e) i

  waits_moved : (c : Cluster) (j : Kind) (m : Move) → WaitsIn j (follower j c) → WaitsIn j (move_by j (answers_after j c.session.window (history c)) (follower j c) m).follower
  waits_moved c j m w e =
      let i = w e in
      by_move (λ (f : Follower). IsAmong n f.unhandled) (follower j c) i (λ l. i) i i (λ l. i) (λ r l. i) i (in_before n (follower j c).unhandled _ i) j
      (answers_after j c.session.window (history c)) m

  in_handle : (j : Kind) (ns : List Notification) (p : ControlPlane) → unhandled j p ≡ ns → IsAmong n (unhandled k p)
      → IsAmong n (unhandled k (handle_in j ns p).plane) ⊎ Handles k n p (handle j)
  in_handle j [] p is i = inl i
  in_handle j (m ∷ rest) p is i =
      with_moved (WaitsOr p (handle j)) p.cluster j (record (follower j p.cluster) { unhandled = rest })
      (λ e. by e (subst (IsAmong n) is (waits_in p.cluster i j e)))
      (λ x e. inl (waits_in p.cluster i x e)) k refl
    where
      by : j ≡ k → IsAmong n (m ∷ rest) → IsAmong n rest ⊎ Handles k n p (handle j)
      by e (inl one) = inr (ap handle e, ap (λ x. first (unhandled x p)) (sym e) ∙ ap first is ∙ ap Some one)
      by e (inr r) = inl r

  in_request : (o : Option Request) (c : Cluster) → IsAmong n (follower k c).unhandled → IsAmong n (follower k (after_request o c)).unhandled
  in_request None c i = i
  in_request (Some q) c i =
      with_session WaitsIn c (record c.session { history = history_after (history c) (accept q (history c) c.session.moment) }) (waits_in c i) k refl

  in_step : (p : ControlPlane) (s : Step) → NoRestart (s ∷ []) → IsAmong n (unhandled k p) → IsAmong n (unhandled k (step_in p s).plane) ⊎ Handles k n p s
  in_step p (in_cluster (request t)) none i = inl (with_session WaitsIn p.cluster (session_after p.cluster.session (line_of t)) (waits_in p.cluster i) k refl)
  in_step p (in_cluster (compact r)) none i = inl (with_session WaitsIn p.cluster (session_after p.cluster.session (lines.compact r)) (waits_in p.cluster i) k refl)
  in_step p (in_cluster (moves j m)) none i =
      inl (with_moved WaitsIn p.cluster j _ (waits_moved p.cluster j m (waits_in p.cluster i j)) (waits_in p.cluster i) k refl)
  in_step p (in_cluster restart) none i = absurd none
  in_step p (handle j) none i = in_handle j (unhandled j p) p refl i
  in_step p (works w a) none i = inl (in_request (act (client p.cluster) w a p.manager).request p.cluster i)
  in_step p (tick t) none i = inl (by_tick (λ c m o. IsAmong n (follower k c).unhandled) t p i i)

  in_counted : (p : ControlPlane) (s : Step) → IsAmong n (unhandled k (step_in p s).plane) ⊎ Handles k n p s → IsAmong n (unhandled k (step p s).plane) ⊎ Handles k n p s
  in_counted p s (inl i) = inl (by_counted (λ c m o. IsAmong n (follower k c).unhandled) (step_in p s) i)
  in_counted p s (inr h) = inr h

-- ---- a change that is handled

-- each key that it owes is dirty then
owed_in : (j : WorkKey) (k : Kind) (n : Notification) (p : ControlPlane) (ns : List Notification) → first ns ≡ Some n → IsOpen p.manager → IsAmong j (owed p.cluster n)
    → set.contains (handle_in k ns p).plane.manager.board.work.dirty j ≡ true
owed_in j k n p [] e o i = cc
owed_in j k n p (m ∷ ns) e o i =
    let is : n ≡ m = cc in all-dirty (owed p.cluster m) p.manager.board.work j o (subst (λ x. IsAmong j (owed p.cluster x)) is i)

owed_dirty : (j : WorkKey) (k : Kind) (n : Notification) (p : ControlPlane) → IsOpen p.manager → first (unhandled k p) ≡ Some n → IsAmong j (owed p.cluster n) → is_dirty j (step p (handle k)).plane ≡ true
owed_dirty j k n p o e i = by_counted (λ c m x. set.contains m.board.work.dirty j ≡ true) (step_in p (handle k)) (owed_in j k n p (unhandled k p) e o i)

-- ---- all steps

later : (p : ControlPlane) (s : Step) (ss : List Step) (k : Kind) (n : Notification) → IsKept (step p s).plane ss k n → IsKept p (s ∷ ss) k n
later p s ss k n (waits x) = waits x
later p s ss k n (was_handled before after e is owes) = was_handled (s ∷ before) after (ap (λ l. s ∷ l) e) is owes

now : (p : ControlPlane) (s : Step) (ss : List Step) (k : Kind) (n : Notification) → IsOpen p.manager → NoRestart ss → Handles k n p s → IsKept p (s ∷ ss) k n
now p s ss k n o none h =
    was_handled [] ss (ap (λ t. t ∷ ss) h.0) h.1 (λ j owed. dirty_run j (step p (handle k)).plane ss none (owed_dirty j k n p o h.1 owed))

kept : (p : ControlPlane) (ss : List Step) (k : Kind) (n : Notification) → IsOpen p.manager → NoRestart ss → IsAmong n (unhandled k p) → IsKept p ss k n
kept p [] k n o none i = waits i
kept p (s ∷ ss) k n o none i =
    let two = first_of_none s ss none in
    by (λ x. later p s ss k n (kept (step p s).plane ss k n (open_step p s o) two.1 x)) (λ x. now p s ss k n o two.1 x) (in_counted k n p s (in_step k n p s two.0 i))
  where
    by : (IsAmong n (unhandled k (step p s).plane) → IsKept p (s ∷ ss) k n) → (Handles k n p s → IsKept p (s ∷ ss) k n) → IsAmong n (unhandled k (step p s).plane) ⊎ Handles k n p s → IsKept p (s ∷ ss) k n
    by f g (inl x) = f x
    by f g (inr x) = g x

-- ---- what is published waits

publishes : (k : Kind) (n : Notification) (f : Follower) (b : Bool) → IsAmong n (cond b [] (notifications f.has_listed f.informer.published.members f.informer.pending))
    → IsAmong n (cond b (closed f) (publish_now k f)).follower.unhandled
publishes k n f true i = absurd i
publishes k n f false i = in_after n f.unhandled _ i

published_waits : (k : Kind) (n : Notification) (p : ControlPlane) → IsAmong n (published k p.cluster) → IsAmong n (unhandled k (step p (in_cluster (moves k publish))).plane)
published_waits k n p i =
    let f = follower k p.cluster in
    by_counted (λ c m o. IsAmong n (follower k c).unhandled) (step_in p (in_cluster (moves k publish)))
    (at_kind k n p.cluster (move_by k (answers_after k p.cluster.session.window (history p.cluster)) f publish).follower (publishes k n f (f.reflector.revision == 0) i))
  where
    at_kind : (k : Kind) (n : Notification) (c : Cluster) (f : Follower) → IsAmong n f.unhandled → IsAmong n (follower k (with_follower k f c)).unhandled
    at_kind ConfigMap n c f i = i
    at_kind Pod n c f i = i
    at_kind ReplicaSet n c f i = i
    at_kind Deployment n c f i = i

pub nothing_forgotten : NothingIsForgotten
nothing_forgotten window workers initial before after k n i none =
    let p = run (opened window workers initial) before in
    kept (step p (in_cluster (moves k publish))).plane after k n (open_step p (in_cluster (moves k publish)) (open_run (opened window workers initial) before refl)) none (published_waits k n p i)
