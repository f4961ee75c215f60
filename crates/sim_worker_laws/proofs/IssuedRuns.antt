-- Whatever steps are taken, each command that was issued is the next one of its plan.
use Rattle.std.proofs.Common.{◌≡◌, ℕ, zero, suc, List, [], ◌∷◌, ◌++◌, map, replicate, Bool, true, false, ◌&&◌, Option, Some, None, slice_get, refl, sym, ap, ◌∙◌, subst, append_assoc, arith, append-nil}
use Rattle.spec_api.specs.declared.kinds.Kind.{Kind}
use Rattle.spec_api.specs.declared.kinds.Kind.TheVariants.{ConfigMap, Pod, ReplicaSet, Deployment}
use Rattle.spec_api.specs.History.{present}
use Rattle.spec_api.specs.ObjectRequests.{Request}
use Rattle.spec_api.specs.Verbs.{accept, history_after}
use Rattle.spec_server.specs.Snapshots.{Snapshot}
use Rattle.spec_client_go.specs.WorkQueues.{WorkKey, handed}
use Rattle.spec_line_protocol.specs.Lines as lines
use Rattle.spec_line_protocol.specs.Lines.{line_of, session_after}
use Rattle.spec_sim.specs.Clusters.{Cluster, history, follower, request, compact, moves, restart}
use Rattle.spec_sim.specs.Followers.{Follower, Notification}
use Rattle.spec_sim.specs.Moves.{answers_after}
use Rattle.spec_sim.specs.ControlPlanes.{ControlPlane, Step, in_cluster, handle, works, tick, opened, client, have_all_listed, after_request, handle_in, step_in, step, run}
use Rattle.spec_sim.specs.Managers.{Manager, Acted, act, take_key}
use Rattle.spec_sim.specs.Turns.{Turn}
use Rattle.sim_worker_laws.specs.IssuedLaws.{WasPublished, WasThere, IssuedIsNext}
use Rattle.sim_worker_laws.proofs.Acting.{by_act}
use Rattle.sim_worker_laws.proofs.Counting.{by_counted, by_tick}
use Rattle.sim_worker_laws.proofs.Following.{AllFollow, act_follows, all_more, none_begun, none_restarted}
use Rattle.sim_worker_laws.proofs.Growing.{step_begins, there_still}
use Rattle.sim_worker_laws.proofs.Moved.{by_move}
use Rattle.spec_sim.proofs.ClusterFollowers.{with_session, with_moved}

-- ---- where a worker is in its turn, a list of each kind was published

abbrev pub IsListed : Kind → Follower → Type 0
IsListed k f = f.has_listed ≡ true

abbrev pub AreListed : Cluster → Type 0
AreListed c = (k : Kind) → IsListed k (follower k c)

abbrev pub AreReady : Cluster → Manager → Type 0
AreReady c m = (w : ℕ) (t : Turn) → slice_get m.turns w ≡ Some (Some t) → AreListed c

all_four : (a b c d : Bool) → (a && b && c && d) ≡ true → (a ≡ true) × (b ≡ true) × (c ≡ true) × (d ≡ true)
all_four true true true true e = (refl, refl, refl, refl)
all_four true true true false e = cc
all_four true true false d e = cc
all_four true false c d e = cc
all_four false b c d e = cc

synced_listed : (c : Cluster) → have_all_listed c ≡ true → AreListed c
synced_listed c e =
    let four = all_four c.config_maps.has_listed c.pods.has_listed c.replica_sets.has_listed c.deployments.has_listed e in by four.0 four.1 four.2 four.3
  where
    by : c.config_maps.has_listed ≡ true → c.pods.has_listed ≡ true → c.replica_sets.has_listed ≡ true → c.deployments.has_listed ≡ true → AreListed c
    by a b d e ConfigMap = a
    by a b d e Pod = b
    by a b d e ReplicaSet = d
    by a b d e Deployment = e

pub none_begins : (m n : ℕ) (t : Turn) → slice_get (replicate m None) n ≡ Some (Some t) → ⊥
none_begins zero n t e = cc
none_begins (suc m) zero t e = cc
none_begins (suc m) (suc n) t e = none_begins m n t e

pub none_after : (os : List (Option Turn)) (n : ℕ) (t : Turn) → slice_get (map (λ t. None) os) n ≡ Some (Some t) → ⊥
none_after [] n t e = cc
none_after (o ∷ os) zero t e = cc
none_after (o ∷ os) (suc n) t e = none_after os n t e

ready_take : (c : Cluster) (m : Manager) (w : ℕ) (o : Option WorkKey) → AreReady c m → AreListed c → AreReady c (take_key w o m).manager
ready_take c m w None ready all v t e = ready v t e
ready_take c m w (Some k) ready all v t e = all

ready_act : (p : ControlPlane) (w : ℕ) (x : Acted) → AreReady p.cluster x.manager → AreReady (after_request x.request p.cluster) x.manager
ready_act p w x ready v t e = by x.request
  where
    by : (o : Option Request) → AreListed (after_request o p.cluster)
    by None = ready v t e
    by (Some q) = with_session IsListed p.cluster (record p.cluster.session { history = history_after (history p.cluster) (accept q (history p.cluster) p.cluster.session.moment) }) (ready v t e)

ready_handle : (k : Kind) (ns : List Notification) (p : ControlPlane) → AreReady p.cluster p.manager → AreReady (handle_in k ns p).plane.cluster (handle_in k ns p).plane.manager
ready_handle k [] p ready w t e = ready w t e
ready_handle k (n ∷ ns) p ready w t e = with_moved IsListed p.cluster k (record (follower k p.cluster) { unhandled = ns }) (ready w t e k) (ready w t e)

ready_in : (p : ControlPlane) (s : Step) → AreReady p.cluster p.manager → AreReady (step_in p s).plane.cluster (step_in p s).plane.manager
ready_in p (in_cluster (request l)) ready w t e = with_session IsListed p.cluster (session_after p.cluster.session (line_of l)) (ready w t e)
ready_in p (in_cluster (compact r)) ready w t e = with_session IsListed p.cluster (session_after p.cluster.session (lines.compact r)) (ready w t e)
ready_in p (in_cluster (moves k m)) ready w t e =
    let all = ready w t e in
    with_moved IsListed p.cluster k _
    (by_move (λ (f : Follower). f.has_listed ≡ true) (follower k p.cluster) (all k) (λ l. all k) (all k) (all k) (λ l. all k) (λ r l. all k) (all k) refl k
    (answers_after k p.cluster.session.window (history p.cluster)) m)
    all
ready_in p (in_cluster restart) ready w t e = absurd (none_after p.manager.turns w t e)
ready_in p (handle k) ready w t e = ready_handle k (follower k p.cluster).unhandled p ready w t e
ready_in p (works w a) ready i u is =
    ready_act p w (act (client p.cluster) w a p.manager)
    (by_act (λ x. AreReady p.cluster x.manager) (client p.cluster) w a p.manager ready
    (λ here synced. ready_take p.cluster p.manager w (handed p.manager.board.work) ready (synced_listed p.cluster synced)) (λ t d here v u e. ready w t here)) i u is
ready_in p (tick n) ready w t e = by_tick (λ c m o. AreReady c m) n p ready ready w t e

pub ready_step : (p : ControlPlane) (s : Step) → AreReady p.cluster p.manager → AreReady (step p s).plane.cluster (step p s).plane.manager
ready_step p s ready = by_counted (λ c m o. AreReady c m) (step_in p s) (ready_in p s ready)

-- ---- each step

module _ (v : ControlPlane) where
  -- what was published before some steps was published before more
  published_more : (before : List Step) (s : Step) (k : Kind) (l : Snapshot) → WasPublished v before k l → WasPublished v (before ++ s ∷ []) k l
  published_more before s k l x = (x.0, x.1 ++ s ∷ [], ap (λ ss. ss ++ s ∷ []) x.2 ∙ append_assoc x.0 x.1 (s ∷ []), x.3)

  abbrev Well : List Step → ControlPlane → Type 0
  Well before p = AllFollow (WasPublished v before) (WasThere (history p.cluster)) p.manager

  shown_now : (before : List Step) (p : ControlPlane) → p ≡ run v before → AreListed p.cluster → (k : Kind) → WasPublished v before k (follower k p.cluster).informer.published
  shown_now before p is all k = (
    before,
    [],
    sym (append-nil before),
    subst (λ (q : ControlPlane). ((follower k p.cluster).informer.published ≡ (follower k q.cluster).informer.published) × ((follower k q.cluster).has_listed ≡ true)) is (refl, all k),
  )

  well_handle : (L : Kind → Snapshot → Type 0) (p : ControlPlane) (k : Kind) (ns : List Notification) → AllFollow L (WasThere (history p.cluster)) p.manager
      → AllFollow L (WasThere (history p.cluster)) (handle_in k ns p).plane.manager
  well_handle L p k [] f = f
  well_handle L p k (n ∷ ns) f = f

  well_in : (before : List Step) (p : ControlPlane) (s : Step) → p ≡ run v before → AreReady p.cluster p.manager → Well before p
      → AllFollow (WasPublished v before) (WasThere (history p.cluster)) (step_in p s).plane.manager
  well_in before p (in_cluster (request l)) is ready f = f
  well_in before p (in_cluster (compact r)) is ready f = f
  well_in before p (in_cluster (moves k m)) is ready f = f
  well_in before p (in_cluster restart) is ready f = (none_restarted (WasPublished v before) (WasThere (history p.cluster)) p.manager.turns, f.1)
  well_in before p (handle k) is ready f = well_handle (WasPublished v before) p k (follower k p.cluster).unhandled f
  well_in before p (works w a) is ready f =
      act_follows (WasPublished v before) (WasThere (history p.cluster)) (client p.cluster) (λ k. (present (history p.cluster), omega arith, refl)) w a p.manager
      (λ t here. shown_now before p is (ready w t here)) f
  well_in before p (tick n) is ready f = by_tick (λ c m o. AllFollow (WasPublished v before) (WasThere (history p.cluster)) m) n p f f

  well_step : (before : List Step) (p : ControlPlane) (s : Step) → p ≡ run v before → AreReady p.cluster p.manager → Well before p → Well (before ++ s ∷ []) (step p s).plane
  well_step before p s is ready f =
      all_more (WasPublished v before) (WasPublished v (before ++ s ∷ [])) (WasThere (history p.cluster)) (WasThere (history (step p s).plane.cluster)) (published_more before s)
      (there_still (history p.cluster) (history (step p s).plane.cluster) (step_begins p s)) (step p s).plane.manager
      (by_counted (λ c m o. AllFollow (WasPublished v before) (WasThere (history p.cluster)) m) (step_in p s) (well_in before p s is ready f))

-- ---- all steps

pub run_one : (v : ControlPlane) (before : List Step) (s : Step) → run v (before ++ s ∷ []) ≡ (step (run v before) s).plane
run_one v [] s = refl
run_one v (b ∷ before) s = run_one (step v b).plane before s

run_well : (v : ControlPlane) (before : List Step) (p : ControlPlane) (ss : List Step) → p ≡ run v before → AreReady p.cluster p.manager → Well v before p → Well v (before ++ ss) (run p ss)
run_well v before p [] is ready f = subst (λ b. Well v b p) (sym (append-nil before)) f
run_well v before p (s ∷ ss) is ready f =
    subst (λ b. Well v b (run (step p s).plane ss)) (append_assoc before (s ∷ []) ss)
    (run_well v (before ++ s ∷ []) (step p s).plane ss (ap (λ q. (step q s).plane) is ∙ sym (run_one v before s)) (ready_step p s ready) (well_step v before p s is ready f))

pub issued_next : IssuedIsNext
issued_next window workers initial steps =
    let v = opened window workers initial in
    (run_well v [] v steps refl (λ w t e. absurd (none_begins workers w t e)) (none_begun (WasPublished v []) (WasThere (history v.cluster)) workers, tt)).1
