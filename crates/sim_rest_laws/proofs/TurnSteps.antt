-- What a step makes of the turn in a worker's hands.
use Rattle.std.proofs.Common.{◌≡◌, ◌⊎◌, inl, inr, ℕ, zero, suc, List, [], ◌∷◌, Bool, true, false, ◌&&◌, cond, Option, Some, None, slice_get, slice_set, refl, sym, ap, ◌∙◌, subst}
use Rattle.spec_api.specs.declared.kinds.Kind.{Kind}
use Rattle.spec_client_go.specs.Commands.{Command}
use Rattle.spec_client_go.specs.WorkQueues.{WorkKey, handed}
use Rattle.spec_sim.specs.Clusters.{follower, request, compact, moves, restart}
use Rattle.spec_sim.specs.Followers.{Notification}
use Rattle.spec_sim.specs.ControlPlanes.{ControlPlane, Step, in_cluster, handle, works, tick, client, handle_in, step_in}
use Rattle.spec_sim.specs.Managers as action
use Rattle.spec_sim.specs.Managers.{Client, Manager, Action, Acted, Delivery, take_key, carry_out, is_take, is_for, delivery_of, act_in, act, is_satisfied_for}
use Rattle.spec_sim.specs.NextSteps as next_step
use Rattle.spec_sim.specs.NextSteps.{NextStep, next}
use Rattle.spec_sim.specs.Turns.{Turn, looked, satisfied, begun, with_sight, with_read, with_expected, with_issue, owner}
use Rattle.sim_worker_laws.specs.OwedLaws.{unhandled, NoRestart}
use Rattle.sim_worker_laws.specs.TakeLaws.{HasInHand}
use Rattle.sim_worker_laws.proofs.Counting.{by_counted, by_tick}
use Rattle.sim_rest_laws.specs.TurnRunLaws.{issue_of, Becomes, stays, looks, asks, reads, expects, issues, ends, TurnsGoOn}

-- ---- places

-- a place that is set, where something was, is that of a worker, or leaves what it has
pub set_or : {A : Type 0} (v w : ℕ) (y o : A) (os : List A) → slice_get os v ≡ Some y → ((v ≡ w) × (slice_get (slice_set os v o) w ≡ Some o)) ⊎ (slice_get (slice_set os v o) w ≡ slice_get os w)
set_or v w y o [] e = inr refl
set_or zero zero y o (x ∷ os) e = inl (refl, refl)
set_or zero (suc w) y o (x ∷ os) e = inr refl
set_or (suc v) zero y o (x ∷ os) e = inr refl
set_or (suc v) (suc w) y o (x ∷ os) e = by (set_or v w y o os e)
  where
    by : ((v ≡ w) × (slice_get (slice_set os v o) w ≡ Some o)) ⊎ (slice_get (slice_set os v o) w ≡ slice_get os w)
        → ((suc v ≡ suc w) × (slice_get (slice_set os v o) w ≡ Some o)) ⊎ (slice_get (slice_set os v o) w ≡ slice_get os w)
    by (inl x) = inl (ap suc x.0, x.1)
    by (inr x) = inr x

one_turn : (u t : Turn) → Some (Some u) ≡ Some (Some t) → u ≡ t
one_turn u t e = cc

no_turn : (t : Turn) → Some None ≡ Some (Some t) → ⊥
no_turn t e = cc

-- the action that issues a command, and the one that ends a turn
issuing : (a : Action) (x : Command) → is_for a (next_step.issue x) ≡ true → a ≡ action.issue (delivery_of a)
issuing action.take x e = cc
issuing (action.look k) x e = cc
issuing action.ask_satisfied x e = cc
issuing action.read_live x e = cc
issuing action.expect x e = cc
issuing (action.issue d) x e = refl
issuing action.finish x e = cc

finishing : (a : Action) → is_for a next_step.finish ≡ true → a ≡ action.finish
finishing action.take e = cc
finishing (action.look k) e = cc
finishing action.ask_satisfied e = cc
finishing action.read_live e = cc
finishing action.expect e = cc
finishing (action.issue d) e = cc
finishing action.finish e = refl

module _ (p : ControlPlane) (w : ℕ) (t : Turn) (here : HasInHand w t p) where
  -- after a step, by the turns then
  abbrev Left : Step → List (Option Turn) → Type 0
  Left s os = (o : Option Turn) × (slice_get os w ≡ Some o) × Becomes p s w t o

  abbrev LeftBy : Step → Manager → Type 0
  LeftBy s m = Left s m.turns

  as_it_is : (s : Step) → Left s p.manager.turns
  as_it_is s = (Some t, here, stays)

  -- a worker's place is set
  placed : (s : Step) (v : ℕ) (y o : Option Turn) → slice_get p.manager.turns v ≡ Some y → (v ≡ w → Becomes p s w t o) → Left s (slice_set p.manager.turns v o)
  placed s v y o at becomes = by (set_or v w y o p.manager.turns at)
    where
      by : ((v ≡ w) × (slice_get (slice_set p.manager.turns v o) w ≡ Some o)) ⊎ (slice_get (slice_set p.manager.turns v o) w ≡ slice_get p.manager.turns w) → Left s (slice_set p.manager.turns v o)
      by (inl x) = (o, x.1, becomes x.0)
      by (inr x) = (Some t, x ∙ here, stays)

  the_one : (v : ℕ) (u : Turn) → slice_get p.manager.turns v ≡ Some (Some u) → v ≡ w → t ≡ u
  the_one v u at e = sym (one_turn u t (sym at ∙ ap (λ i. slice_get p.manager.turns i) e ∙ here))

  goes_on : (v : ℕ) (a : Action) (u : Turn) (n : NextStep) → slice_get p.manager.turns v ≡ Some (Some u) → next u ≡ n → is_for a n ≡ true
      → LeftBy (works v a) (carry_out (client p.cluster) v u (delivery_of a) n p.manager).manager
  goes_on v a u (next_step.look k) at is meant =
      placed (works v a) v (Some u) (Some (with_sight (looked k (follower k p.cluster).informer.published) u)) at
      (λ e. let one = the_one v u at e in subst (λ (x : Turn). Becomes p (works v a) w t (Some (with_sight (looked k (follower k p.cluster).informer.published) x))) one (looks k (ap next one ∙ is)))
  goes_on v a u next_step.ask_satisfied at is meant =
      placed (works v a) v (Some u) (Some (with_sight (satisfied (is_satisfied_for (owner u) p.manager.board)) u)) at
      (λ e. let one = the_one v u at e in subst (λ (x : Turn). Becomes p (works v a) w t (Some (with_sight (satisfied (is_satisfied_for (owner x) p.manager.board)) x))) one (asks (ap next one ∙ is)))
  goes_on v a u (next_step.read k) at is meant =
      placed (works v a) v (Some u) (Some (with_read (record { key = k; found = (client p.cluster).live k }) u)) at
      (λ e. let one = the_one v u at e in subst (λ (x : Turn). Becomes p (works v a) w t (Some (with_read (record { key = k; found = (client p.cluster).live k }) x))) one (reads k (ap next one ∙ is)))
  goes_on v a u (next_step.expect x) at is meant =
      placed (works v a) v (Some u) (Some (with_expected u)) at
      (λ e. let one = the_one v u at e in subst (λ (y : Turn). Becomes p (works v a) w t (Some (with_expected y))) one (expects x (ap next one ∙ is)))
  goes_on v a u (next_step.issue x) at is meant =
      placed (works v a) v (Some u) (Some (with_issue (issue_of p u x (delivery_of a)) u)) at
      (λ e.
      let one = the_one v u at e in
      subst (λ (y : Turn). Becomes p (works v a) w t (Some (with_issue (issue_of p y x (delivery_of a)) y))) one (issues x (delivery_of a) (λ i. works (e i) (issuing a x meant i)) (ap next one ∙ is)))
  goes_on v a u next_step.finish at is meant =
      placed (works v a) v (Some u) None at (λ e. ends (λ i. works (e i) (finishing a meant i)) (ap next (the_one v u at e) ∙ is))

  takes : (v : ℕ) (a : Action) (o : Option WorkKey) → slice_get p.manager.turns v ≡ Some None → LeftBy (works v a) (take_key v o p.manager).manager
  takes v a None at = as_it_is (works v a)
  takes v a (Some k) at = placed (works v a) v None (Some (begun k)) at (λ e. absurd (no_turn t (sym at ∙ ap (λ i. slice_get p.manager.turns i) e ∙ here)))

  acts : (v : ℕ) (a : Action) (o : Option (Option Turn)) → slice_get p.manager.turns v ≡ o → LeftBy (works v a) (act_in (client p.cluster) v a o p.manager).manager
  acts v a None at = as_it_is (works v a)
  acts v a (Some None) at = by (is_take a && (client p.cluster).has_synced)
    where
      by : (b : Bool) → LeftBy (works v a) (cond b (take_key v (handed p.manager.board.work) p.manager) (action.closed p.manager)).manager
      by true = takes v a (handed p.manager.board.work) at
      by false = as_it_is (works v a)
  acts v a (Some (Some u)) at = by (is_for a (next u)) refl
    where
      by : (b : Bool) → is_for a (next u) ≡ b → LeftBy (works v a) (cond b (carry_out (client p.cluster) v u (delivery_of a) (next u) p.manager) (action.closed p.manager)).manager
      by true e = goes_on v a u (next u) at refl e
      by false e = as_it_is (works v a)

  handles : (k : Kind) (ns : List Notification) → LeftBy (handle k) (handle_in k ns p).plane.manager
  handles k [] = as_it_is (handle k)
  handles k (n ∷ ns) = as_it_is (handle k)

  left_in : (s : Step) → NoRestart (s ∷ []) → LeftBy s (step_in p s).plane.manager
  left_in (in_cluster (request l)) none = as_it_is (in_cluster (request l))
  left_in (in_cluster (compact r)) none = as_it_is (in_cluster (compact r))
  left_in (in_cluster (moves k m)) none = as_it_is (in_cluster (moves k m))
  left_in (in_cluster restart) none = absurd none
  left_in (handle k) none = handles k (unhandled k p)
  left_in (works v a) none = acts v a (slice_get p.manager.turns v) refl
  left_in (tick n) none = by_tick (λ c m o. LeftBy (tick n) m) n p (as_it_is (tick n)) (as_it_is (tick n))

pub turns_go : TurnsGoOn
turns_go p s w t none here = by_counted (λ c m o. LeftBy p w t here s m) (step_in p s) (left_in p w t here s none)
