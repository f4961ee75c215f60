-- Nothing but a take gives a worker a turn.
use Rattle.std.proofs.Common.{◌≡◌, ◌⊎◌, inl, inr, ℕ, zero, suc, List, [], ◌∷◌, Bool, true, false, ◌&&◌, cond, Option, Some, None, slice_get, slice_set, refl, sym, ap, subst, ◌∙◌}
use Rattle.std.specs.FinSet as set
use Rattle.spec_client_go.specs.WorkQueues.{WorkKey, front, got_from}
use Rattle.spec_api.specs.declared.kinds.Kind.{Kind}
use Rattle.spec_sim.specs.Clusters.{follower, request, compact, moves, restart}
use Rattle.spec_sim.specs.Followers.{Notification}
use Rattle.spec_sim.specs.ControlPlanes.{ControlPlane, Step, in_cluster, handle, works, tick, client, handle_in, step_in}
use Rattle.spec_sim.specs.Managers as action
use Rattle.spec_sim.specs.Managers.{Client, Manager, Action, Acted, Delivery, take_key, carry_out, is_take, is_for, delivery_of, act_in, act}
use Rattle.spec_sim.specs.NextSteps as next_step
use Rattle.spec_sim.specs.NextSteps.{NextStep, next}
use Rattle.spec_sim.specs.Outcomes.{took}
use Rattle.spec_sim.specs.Turns.{Turn, begun}
use Rattle.sim_worker_laws.specs.TakeLaws.{TakesTheHead, TakesGiveTheHead, OnlyTakesGive}
use Rattle.sim_worker_laws.proofs.Counting.{by_counted, by_tick}
use Rattle.sim_worker_laws.proofs.IssuedRuns.{none_after}

abbrev Holds : ℕ → Turn → Manager → Type 0
Holds w t m = slice_get m.turns w ≡ Some (Some t)

-- ---- places

-- who has a turn after a place was set has it of that, or had it before
set_cases : (v w : ℕ) (o : Option Turn) (os : List (Option Turn)) (t : Turn) → slice_get (slice_set os v o) w ≡ Some (Some t) → ((v ≡ w) × (o ≡ Some t)) ⊎ (slice_get os w ≡ Some (Some t))
set_cases v w o [] t e = inr e
set_cases zero zero o (x ∷ os) t e = inl (refl, cc)
set_cases zero (suc w) o (x ∷ os) t e = inr e
set_cases (suc v) zero o (x ∷ os) t e = inr e
set_cases (suc v) (suc w) o (x ∷ os) t e = by (set_cases v w o os t e)
  where
    by : ((v ≡ w) × (o ≡ Some t)) ⊎ (slice_get os w ≡ Some (Some t)) → ((suc v ≡ suc w) × (o ≡ Some t)) ⊎ (slice_get os w ≡ Some (Some t))
    by (inl x) = inl (ap suc x.0, x.1)
    by (inr x) = inr x

-- ---- one action

module _ (w : ℕ) (t : Turn) (m : Manager) where
  abbrev Had : Type 0
  Had = (u : Turn) × Holds w u m × (u.work_key ≡ t.work_key)

  -- of an action, by the manager after it
  abbrev Gives : ℕ → Action → Manager → Type 0
  Gives v a n =
      Holds w t n
      → Had ⊎ ((v ≡ w) × (a ≡ action.take) × (slice_get m.turns w ≡ Some None) × ((rest : List WorkKey) × TakesTheHead w t.work_key rest m n) × (t ≡ begun t.work_key))

  same : (n : Manager) → n.turns ≡ m.turns → (v : ℕ) (a : Action) → Gives v a n
  same n is v a here = inl (t, ap (λ os. slice_get os w) (sym is) ∙ here, refl)

  -- a turn that goes on
  goes : (n : Manager) (v : ℕ) (a : Action) (u x : Turn) → n.turns ≡ slice_set m.turns v (Some x) → slice_get m.turns v ≡ Some (Some u) → u.work_key ≡ x.work_key → Gives v a n
  goes n v a u x is there key here = by (set_cases v w (Some x) m.turns t (ap (λ os. slice_get os w) (sym is) ∙ here))
    where
      by : ((v ≡ w) × (Some x ≡ Some t)) ⊎ (slice_get m.turns w ≡ Some (Some t))
          → Had ⊎ ((v ≡ w) × (a ≡ action.take) × (slice_get m.turns w ≡ Some None) × ((rest : List WorkKey) × TakesTheHead w t.work_key rest m n) × (t ≡ begun t.work_key))
      by (inl e) =
          let is_t : x ≡ t = let both = e.1 in cc in inl (u, ap (λ i. slice_get m.turns i) (sym e.0) ∙ there, key ∙ ap (λ (y : Turn). y.work_key) is_t)
      by (inr e) = inl (t, e, refl)

  ends : (n : Manager) (v : ℕ) (a : Action) → n.turns ≡ slice_set m.turns v None → Gives v a n
  ends n v a is here = by (set_cases v w None m.turns t (ap (λ os. slice_get os w) (sym is) ∙ here))
    where
      by : ((v ≡ w) × (None ≡ Some t)) ⊎ (slice_get m.turns w ≡ Some (Some t))
          → Had ⊎ ((v ≡ w) × (a ≡ action.take) × (slice_get m.turns w ≡ Some None) × ((rest : List WorkKey) × TakesTheHead w t.work_key rest m n) × (t ≡ begun t.work_key))
      by (inl e) = let both = e.1 in cc
      by (inr e) = inl (t, e, refl)

  goes_on : (c : Client) (v : ℕ) (a : Action) (u : Turn) (d : Delivery) (x : NextStep) → slice_get m.turns v ≡ Some (Some u) → Gives v a (carry_out c v u d x m).manager
  goes_on c v a u d (next_step.look k) there = goes _ v a u _ refl there refl
  goes_on c v a u d next_step.ask_satisfied there = goes _ v a u _ refl there refl
  goes_on c v a u d (next_step.read k) there = goes _ v a u _ refl there refl
  goes_on c v a u d (next_step.expect e) there = goes _ v a u _ refl there refl
  goes_on c v a u d (next_step.issue x) there = goes _ v a u _ refl there refl
  goes_on c v a u d next_step.finish there = ends _ v a refl

  -- a key is taken, or none is there
  takes : (v : ℕ) (a : Action) (q : List WorkKey) → m.board.work.queue ≡ q → a ≡ action.take → slice_get m.turns v ≡ Some None → Gives v a (take_key v (front q) m).manager
  takes v a [] at is none here = inl (t, here, refl)
  takes v a (k ∷ rest) at is none here = by (set_cases v w (Some (begun k)) m.turns t here)
    where
      begins : (x : WorkKey) → k ≡ x → v ≡ w → TakesTheHead w x rest m (take_key v (Some k) m).manager
      begins x key place =
          record {
            head = at ∙ ap (λ y. y ∷ rest) key;
            queue = ap (λ q. (got_from q m.board.work).queue) at;
            processing = ap (λ q. (got_from q m.board.work).processing) at ∙ ap (set.insert m.board.work.processing) key;
            dirty = ap (λ q. (got_from q m.board.work).dirty) at ∙ ap (set.remove m.board.work.dirty) key;
            turns = λ i. slice_set m.turns (place i) (Some (begun (key i)));
          }

      by : ((v ≡ w) × (Some (begun k) ≡ Some t)) ⊎ (slice_get m.turns w ≡ Some (Some t))
          → Had ⊎ ((v ≡ w) × (a ≡ action.take) × (slice_get m.turns w ≡ Some None) × ((rest : List WorkKey) × TakesTheHead w t.work_key rest m (take_key v (Some k) m).manager) × (t ≡ begun t.work_key))
      by (inl e) =
          let is_t : begun k ≡ t = let both = e.1 in cc in
          let key : k ≡ t.work_key = ap (λ (y : Turn). y.work_key) is_t in
          inr (e.0, is, ap (λ i. slice_get m.turns i) (sym e.0) ∙ none, (rest, begins t.work_key key e.0), sym is_t ∙ ap begun key)
      by (inr e) = inl (t, e, refl)

  is_taking : (a : Action) (b : Bool) → (is_take a && b) ≡ true → a ≡ action.take
  is_taking action.take b e = refl
  is_taking (action.look k) b e = cc
  is_taking action.ask_satisfied b e = cc
  is_taking action.read_live b e = cc
  is_taking action.expect b e = cc
  is_taking (action.issue d) b e = cc
  is_taking action.finish b e = cc

  acts : (c : Client) (v : ℕ) (a : Action) (o : Option (Option Turn)) → slice_get m.turns v ≡ o → Gives v a (act_in c v a o m).manager
  acts c v a None there = same m refl v a
  acts c v a (Some None) there = by (is_take a && c.has_synced) refl
    where
      by : (b : Bool) → (is_take a && c.has_synced) ≡ b → Gives v a (cond b (take_key v (front m.board.work.queue) m) (action.closed m)).manager
      by true e = takes v a m.board.work.queue refl (is_taking a c.has_synced e) there
      by false e = same m refl v a
  acts c v a (Some (Some u)) there = by (is_for a (next u))
    where
      by : (b : Bool) → Gives v a (cond b (carry_out c v u (delivery_of a) (next u) m) (action.closed m)).manager
      by true = goes_on c v a u (delivery_of a) (next u) there
      by false = same m refl v a

-- ---- one step

module _ (p : ControlPlane) (w : ℕ) (t : Turn) where
  -- of a step, by the manager after it
  abbrev Comes : Step → Manager → Type 0
  Comes s n =
      Holds w t n
      → ((u : Turn) × Holds w u p.manager × (u.work_key ≡ t.work_key))
      ⊎ ((slice_get p.manager.turns w ≡ Some None) × (s ≡ works w action.take) × ((rest : List WorkKey) × TakesTheHead w t.work_key rest p.manager n) × (t ≡ begun t.work_key))

  stays : (s : Step) (n : Manager) → n.turns ≡ p.manager.turns → Comes s n
  stays s n is here = inl (t, ap (λ os. slice_get os w) (sym is) ∙ here, refl)

  handles : (s : Step) (k : Kind) (ns : List Notification) → Comes s (handle_in k ns p).plane.manager
  handles s k [] = stays s p.manager refl
  handles s k (n ∷ ns) = stays s _ refl

  by_works : (v : ℕ) (a : Action) (n : Manager) → Gives w t p.manager v a n → Comes (works v a) n
  by_works v a n gives here = by (gives here)
    where
      by : Had w t p.manager
          ⊎ ((v ≡ w) × (a ≡ action.take) × (slice_get p.manager.turns w ≡ Some None) × ((rest : List WorkKey) × TakesTheHead w t.work_key rest p.manager n) × (t ≡ begun t.work_key))
          → ((u : Turn) × Holds w u p.manager × (u.work_key ≡ t.work_key))
          ⊎ ((slice_get p.manager.turns w ≡ Some None) × (works v a ≡ works w action.take) × ((rest : List WorkKey) × TakesTheHead w t.work_key rest p.manager n) × (t ≡ begun t.work_key))
      by (inl x) = inl x
      by (inr (place, taking, none, head, new)) = inr (none, (λ i. works (place i) (taking i)), head, new)

  comes_in : (s : Step) → Comes s (step_in p s).plane.manager
  comes_in (in_cluster (request l)) = stays (in_cluster (request l)) p.manager refl
  comes_in (in_cluster (compact r)) = stays (in_cluster (compact r)) p.manager refl
  comes_in (in_cluster (moves k m)) = stays (in_cluster (moves k m)) p.manager refl
  comes_in (in_cluster restart) = λ here. absurd (none_after p.manager.turns w t here)
  comes_in (handle k) = handles (handle k) k (follower k p.cluster).unhandled
  comes_in (works v a) = by_works v a _ (acts w t p.manager (client p.cluster) v a (slice_get p.manager.turns v) refl)
  comes_in (tick n) = by_tick (λ c m o. Comes (tick n) m) n p (stays (tick n) p.manager refl) (stays (tick n) _ refl)

pub only_takes : OnlyTakesGive
only_takes p s w t = by_counted (λ c m o. Comes p w t s m) (step_in p s) (comes_in p w t s)

-- ---- what a take gives

pub takes_give : TakesGiveTheHead
takes_give p w k rest none synced queued =
    let c = client p.cluster in
    let m = p.manager in
    let r : act c w action.take m ≡ take_key w (Some k) m =
    ap (λ o. act_in c w action.take o m) none ∙ ap (λ b. cond b (take_key w (front m.board.work.queue) m) (action.closed m)) synced ∙ ap (λ q. take_key w (front q) m) queued in
    by_counted (λ c n o. TakesTheHead w k rest m n × (o ≡ took w (Some k))) (step_in p (works w action.take))
    (subst (λ (a : Acted). TakesTheHead w k rest m a.manager × (a.outcome ≡ took w (Some k))) (sym r) (
      record {
        head = queued;
        queue = ap (λ q. (got_from q m.board.work).queue) queued;
        processing = ap (λ q. (got_from q m.board.work).processing) queued;
        dirty = ap (λ q. (got_from q m.board.work).dirty) queued;
        turns = refl;
      },
      refl,
    ))
