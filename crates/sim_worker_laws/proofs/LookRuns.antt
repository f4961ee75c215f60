-- Whatever steps are taken: each turn in hand is under way, and each command that was issued came from the turn that its worker had in hand.
use Rattle.std.proofs.Common.{◌≡◌, ◌⊎◌, inl, inr, ℕ, List, [], ◌∷◌, ◌++◌, Bool, true, false, ◌&&◌, cond, Option, Some, None, slice_get, refl, sym, ap, ◌∙◌, subst, append_assoc, arith, append-nil}
use Rattle.std.specs.List.{AllByRecursion}
use Rattle.std.specs.Option.{IfSome}
use Rattle.spec_api.specs.declared.kinds.Kind.{Kind}
use Rattle.spec_api.specs.History.{present}
use Rattle.spec_api.specs.Keys.{Key}
use Rattle.spec_server.specs.Snapshots.{Snapshot}
use Rattle.spec_client_go.specs.Commands.{Command}
use Rattle.spec_client_go.specs.Hands.{Read}
use Rattle.spec_client_go.specs.WorkQueues.{WorkKey, handed}
use Rattle.spec_sim.specs.declared.initial_syncs.InitialSync.{InitialSync}
use Rattle.spec_sim.specs.Clusters.{history, follower, request, compact, moves, restart}
use Rattle.spec_sim.specs.Followers.{Notification}
use Rattle.spec_sim.specs.ControlPlanes.{ControlPlane, Step, in_cluster, handle, works, tick, opened, client, handle_in, step_in, step, run}
use Rattle.spec_sim.specs.Managers as action
use Rattle.spec_sim.specs.Managers.{Client, Manager, Issued, Action, Delivery, take_key, carry_out, is_take, is_for, delivery_of, act_in, act}
use Rattle.spec_sim.specs.NextSteps as next_step
use Rattle.spec_sim.specs.NextSteps.{NextStep, next}
use Rattle.spec_sim.specs.Turns.{Turn}
use Rattle.sim_worker_laws.specs.IssuedLaws.{WasThere, IsNext}
use Rattle.sim_worker_laws.specs.LookLaws.{WasPublishedSince, TurnsAreUnderWay, WasIssued, CommandsWereIssued}
use Rattle.sim_worker_laws.specs.OwedLaws.{NoRestart}
use Rattle.sim_worker_laws.proofs.Counting.{by_counted, by_tick}
use Rattle.sim_worker_laws.proofs.Following.{Follows, at_place, issues_next, place_more, act_follows, none_begun, none_restarted}
use Rattle.sim_worker_laws.proofs.Growing.{step_begins, there_still}
use Rattle.sim_worker_laws.proofs.IssuedRuns.{AreListed, AreReady, none_begins, ready_step, run_one}
use Rattle.sim_worker_laws.proofs.Lists.{all_push, all_map}
use Rattle.sim_worker_laws.proofs.Nexts.{Stands, to_issue, stands}

-- ---- no restart

pub none_after_one : (ss : List Step) (s : Step) → NoRestart ss → NoRestart (s ∷ []) → NoRestart (ss ++ s ∷ [])
none_after_one [] s a b = b
none_after_one (in_cluster (request t) ∷ ss) s a b = none_after_one ss s a b
none_after_one (in_cluster (compact r) ∷ ss) s a b = none_after_one ss s a b
none_after_one (in_cluster (moves k m) ∷ ss) s a b = none_after_one ss s a b
none_after_one (in_cluster restart ∷ ss) s a b = absurd a
none_after_one (handle k ∷ ss) s a b = none_after_one ss s a b
none_after_one (works w x ∷ ss) s a b = none_after_one ss s a b
none_after_one (tick n ∷ ss) s a b = none_after_one ss s a b

-- ---- turns

abbrev TurnsFollow : (Kind → Snapshot → Type 0) → (Read → Type 0) → List (Option Turn) → Type 0
TurnsFollow L R ts = AllByRecursion (λ o. IfSome o (Follows L R)) ts

-- a manager that has issued nothing
abbrev unissued : Manager → Manager
unissued m = record m { issued = [] }

-- what was issued before makes no difference to turns
turns_apart : (c : Client) (w : ℕ) (t : Turn) (d : Delivery) (n : NextStep) (m : Manager) → (carry_out c w t d n (unissued m)).manager.turns ≡ (carry_out c w t d n m).manager.turns
turns_apart c w t d (next_step.look k) m = refl
turns_apart c w t d next_step.ask_satisfied m = refl
turns_apart c w t d (next_step.read k) m = refl
turns_apart c w t d (next_step.expect e) m = refl
turns_apart c w t d (next_step.issue x) m = refl
turns_apart c w t d next_step.finish m = refl

taken_apart : (w : ℕ) (o : Option WorkKey) (m : Manager) → (take_key w o (unissued m)).manager.turns ≡ (take_key w o m).manager.turns
taken_apart w None m = refl
taken_apart w (Some k) m = refl

acted_apart : (c : Client) (w : ℕ) (a : Action) (o : Option (Option Turn)) (m : Manager) → (act_in c w a o (unissued m)).manager.turns ≡ (act_in c w a o m).manager.turns
acted_apart c w a None m = refl
acted_apart c w a (Some None) m = by (is_take a && c.has_synced)
  where
    by : (b : Bool)
        → (cond b (take_key w (handed m.board.work) (unissued m)) (action.closed (unissued m))).manager.turns ≡ (cond b (take_key w (handed m.board.work) m) (action.closed m)).manager.turns
    by true = taken_apart w (handed m.board.work) m
    by false = refl
acted_apart c w a (Some (Some t)) m = by (is_for a (next t))
  where
    by : (b : Bool)
        → (cond b (carry_out c w t (delivery_of a) (next t) (unissued m)) (action.closed (unissued m))).manager.turns
        ≡ (cond b (carry_out c w t (delivery_of a) (next t) m) (action.closed m)).manager.turns
    by true = turns_apart c w t (delivery_of a) (next t) m
    by false = refl

module _ (L : Kind → Snapshot → Type 0) (R : Read → Type 0) (c : Client) (reads : (k : Key) → R (record { key = k; found = c.live k })) where
  turns_act : (w : ℕ) (a : Action) (m : Manager) → ((t : Turn) → slice_get m.turns w ≡ Some (Some t) → (k : Kind) → L k (c.published k)) → TurnsFollow L R m.turns
      → TurnsFollow L R (act c w a m).manager.turns
  turns_act w a m looks all =
      subst (TurnsFollow L R) (acted_apart c w a (slice_get m.turns w) m) (act_follows L R c reads w a (unissued m) looks (all, tt)).0

-- ---- what is issued

-- the action that issues a command
issues : (a : Action) (x : Command) → is_for a (next_step.issue x) ≡ true → a ≡ action.issue (delivery_of a)
issues action.take x e = cc
issues (action.look k) x e = cc
issues action.ask_satisfied x e = cc
issues action.read_live x e = cc
issues action.expect x e = cc
issues (action.issue d) x e = refl
issues action.finish x e = cc

-- what an action adds to what was issued: nothing, or the next command of the turn in hand
abbrev Adds : (Kind → Snapshot → Type 0) → (Read → Type 0) → ℕ → Action → Manager → List Issued → Type 0
Adds L R w a m is =
    (is ≡ m.issued)
    ⊎ ((i : Issued) × (d : Delivery) × (is ≡ m.issued ++ i ∷ []) × (a ≡ action.issue d) × (slice_get m.turns w ≡ Some (Some i.turn)) × IsNext L R i.turn i.command)

module _ (L : Kind → Snapshot → Type 0) (R : Read → Type 0) (c : Client) (w : ℕ) (a : Action) (m : Manager) where
  adds_on : (t : Turn) → slice_get m.turns w ≡ Some (Some t) → Follows L R t → (n : NextStep) → Stands t n → is_for a n ≡ true
      → Adds L R w a m (carry_out c w t (delivery_of a) n m).manager.issued
  adds_on t here f (next_step.look k) s e = inl refl
  adds_on t here f next_step.ask_satisfied s e = inl refl
  adds_on t here f (next_step.read k) s e = inl refl
  adds_on t here f (next_step.expect x) s e = inl refl
  adds_on t here f (next_step.issue x) (to_issue _ rest u q expects accepted left) e =
      inr (
        record { turn = t; command = x; answer = action.learnt (delivery_of a) (c.answer (action.requested t x)) },
        delivery_of a,
        refl,
        issues a x e,
        here,
        issues_next L R t x rest u q expects accepted left f,
      )
  adds_on t here f next_step.finish s e = inl refl

  adds_take : (o : Option WorkKey) → Adds L R w a m (take_key w o m).manager.issued
  adds_take None = inl refl
  adds_take (Some k) = inl refl

  adds_in : (o : Option (Option Turn)) → slice_get m.turns w ≡ o → TurnsFollow L R m.turns → Adds L R w a m (act_in c w a o m).manager.issued
  adds_in None here all = inl refl
  adds_in (Some None) here all = by (is_take a && c.has_synced)
    where
      by : (b : Bool) → Adds L R w a m (cond b (take_key w (handed m.board.work) m) (action.closed m)).manager.issued
      by true = adds_take (handed m.board.work)
      by false = inl refl
  adds_in (Some (Some t)) here all = by (is_for a (next t)) refl
    where
      by : (b : Bool) → is_for a (next t) ≡ b → Adds L R w a m (cond b (carry_out c w t (delivery_of a) (next t) m) (action.closed m)).manager.issued
      by true e = adds_on t here (at_place (Follows L R) w t m.turns here all) (next t) (stands t) e
      by false e = inl refl

-- ---- each step

module _ (v : ControlPlane) where
  since_more : (before : List Step) (s : Step) → NoRestart (s ∷ []) → (k : Kind) (l : Snapshot) → WasPublishedSince v before k l → WasPublishedSince v (before ++ s ∷ []) k l
  since_more before s none k l x = (x.0, x.1 ++ s ∷ [], ap (λ ss. ss ++ s ∷ []) x.2 ∙ append_assoc x.0 x.1 (s ∷ []), none_after_one x.1 s x.3 none, x.4)

  issued_more : (before : List Step) (s : Step) (i : Issued) → WasIssued v before i → WasIssued v (before ++ s ∷ []) i
  issued_more before s i x =
      record {
        before = x.before;
        after = x.after ++ s ∷ [];
        worker = x.worker;
        delivery = x.delivery;
        step = ap (λ ss. ss ++ s ∷ []) x.step ∙ append_assoc x.before (works x.worker (action.issue x.delivery) ∷ x.after) (s ∷ []);
        hand = x.hand;
        next = x.next;
      }

  shown_now : (before : List Step) (p : ControlPlane) → p ≡ run v before → AreListed p.cluster → (k : Kind) → WasPublishedSince v before k (follower k p.cluster).informer.published
  shown_now before p is all k = (
    before,
    [],
    sym (append-nil before),
    tt,
    subst (λ (q : ControlPlane). ((follower k p.cluster).informer.published ≡ (follower k q.cluster).informer.published) × ((follower k q.cluster).has_listed ≡ true)) is (refl, all k),
  )

  abbrev TurnsGo : List Step → ControlPlane → List (Option Turn) → Type 0
  TurnsGo before p ts = TurnsFollow (WasPublishedSince v before) (WasThere (history p.cluster)) ts

  turns_handle : (before : List Step) (p : ControlPlane) (k : Kind) (ns : List Notification) → TurnsGo before p p.manager.turns → TurnsGo before p (handle_in k ns p).plane.manager.turns
  turns_handle before p k [] f = f
  turns_handle before p k (n ∷ ns) f = f

  turns_in : (before : List Step) (p : ControlPlane) (s : Step) → NoRestart (s ∷ []) → p ≡ run v before → AreReady p.cluster p.manager → TurnsGo before p p.manager.turns
      → TurnsGo before p (step_in p s).plane.manager.turns
  turns_in before p (in_cluster (request l)) none is ready f = f
  turns_in before p (in_cluster (compact r)) none is ready f = f
  turns_in before p (in_cluster (moves k m)) none is ready f = f
  turns_in before p (in_cluster restart) none is ready f = absurd none
  turns_in before p (handle k) none is ready f = turns_handle before p k (follower k p.cluster).unhandled f
  turns_in before p (works w a) none is ready f =
      turns_act (WasPublishedSince v before) (WasThere (history p.cluster)) (client p.cluster) (λ k. (present (history p.cluster), omega arith, refl)) w a p.manager
      (λ t here. shown_now before p is (ready w t here)) f
  turns_in before p (tick n) none is ready f = by_tick (λ c m o. TurnsGo before p m.turns) n p f f

  -- in the words of the steps with this one
  turns_more : (before : List Step) (p : ControlPlane) (s : Step) → NoRestart (s ∷ []) → (ts : List (Option Turn)) → TurnsGo before p ts → TurnsGo (before ++ s ∷ []) (step p s).plane ts
  turns_more before p s none ts f =
      let now = (step p s).plane in
      all_map (λ o. IfSome o (Follows (WasPublishedSince v before) (WasThere (history p.cluster))))
      (λ o. IfSome o (Follows (WasPublishedSince v (before ++ s ∷ [])) (WasThere (history now.cluster))))
      (place_more (WasPublishedSince v before) (WasPublishedSince v (before ++ s ∷ [])) (WasThere (history p.cluster)) (WasThere (history now.cluster)) (since_more before s none)
      (there_still (history p.cluster) (history now.cluster) (step_begins p s)))
      ts f

  turns_unless : (before : List Step) (p : ControlPlane) (s : Step) → NoRestart (s ∷ []) → p ≡ run v before → AreReady p.cluster p.manager → TurnsGo before p p.manager.turns
      → TurnsGo (before ++ s ∷ []) (step p s).plane (step p s).plane.manager.turns
  turns_unless before p s none is ready f =
      turns_more before p s none (step p s).plane.manager.turns
      (by_counted (λ c m o. TurnsGo before p m.turns) (step_in p s) (turns_in before p s none is ready f))

  turns_step : (before : List Step) (p : ControlPlane) (s : Step) → p ≡ run v before → AreReady p.cluster p.manager → TurnsGo before p p.manager.turns
      → TurnsGo (before ++ s ∷ []) (step p s).plane (step p s).plane.manager.turns
  turns_step before p (in_cluster (request l)) is ready f = turns_unless before p (in_cluster (request l)) tt is ready f
  turns_step before p (in_cluster (compact r)) is ready f = turns_unless before p (in_cluster (compact r)) tt is ready f
  turns_step before p (in_cluster (moves k m)) is ready f = turns_unless before p (in_cluster (moves k m)) tt is ready f
  turns_step before p (in_cluster restart) is ready f =
      none_restarted (WasPublishedSince v (before ++ in_cluster restart ∷ [])) (WasThere (history (step p (in_cluster restart)).plane.cluster)) p.manager.turns
  turns_step before p (handle k) is ready f = turns_unless before p (handle k) tt is ready f
  turns_step before p (works w a) is ready f = turns_unless before p (works w a) tt is ready f
  turns_step before p (tick n) is ready f = turns_unless before p (tick n) tt is ready f

  -- ---- what is issued

  abbrev Issues : List Step → List Issued → Type 0
  Issues before is = AllByRecursion (WasIssued v before) is

  issues_more : (before : List Step) (s : Step) (is : List Issued) → Issues before is → Issues (before ++ s ∷ []) is
  issues_more before s is f = all_map (WasIssued v before) (WasIssued v (before ++ s ∷ [])) (issued_more before s) is f

  issues_works : (before : List Step) (p : ControlPlane) (w : ℕ) (a : Action) (js : List Issued) → p ≡ run v before
      → Adds (WasPublishedSince v before) (WasThere (history p.cluster)) w a p.manager js → Issues before p.manager.issued → Issues (before ++ works w a ∷ []) js
  issues_works before p w a js is (inl same) f = subst (Issues (before ++ works w a ∷ [])) (sym same) (issues_more before (works w a) p.manager.issued f)
  issues_works before p w a js is (inr (i, d, added, issues, here, is_next)) f =
      subst (Issues (before ++ works w a ∷ [])) (sym added)
      (all_push (WasIssued v (before ++ works w a ∷ [])) p.manager.issued i (issues_more before (works w a) p.manager.issued f)
      (record {
        before = before;
        after = [];
        worker = w;
        delivery = d;
        step = ap (λ x. before ++ works w x ∷ []) issues;
        hand = subst (λ (q : ControlPlane). slice_get q.manager.turns w ≡ Some (Some i.turn)) is here;
        next = subst (λ (q : ControlPlane). IsNext (WasPublishedSince v before) (WasThere (history q.cluster)) i.turn i.command) is is_next;
      }))

  issues_handle : (before : List Step) (p : ControlPlane) (k : Kind) (ns : List Notification) → Issues before p.manager.issued → Issues before (handle_in k ns p).plane.manager.issued
  issues_handle before p k [] f = f
  issues_handle before p k (n ∷ ns) f = f

  issues_in : (before : List Step) (p : ControlPlane) (s : Step) → p ≡ run v before → TurnsGo before p p.manager.turns → Issues before p.manager.issued
      → Issues (before ++ s ∷ []) (step_in p s).plane.manager.issued
  issues_in before p (in_cluster (request l)) is ts f = issues_more before (in_cluster (request l)) p.manager.issued f
  issues_in before p (in_cluster (compact r)) is ts f = issues_more before (in_cluster (compact r)) p.manager.issued f
  issues_in before p (in_cluster (moves k m)) is ts f = issues_more before (in_cluster (moves k m)) p.manager.issued f
  issues_in before p (in_cluster restart) is ts f = issues_more before (in_cluster restart) p.manager.issued f
  issues_in before p (handle k) is ts f = issues_more before (handle k) _ (issues_handle before p k (follower k p.cluster).unhandled f)
  issues_in before p (works w a) is ts f =
      issues_works before p w a _ is
      (adds_in (WasPublishedSince v before) (WasThere (history p.cluster)) (client p.cluster) w a p.manager (slice_get p.manager.turns w) refl ts) f
  issues_in before p (tick n) is ts f =
      issues_more before (tick n) _ (by_tick (λ c m o. Issues before m.issued) n p f f)

  -- ---- all steps

  record Runs (before : List Step) (p : ControlPlane) : Type 0 where
    is : p ≡ run v before
    ready : AreReady p.cluster p.manager
    turns : TurnsGo before p p.manager.turns
    issued : Issues before p.manager.issued

  runs_step : (before : List Step) (p : ControlPlane) (s : Step) → Runs before p → Runs (before ++ s ∷ []) (step p s).plane
  runs_step before p s r =
      record {
        is = ap (λ q. (step q s).plane) r.is ∙ sym (run_one v before s);
        ready = ready_step p s r.ready;
        turns = turns_step before p s r.is r.ready r.turns;
        issued = by_counted (λ c m o. Issues (before ++ s ∷ []) m.issued) (step_in p s) (issues_in before p s r.is r.turns r.issued);
      }

  runs : (before : List Step) (p : ControlPlane) (ss : List Step) → Runs before p → Runs (before ++ ss) (run p ss)
  runs before p [] r = subst (λ b. Runs b p) (sym (append-nil before)) r
  runs before p (s ∷ ss) r = subst (λ b. Runs b (run (step p s).plane ss)) (append_assoc before (s ∷ []) ss) (runs (before ++ s ∷ []) (step p s).plane ss (runs_step before p s r))

all_runs : (window workers : ℕ) (initial : InitialSync) (steps : List Step) → Runs (opened window workers initial) steps (run (opened window workers initial) steps)
all_runs window workers initial steps =
    let v = opened window workers initial in
    runs v [] v steps
    (record {
      is = refl;
      ready = λ w t e. absurd (none_begins workers w t e);
      turns = none_begun (WasPublishedSince v []) (WasThere (history v.cluster)) workers;
      issued = tt;
    })

pub under_way : TurnsAreUnderWay
under_way window workers initial steps w t here =
    let v = opened window workers initial in
    let p = run v steps in
    let f : Follows (WasPublishedSince v steps) (WasThere (history p.cluster)) t =
    at_place (Follows (WasPublishedSince v steps) (WasThere (history p.cluster))) w t p.manager.turns here (all_runs window workers initial steps).turns in
    record { seen = f.order; looks = f.looks; reads = f.reads; issued = f.done }

pub were_issued : CommandsWereIssued
were_issued window workers initial steps = (all_runs window workers initial steps).issued
