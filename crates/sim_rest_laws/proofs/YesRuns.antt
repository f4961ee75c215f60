-- At rest: in the last turn of a ReplicaSet all that was expected had been seen.
use Rattle.std.proofs.Common.{◌≡◌, ◌⊎◌, inl, inr, ◌==◌, ℕ, zero, suc, List, [], ◌∷◌, ◌++◌, map, Bool, true, false, not, ◌&&◌, ◌||◌, cond, Option, Some, None, unwrap_or, slice_get, slice_set, refl, sym, ap, ◌∙◌, subst, append_assoc, append-nil}
use mathlib.Core.Bool.{true≢false}
use Rattle.std.specs.Cmp.{eq_by_cmp_equiv}
use Rattle.std.specs.FinMap as map_of
use Rattle.std.specs.FinSet as set
use Rattle.std.specs.Ordering.{eq_by_cmp}
use Rattle.spec_api.specs.declared.kinds.Kind.{Kind}
use Rattle.spec_api.specs.declared.kinds.Kind.TheVariants as kind
use Rattle.spec_api.specs.Kinds.{rank}
use Rattle.spec_client_go.specs.declared.controller.Controller.TheVariants.{ReplicaSet}
use Rattle.spec_client_go.specs.Expectations.{Owner, Table}
use Rattle.spec_client_go.specs.Boards as boards
use Rattle.spec_client_go.specs.Boards.{Board, is_satisfied}
use Rattle.spec_client_go.specs.WorkQueues.{WorkKey, work_key_cmp, handed}
use Rattle.spec_client_go.proofs.WorkKeyOrder.{work_key_total}
use Rattle.spec_sim.specs.declared.initial_syncs.InitialSync.{InitialSync}
use Rattle.spec_sim.specs.Clusters.{Cluster, history, follower, looks, request, compact, moves, restart}
use Rattle.spec_sim.specs.Followers.{Notification}
use Rattle.spec_sim.specs.ControlPlanes.{ControlPlane, Step, in_cluster, handle, works, tick, opened, client, handle_in, step_in, step, run, owed}
use Rattle.spec_sim.specs.Managers as action
use Rattle.spec_sim.specs.Managers.{Client, Manager, Action, Acted, Delivery, take_key, carry_out, is_take, is_for, delivery_of, act_in, act, is_satisfied_for}
use Rattle.spec_sim.specs.NextSteps as next_step
use Rattle.spec_sim.specs.NextSteps.{NextStep, Sighting, of_kind, first, order, unseen, next}
use Rattle.spec_sim.specs.Outcomes.{Outcome}
use Rattle.spec_sim.specs.PodObservations.{observations}
use Rattle.spec_sim.specs.Turns as turns
use Rattle.spec_sim.specs.Turns.{Turn, looked, satisfied, was_satisfied, begun, owner, expected, all_accepted}
use Rattle.sim_worker_laws.specs.IssuedLaws.{WasThere, sighting_of}
use Rattle.sim_worker_laws.specs.LookLaws.{WasPublishedSince, IsUnderWay}
use Rattle.sim_worker_laws.specs.OwedLaws.{IsAmong, unhandled, NoRestart, tells_taken, was_taken, is_dirty}
use Rattle.sim_worker_laws.specs.TakeLaws.{HasInHand}
use Rattle.sim_worker_laws.specs.TurnLaws.{is_in_hands}
use Rattle.sim_worker_laws.proofs.Counting.{by_counted, by_tick}
use Rattle.sim_worker_laws.proofs.Dirty.{all-dirty}
use Rattle.sim_worker_laws.proofs.HandRuns.{all_fit, apart}
use Rattle.sim_worker_laws.proofs.InHands.{hands_with, hands_on, hands_without, fewer, is_there}
use Rattle.sim_worker_laws.proofs.LookRuns.{under_way}
use Rattle.sim_worker_laws.proofs.Nexts.{Stands, to_look, to_expect, stands}
use Rattle.sim_worker_laws.proofs.Owed.{open_run, first_of_none, dirty_run}
use Rattle.sim_rest_laws.specs.Rests.{IsAtRest}
use Rattle.sim_rest_laws.specs.TurnRunLaws.{Becomes, stays, looks as has_looked, asks, reads, expects, issues, ends}
use Rattle.sim_rest_laws.specs.LastTurnLaws.{IsLastTurn, at_take, since_take}
use Rattle.sim_rest_laws.specs.WholeLaws.{LastAnswersAreYes}
use Rattle.sim_rest_laws.proofs.Kept.{ends_act}
use Rattle.sim_rest_laws.proofs.LastTurns.{taken_both, not_dirty}
use Rattle.sim_rest_laws.proofs.ShiftRuns.{run_both, none_split}
use Rattle.sim_rest_laws.proofs.TurnSteps.{turns_go}
use Rattle.sim_rest_laws.proofs.Unmet.{Unmet, unmet, not_satisfied, none_unmet, whose, lowered_or, shown_owes, set_key, owner_key, Harmless, kept_on}
use Rattle.sim_rest_laws.proofs.Yes.{answer, answer_look, answer_again, satisfied_is, owner_stays, owner_asked, owner_looked, looks_at_pods, is_answered, no_pods}

never : {A : Type 0} → false ≡ true → A
never e = absurd (true≢false (sym e))

-- ---- one step, for an owner

module _ (o : Owner) (p : ControlPlane) where
  abbrev Still : Cluster → Manager → Outcome → Type 0
  Still c m x = map_of.get m.board.expected o ≡ map_of.get p.manager.board.expected o

  still_handle : (k : Kind) (ns : List Notification) → unhandled k p ≡ ns → ((n : Notification) → first (unhandled k p) ≡ Some n → IsAmong (set_key o.key) (owed p.cluster n) → ⊥)
      → Still p.cluster (handle_in k ns p).plane.manager (handle_in k ns p).outcome
  still_handle k [] is none = refl
  still_handle k (n ∷ ns) is none = by (lowered_or o (observations n) p.manager.board.expected)
    where
      by : ((s : boards.Observation) × IsAmong s (observations n) × (whose s ≡ o)) ⊎ (map_of.get (boards.all_lowered (observations n) p.manager.board.expected) o ≡ map_of.get p.manager.board.expected o)
          → map_of.get (boards.all_lowered (observations n) p.manager.board.expected) o ≡ map_of.get p.manager.board.expected o
      by (inl s) =
          absurd (none n (ap first is) (subst (λ (x : Owner). IsAmong (set_key x.key) (owed p.cluster n)) s.2 (shown_owes n (looks p.cluster) s.0 s.1)))
      by (inr e) = e

  still_take : (w : ℕ) (x : Option WorkKey) → Still p.cluster (take_key w x p.manager).manager (take_key w x p.manager).outcome
  still_take w None = refl
  still_take w (Some k) = refl

  still_act : (v : ℕ) (a : Action) (x : Option (Option Turn)) → slice_get p.manager.turns v ≡ x
      → ((u : Turn) → HasInHand v u p → is_for a (next u) ≡ true → u.work_key ≡ set_key o.key → Harmless u (next u))
      → Still p.cluster (act_in (client p.cluster) v a x p.manager).manager (act_in (client p.cluster) v a x p.manager).outcome
  still_act v a None at harm = refl
  still_act v a (Some None) at harm = by (is_take a && (client p.cluster).has_synced)
    where
      by : (b : Bool)
          → Still p.cluster (cond b (take_key v (handed p.manager.board.work) p.manager) (action.closed p.manager)).manager
          (cond b (take_key v (handed p.manager.board.work) p.manager) (action.closed p.manager)).outcome
      by true = still_take v (handed p.manager.board.work)
      by false = refl
  still_act v a (Some (Some u)) at harm = by (is_for a (next u)) refl
    where
      by : (b : Bool) → is_for a (next u) ≡ b
          → Still p.cluster (cond b (carry_out (client p.cluster) v u (delivery_of a) (next u) p.manager) (action.closed p.manager)).manager
          (cond b (carry_out (client p.cluster) v u (delivery_of a) (next u) p.manager) (action.closed p.manager)).outcome
      by true e = kept_on o (client p.cluster) v p.manager u (delivery_of a) (next u) (stands u) (harm u at e)
      by false e = refl

  still_in : (s : Step) → NoRestart (s ∷ []) → ((k : Kind) (n : Notification) → s ≡ handle k → first (unhandled k p) ≡ Some n → IsAmong (set_key o.key) (owed p.cluster n) → ⊥)
      → ((v : ℕ) (a : Action) (u : Turn) → s ≡ works v a → HasInHand v u p → is_for a (next u) ≡ true → u.work_key ≡ set_key o.key → Harmless u (next u))
      → Still p.cluster (step_in p s).plane.manager (step_in p s).outcome
  still_in (in_cluster (request l)) none h harm = refl
  still_in (in_cluster (compact r)) none h harm = refl
  still_in (in_cluster (moves k m)) none h harm = refl
  still_in (in_cluster restart) none h harm = absurd none
  still_in (handle k) none h harm = still_handle k (unhandled k p) refl (λ n. h k n refl)
  still_in (works v a) none h harm = still_act v a (slice_get p.manager.turns v) refl (λ u. harm v a u refl)
  still_in (tick n) none h harm = by_tick Still n p refl refl

  still_step : (s : Step) → NoRestart (s ∷ []) → ((k : Kind) (n : Notification) → s ≡ handle k → first (unhandled k p) ≡ Some n → IsAmong (set_key o.key) (owed p.cluster n) → ⊥)
      → ((v : ℕ) (a : Action) (u : Turn) → s ≡ works v a → HasInHand v u p → is_for a (next u) ≡ true → u.work_key ≡ set_key o.key → Harmless u (next u))
      → Unmet o p.manager.board.expected → Unmet o (step p s).plane.manager.board.expected
  still_step s none h harm is = ap unmet (by_counted Still (step_in p s) (still_in s none h harm)) ∙ is

-- ---- a key in nobody's hands

module _ (j : WorkKey) where
  abbrev Idle : Manager → Type 0
  Idle m = is_in_hands j m.turns ≡ false

  abbrev IsIdle : Cluster → Manager → Outcome → Type 0
  IsIdle c m o = tells_taken j o ≡ false → Idle m

  both_false : (a b : Bool) → a ≡ false → b ≡ false → (a || b) ≡ false
  both_false a b e f = ap (λ x. x || b) e ∙ f

  idle_take : (p : ControlPlane) (v : ℕ) (x : Option WorkKey) → slice_get p.manager.turns v ≡ Some None → Idle p.manager → IsIdle p.cluster (take_key v x p.manager).manager (take_key v x p.manager).outcome
  idle_take p v None at idle e = idle
  idle_take p v (Some k) at idle e = hands_with v (begun k) p.manager.turns j at ∙ both_false (eq_by_cmp work_key_cmp j k) (is_in_hands j p.manager.turns) e idle

  idle_on : (p : ControlPlane) (v : ℕ) (u : Turn) (d : Delivery) (n : NextStep) → slice_get p.manager.turns v ≡ Some (Some u) → Idle p.manager → Idle (carry_out (client p.cluster) v u d n p.manager).manager
  idle_on p v u d (next_step.look k) at idle = hands_on v u _ p.manager.turns j at refl ∙ idle
  idle_on p v u d next_step.ask_satisfied at idle = hands_on v u _ p.manager.turns j at refl ∙ idle
  idle_on p v u d (next_step.read k) at idle = hands_on v u _ p.manager.turns j at refl ∙ idle
  idle_on p v u d (next_step.expect e) at idle = hands_on v u _ p.manager.turns j at refl ∙ idle
  idle_on p v u d (next_step.issue x) at idle = hands_on v u _ p.manager.turns j at refl ∙ idle
  idle_on p v u d next_step.finish at idle = fewer v p.manager.turns j idle

  idle_act : (p : ControlPlane) (v : ℕ) (a : Action) (x : Option (Option Turn)) → slice_get p.manager.turns v ≡ x → Idle p.manager
      → IsIdle p.cluster (act_in (client p.cluster) v a x p.manager).manager (act_in (client p.cluster) v a x p.manager).outcome
  idle_act p v a None at idle = λ e. idle
  idle_act p v a (Some None) at idle = by (is_take a && (client p.cluster).has_synced)
    where
      by : (b : Bool)
          → IsIdle p.cluster (cond b (take_key v (handed p.manager.board.work) p.manager) (action.closed p.manager)).manager
          (cond b (take_key v (handed p.manager.board.work) p.manager) (action.closed p.manager)).outcome
      by true = idle_take p v (handed p.manager.board.work) at idle
      by false = λ e. idle
  idle_act p v a (Some (Some u)) at idle = by (is_for a (next u))
    where
      by : (b : Bool)
          → IsIdle p.cluster (cond b (carry_out (client p.cluster) v u (delivery_of a) (next u) p.manager) (action.closed p.manager)).manager
          (cond b (carry_out (client p.cluster) v u (delivery_of a) (next u) p.manager) (action.closed p.manager)).outcome
      by true = λ e. idle_on p v u (delivery_of a) (next u) at idle
      by false = λ e. idle

  idle_handle : (p : ControlPlane) (k : Kind) (ns : List Notification) → Idle p.manager → IsIdle p.cluster (handle_in k ns p).plane.manager (handle_in k ns p).outcome
  idle_handle p k [] idle = λ e. idle
  idle_handle p k (n ∷ ns) idle = λ e. idle

  idle_in : (p : ControlPlane) (s : Step) → NoRestart (s ∷ []) → Idle p.manager → IsIdle p.cluster (step_in p s).plane.manager (step_in p s).outcome
  idle_in p (in_cluster (request l)) none idle = λ e. idle
  idle_in p (in_cluster (compact r)) none idle = λ e. idle
  idle_in p (in_cluster (moves k m)) none idle = λ e. idle
  idle_in p (in_cluster restart) none idle = absurd none
  idle_in p (handle k) none idle = idle_handle p k (unhandled k p) idle
  idle_in p (works v a) none idle = idle_act p v a (slice_get p.manager.turns v) refl idle
  idle_in p (tick n) none idle = by_tick IsIdle n p (λ e. idle) (λ e. idle)

  idle_step : (p : ControlPlane) (s : Step) → NoRestart (s ∷ []) → tells_taken j (step p s).outcome ≡ false → Idle p.manager → Idle (step p s).plane.manager
  idle_step p s none e idle = by_counted IsIdle (step_in p s) (idle_in p s none idle) e

  none_of : (a b : Bool) → (a || b) ≡ false → (a ≡ false) × (b ≡ false)
  none_of true b e = absurd (true≢false e)
  none_of false b e = (refl, e)

  idle_run : (p : ControlPlane) (ss : List Step) → NoRestart ss → was_taken j p ss ≡ false → Idle p.manager → Idle (run p ss).manager
  idle_run p [] none e idle = idle
  idle_run p (s ∷ ss) none e idle =
      let two = first_of_none s ss none in
      let parts = none_of (tells_taken j (step p s).outcome) (was_taken j (step p s).plane ss) e in idle_run (step p s).plane ss two.1 parts.1 (idle_step p s two.0 parts.0 idle)

-- ---- the end of a turn

same_key : (k : WorkKey) → eq_by_cmp work_key_cmp k k ≡ true
same_key k = (eq_by_cmp_equiv work_key_total).refl k

set_here : {A : Type 0} (w : ℕ) (y o : A) (os : List A) → slice_get os w ≡ Some y → slice_get (slice_set os w o) w ≡ Some o
set_here w y o [] e = cc
set_here zero y o (x ∷ os) e = refl
set_here (suc w) y o (x ∷ os) e = set_here w y o os e

-- the turns after it
ended_turns : (p : ControlPlane) (w : ℕ) (t : Turn) → HasInHand w t p → next t ≡ next_step.finish → (step p (works w action.finish)).plane.manager.turns ≡ slice_set p.manager.turns w None
ended_turns p w t here is =
    by_counted (λ c m o. m.turns ≡ slice_set p.manager.turns w None) (step_in p (works w action.finish)) (ap (λ (a : Acted). a.manager.turns) (ends_act (client p.cluster) w t p.manager here is))

-- what is expected after it, where all was accepted
ended_expected : (p : ControlPlane) (w : ℕ) (t : Turn) → HasInHand w t p → next t ≡ next_step.finish → all_accepted t.issues ≡ true
    → (step p (works w action.finish)).plane.manager.board.expected ≡ p.manager.board.expected
ended_expected p w t here is well =
    by_counted (λ c m o. m.board.expected ≡ p.manager.board.expected) (step_in p (works w action.finish))
    (ap (λ (a : Acted). a.manager.board.expected) (ends_act (client p.cluster) w t p.manager here is)
    ∙ ap (λ b. (cond b (boards.finished t.work_key p.manager.board) (boards.requeued t.work_key (turns.taken_back t) p.manager.board)).expected) well)

some_turn : (u t : Turn) → Some (Some u) ≡ Some (Some t) → u ≡ t
some_turn u t e = cc

no_turn : (u : Turn) → Some (Some u) ≡ Some None → ⊥
no_turn u e = cc

finishing : (a : Action) → is_for a next_step.finish ≡ true → a ≡ action.finish
finishing action.take e = cc
finishing (action.look k) e = cc
finishing action.ask_satisfied e = cc
finishing action.read_live e = cc
finishing action.expect e = cc
finishing (action.issue d) e = cc
finishing action.finish e = refl

-- ---- from the take on

module _ (window workers : ℕ) (initial : InitialSync) (before after : List Step) (j : WorkKey) (t : Turn) (rest : IsAtRest (run (run (opened window workers initial) before) after))
    (l : IsLastTurn (run (opened window workers initial) before) after j t) where
  abbrev v : ControlPlane
  v = opened window workers initial

  abbrev p : ControlPlane
  p = run v before

  abbrev q : ControlPlane
  q = at_take p after j t l

  abbrev since : List Step
  since = since_take p after j t l

  abbrev w : ℕ
  w = l.worker

  abbrev up_to : List Step → List Step
  up_to x = before ++ (l.before ++ works w action.take ∷ x)

  at_point : (x : List Step) → run q x ≡ run v (up_to x)
  at_point x = sym (run_both v before (l.before ++ works w action.take ∷ x) ∙ run_both p l.before (works w action.take ∷ x))

  at_end : run p after ≡ run q since
  at_end = ap (run p) l.is ∙ run_both p l.before (works w action.take ∷ since)

  -- nothing takes the key, and there is no restart
  none_from : (x y : List Step) → since ≡ x ++ y → NoRestart y
  none_from x y e = (none_split x y (subst NoRestart e l.none)).1

  not_taken : (x y : List Step) → since ≡ x ++ y → was_taken j (run q x) y ≡ false
  not_taken x y e = (none_of j (was_taken j q x) (was_taken j (run q x) y) (sym (taken_both j q x y) ∙ subst (λ z. was_taken j q z ≡ false) e l.last)).1

  further : (x y : List Step) (s : Step) → since ≡ x ++ s ∷ y → since ≡ (x ++ s ∷ []) ++ y
  further x y s e = e ∙ sym (append_assoc x (s ∷ []) y)

  point_on : (x : List Step) (s : Step) → run q (x ++ s ∷ []) ≡ (step (run q x) s).plane
  point_on x s = run_both q x (s ∷ [])

  is_open : (x : List Step) → (run q x).manager.board.work.is_shut ≡ false
  is_open x = ap (λ (z : ControlPlane). z.manager.board.work.is_shut) (at_point x) ∙ open_run v (up_to x) refl

  -- a change that is handled owes the key nothing
  owed_in : (r : ControlPlane) (k : Kind) (n : Notification) (ns : List Notification) → first ns ≡ Some n → r.manager.board.work.is_shut ≡ false → IsAmong j (owed r.cluster n)
      → set.contains (handle_in k ns r).plane.manager.board.work.dirty j ≡ true
  owed_in r k n [] e o i = cc
  owed_in r k n (m ∷ ns) e o i = let is : n ≡ m = cc in all-dirty (owed r.cluster m) r.manager.board.work j o (subst (λ x. IsAmong j (owed r.cluster x)) is i)

  not_owed : (x y : List Step) (k : Kind) (n : Notification) → since ≡ x ++ handle k ∷ y → first (unhandled k (run q x)) ≡ Some n → IsAmong j (owed (run q x).cluster n) → ⊥
  not_owed x y k n e oldest i =
      let r = run q x in
      let d : is_dirty j (step r (handle k)).plane ≡ true = by_counted (λ c m o. set.contains m.board.work.dirty j ≡ true) (step_in r (handle k)) (owed_in r k n (unhandled k r) oldest (is_open x) i) in
      let none = (first_of_none (handle k) y (none_from x (handle k ∷ y) e)).1 in
      let here = point_on x (handle k) in
      let wanted = dirty_run j (step r (handle k)).plane y none d in
      let end : run (step r (handle k)).plane y ≡ run v (before ++ after) =
      ap (λ (z : ControlPlane). run z y) (sym here) ∙ sym (run_both q (x ++ handle k ∷ []) y) ∙ ap (run q) (sym (further x y (handle k) e)) ∙ sym at_end ∙ sym (run_both v before after) in
      let at_rest : IsAtRest (run (step r (handle k)).plane y) = subst IsAtRest (run_both_sym end) rest in
      let clean = not_dirty window workers initial (before ++ after) (run (step r (handle k)).plane y) j end at_rest in
      let gone = subst (λ (z : ControlPlane). was_taken j z y ≡ false) here (not_taken (x ++ handle k ∷ []) y (further x y (handle k) e)) in
      true≢false (sym wanted ∙ ap (λ b. b || was_taken j (step r (handle k)).plane y) clean ∙ gone)
    where
      run_both_sym : {z : ControlPlane} → z ≡ run v (before ++ after) → run p after ≡ z
      run_both_sym e = sym (run_both v before after) ∙ sym e

  -- a turn of the key is the worker's
  is_ours : (x : List Step) (t' u : Turn) (i : ℕ) → HasInHand w t' (run q x) → t'.work_key ≡ j → HasInHand i u (run q x) → u.work_key ≡ j → t' ≡ u
  is_ours x t' u i here key there other =
      let at = at_point x in
      let mine : slice_get (run v (up_to x)).manager.turns w ≡ Some (Some t') = ap (λ (z : ControlPlane). slice_get z.manager.turns w) (sym at) ∙ here in
      let its : slice_get (run v (up_to x)).manager.turns i ≡ Some (Some u) = ap (λ (z : ControlPlane). slice_get z.manager.turns i) (sym at) ∙ there in
      let one : w ≡ i = apart window workers initial (up_to x) w i t' u mine its (key ∙ sym other) in some_turn t' u (sym mine ∙ ap (slice_get (run v (up_to x)).manager.turns) one ∙ its)

  is_our_place : (x : List Step) (t' u : Turn) (i : ℕ) → HasInHand w t' (run q x) → t'.work_key ≡ j → HasInHand i u (run q x) → u.work_key ≡ j → w ≡ i
  is_our_place x t' u i here key there other =
      let at = at_point x in
      apart window workers initial (up_to x) w i t' u (ap (λ (z : ControlPlane). slice_get z.manager.turns w) (sym at) ∙ here) (ap (λ (z : ControlPlane). slice_get z.manager.turns i) (sym at) ∙ there)
      (key ∙ sym other)

  -- after its end nobody has it
  idle_after : (x : List Step) (t' : Turn) → HasInHand w t' (run q x) → t'.work_key ≡ j → next t' ≡ next_step.finish → Idle j (step (run q x) (works w action.finish)).plane.manager
  idle_after x t' here key is =
      let r = run q x in
      let fit = all_fit window workers initial (up_to x) in
      let mine : slice_get (run v (up_to x)).manager.turns w ≡ Some (Some t') = ap (λ (z : ControlPlane). slice_get z.manager.turns w) (sym (at_point x)) ∙ here in
      ap (is_in_hands j) (ended_turns r w t' here is ∙ ap (λ (z : ControlPlane). slice_set z.manager.turns w None) (at_point x))
      ∙ hands_without w t' (run v (up_to x)).manager.turns j mine fit.2
      ∙ ap (λ k. not (eq_by_cmp work_key_cmp j k) && is_in_hands j (run v (up_to x)).manager.turns) key
      ∙ ap (λ b. not b && is_in_hands j (run v (up_to x)).manager.turns) (same_key j)

  -- ---- what was answered, and what is expected

  abbrev Ans : Turn → Table → Type 0
  Ans t' e = answer t'.sights ≡ Some false → (o : Owner) × (owner t' ≡ Some o) × Unmet o e

  key_of : (t' : Turn) (o : Owner) → t'.work_key ≡ j → owner t' ≡ Some o → set_key o.key ≡ j
  key_of t' o key own = sym (owner_key t' o own) ∙ key

  -- its next step does nothing to it, unless it ends
  harmless : (t' : Turn) (o : Owner) → owner t' ≡ Some o → ((x : turns.Expected) → next t' ≡ next_step.expect x → ⊥) → (next t' ≡ next_step.finish → ⊥) → Harmless t' (next t')
  harmless t' o own quiet goes = by (next t') refl
    where
      no_owner : (o : Owner) → Some o ≡ None → ⊥
      no_owner o f = cc

      by : (n : NextStep) → next t' ≡ n → Harmless t' n
      by (next_step.look k) e = tt
      by next_step.ask_satisfied e = λ none. no_owner o (sym own ∙ none)
      by (next_step.read k) e = tt
      by (next_step.expect x) e = quiet x e
      by (next_step.issue x) e = tt
      by next_step.finish e = absurd (goes e)

  quiet_by_plan : (t' : Turn) → answer t'.sights ≡ Some false → (x : turns.Expected) → next t' ≡ next_step.expect x → ⊥
  quiet_by_plan t' a x n = by (subst (Stands t') n (stands t'))
    where
      none_is : (y : Option turns.Expected) → y ≡ None → y ≡ Some x → ⊥
      none_is y f g = cc

      by : Stands t' (next_step.expect x) → ⊥
      by (to_expect _ a' b c some) = none_is (expected t') (no_pods t' a) some

  quiet_by_ask : (t' : Turn) → next t' ≡ next_step.ask_satisfied → (x : turns.Expected) → next t' ≡ next_step.expect x → ⊥
  quiet_by_ask t' n x f = differ (sym n ∙ f)
    where
      differ : next_step.ask_satisfied ≡ next_step.expect x → ⊥
      differ g = cc

  -- a step after which it is still in hand keeps what is expected
  module _ (x y : List Step) (s : Step) (t' u : Turn) (e : since ≡ x ++ s ∷ y) (here : HasInHand w t' (run q x)) (key : t'.work_key ≡ j) (there : HasInHand w u (step (run q x) s).plane) where
    abbrev r : ControlPlane
    r = run q x

    not_last : (a : Action) → s ≡ works w a → is_for a (next t') ≡ true → next t' ≡ next_step.finish → ⊥
    not_last a is meant f =
        let finishes : s ≡ works w action.finish = is ∙ ap (works w) (finishing a (ap (is_for a) (sym f) ∙ meant)) in
        let gone : slice_get (step r s).plane.manager.turns w ≡ Some None =
        ap (λ z. slice_get (step r z).plane.manager.turns w) finishes ∙ ap (λ os. slice_get os w) (ended_turns r w t' here f) ∙ set_here w (Some t') None r.manager.turns here in
        no_turn u (sym there ∙ gone)

    keeps : (o : Owner) → owner t' ≡ Some o → ((x : turns.Expected) → next t' ≡ next_step.expect x → ⊥) → Unmet o r.manager.board.expected → Unmet o (step r s).plane.manager.board.expected
    keeps o own quiet is =
        let named = key_of t' o key own in
        still_step o r s (first_of_none s y (none_from x (s ∷ y) e)).0
        (λ k n handles oldest i. not_owed x y k n (e ∙ ap (λ z. x ++ z ∷ y) handles) oldest (subst (λ z. IsAmong z (owed r.cluster n)) named i))
        (λ i a z acts its meant other.
        let one = is_ours x t' z i here key its (other ∙ named) in
        let place = is_our_place x t' z i here key its (other ∙ named) in
        subst (λ (g : Turn). Harmless g (next g)) one (harmless t' o own quiet (not_last a (acts ∙ ap (λ g. works g a) (sym place)) (ap (λ (g : Turn). is_for a (next g)) one ∙ meant))))
        is

  seen_so_far : (x : List Step) (t' : Turn) → HasInHand w t' (run q x) → map sighting_of t'.sights ++ unseen t' ≡ order t'.work_key.controller
  seen_so_far x t' here =
      let u : IsUnderWay (WasPublishedSince v (up_to x)) (WasThere (history (run v (up_to x)).cluster)) t' =
      under_way window workers initial (up_to x) w t' (ap (λ (z : ControlPlane). slice_get z.manager.turns w) (sym (at_point x)) ∙ here) in
      u.seen

  module _ (set : j.controller ≡ ReplicaSet) where
    pods_alone : (x : List Step) (t' : Turn) (k : Kind) → HasInHand w t' (run q x) → t'.work_key ≡ j → next t' ≡ next_step.look k → answer t'.sights ≡ Some false → k ≡ kind.Pod
    pods_alone x t' k here key n a = by (subst (Stands t') n (stands t'))
      where
        by : Stands t' (next_step.look k) → k ≡ kind.Pod
        by (to_look _ rest u) =
            looks_at_pods t'.sights false k rest a
            (ap (λ z. map sighting_of t'.sights ++ z) (sym u) ∙ seen_so_far x t' here ∙ ap (λ (z : WorkKey). order z.controller) key ∙ ap order set)

    ans_step : (x y : List Step) (s : Step) (t' u : Turn) → since ≡ x ++ s ∷ y → HasInHand w t' (run q x) → t'.work_key ≡ j → HasInHand w u (step (run q x) s).plane
        → Becomes (run q x) s w t' (Some u) → Ans t' (run q x).manager.board.expected → Ans u (step (run q x) s).plane.manager.board.expected
    ans_step x y s t' u e here key there stays ans = λ a.
        let o = ans a in (o.0, o.1, keeps x y s t' u e here key there o.0 o.1 (quiet_by_plan t' a) o.2)
    ans_step x y s t' u e here key there (has_looked k n) ans = λ a.
        let snap = (follower k (run q x).cluster).informer.published in
        let a' = sym (answer_look k snap t'.sights) ∙ a in
        let o = ans a' in
        let pod = pods_alone x t' k here key n a' in
        (o.0, owner_looked t' k snap (ap (λ z. rank kind.ReplicaSet == rank z) pod) ∙ o.1, keeps x y s t' u e here key there o.0 o.1 (quiet_by_plan t' a') o.2)
    ans_step x y s t' u e here key there (asks n) ans = λ a. by a (answer_again (is_satisfied_for (owner t') (run q x).manager.board) t'.sights)
      where
        keeps_it : (o : Owner) → owner t' ≡ Some o → Unmet o (run q x).manager.board.expected
            → (let u' = record t' { sights = t'.sights ++ satisfied (is_satisfied_for (owner t') (run q x).manager.board) ∷ [] } in
            (o : Owner) × (owner u' ≡ Some o) × Unmet o (step (run q x) s).plane.manager.board.expected)
        keeps_it o own is = (o, owner_asked t' (is_satisfied_for (owner t') (run q x).manager.board) ∙ own, keeps x y s t' u e here key there o own (quiet_by_ask t' n) is)

        by_owner : (z : Option Owner) → owner t' ≡ z → is_satisfied_for z (run q x).manager.board ≡ false → (o : Owner) × (owner t' ≡ Some o) × Unmet o (run q x).manager.board.expected
        by_owner None f g = absurd (true≢false g)
        by_owner (Some o) f g = (o, f, not_satisfied o (run q x).manager.board.time (run q x).manager.board.expected g)

        the_answer : (b : Bool) → Some b ≡ Some false → b ≡ false
        the_answer b f = cc

        by : (let b = is_satisfied_for (owner t') (run q x).manager.board in
            answer (t'.sights ++ satisfied b ∷ []) ≡ Some false → (answer (t'.sights ++ satisfied b ∷ []) ≡ answer t'.sights) ⊎ (answer (t'.sights ++ satisfied b ∷ []) ≡ Some b)
            → (let u' = record t' { sights = t'.sights ++ satisfied b ∷ [] } in (o : Owner) × (owner u' ≡ Some o) × Unmet o (step (run q x) s).plane.manager.board.expected))
        by a (inl same) = let o = ans (sym same ∙ a) in keeps_it o.0 o.1 o.2
        by a (inr new) = let o = by_owner (owner t') refl (the_answer (is_satisfied_for (owner t') (run q x).manager.board) (sym new ∙ a)) in keeps_it o.0 o.1 o.2
    ans_step x y s t' u e here key there (reads k n) ans = λ a. let o = ans a in (o.0, owner_stays u t' refl refl ∙ o.1, keeps x y s t' u e here key there o.0 o.1 (quiet_by_plan t' a) o.2)
    ans_step x y s t' u e here key there (expects z n) ans = λ a. absurd (quiet_by_plan t' a z n)
    ans_step x y s t' u e here key there (issues c d is n) ans = λ a. let o = ans a in (o.0, owner_stays u t' refl refl ∙ o.1, keeps x y s t' u e here key there o.0 o.1 (quiet_by_plan t' a) o.2)

    key_stays : (r : ControlPlane) (s : Step) (t' u : Turn) → Becomes r s w t' (Some u) → u.work_key ≡ t'.work_key
    key_stays r s t' u stays = refl
    key_stays r s t' u (has_looked k n) = refl
    key_stays r s t' u (asks n) = refl
    key_stays r s t' u (reads k n) = refl
    key_stays r s t' u (expects z n) = refl
    key_stays r s t' u (issues c d is n) = refl

    abbrev fin : List Step
    fin = works w action.finish ∷ l.after

    -- up to the end of the turn
    phase : (x ss : List Step) (t' : Turn) → l.during ≡ x ++ ss → HasInHand w t' (run q x) → t'.work_key ≡ j → Ans t' (run q x).manager.board.expected → Ans t (run q l.during).manager.board.expected
    phase x [] t' e here key ans =
        let same : l.during ≡ x = e ∙ append-nil x in
        let one : t' ≡ t = some_turn t' t (sym here ∙ ap (λ z. slice_get (run q z).manager.turns w) (sym same) ∙ l.hand) in
        subst (λ z. Ans t (run q z).manager.board.expected) (sym same) (subst (λ z. Ans z (run q x).manager.board.expected) one ans)
    phase x (s ∷ ss) t' e here key ans =
        let whole : since ≡ x ++ s ∷ (ss ++ fin) = ap (λ z. z ++ fin) e ∙ append_assoc x (s ∷ ss) fin in
        let b = turns_go (run q x) s w t' (first_of_none s (ss ++ fin) (none_from x (s ∷ (ss ++ fin)) whole)).0 here in
        by whole b.0 b.1 b.2
        (λ u at key' ans'. phase (x ++ s ∷ []) ss u (e ∙ sym (append_assoc x (s ∷ []) ss)) (ap (λ (z : ControlPlane). slice_get z.manager.turns w) (point_on x s) ∙ at) key'
        (subst (λ (z : ControlPlane). Ans u z.manager.board.expected) (sym (point_on x s)) ans'))
      where
        -- it does not end before
        ends_early : since ≡ x ++ s ∷ (ss ++ fin) → Becomes (run q x) s w t' None → ⊥
        ends_early whole (ends is n) =
            let r = run q x in
            let m = (step r s).plane in
            let idle : Idle j m.manager = subst (λ z. Idle j (step r z).plane.manager) (sym is) (idle_after x t' here key n) in
            let on = further x (ss ++ fin) s whole in
            let not_fin = subst (λ (z : ControlPlane). was_taken j z (ss ++ fin) ≡ false) (point_on x s) (not_taken (x ++ s ∷ []) (ss ++ fin) on) in
            let not_ss = (none_of j (was_taken j m ss) (was_taken j (run m ss) fin) (sym (taken_both j m ss fin) ∙ not_fin)).0 in
            let none_ss = (none_split ss fin (none_from (x ++ s ∷ []) (ss ++ fin) on)).0 in
            let later : Idle j (run m ss).manager = idle_run j m ss none_ss not_ss idle in
            let end : run m ss ≡ run q l.during = ap (λ (z : ControlPlane). run z ss) (sym (point_on x s)) ∙ sym (run_both q (x ++ s ∷ []) ss) ∙ ap (run q) (append_assoc x (s ∷ []) ss ∙ sym e) in
            let held : is_in_hands j (run q l.during).manager.turns ≡ true = ap (λ k. is_in_hands k (run q l.during).manager.turns) (sym l.since.key) ∙ is_there w t (run q l.during).manager.turns l.hand in
            true≢false (sym held ∙ ap (λ (z : ControlPlane). is_in_hands j z.manager.turns) (sym end) ∙ later)

        by : (whole : since ≡ x ++ s ∷ (ss ++ fin)) (o : Option Turn) → slice_get (step (run q x) s).plane.manager.turns w ≡ Some o → Becomes (run q x) s w t' o
            → ((u : Turn) → slice_get (step (run q x) s).plane.manager.turns w ≡ Some (Some u) → u.work_key ≡ j → Ans u (step (run q x) s).plane.manager.board.expected → Ans t (run q l.during).manager.board.expected)
            → Ans t (run q l.during).manager.board.expected
        by whole (Some u) at b then = then u at (key_stays (run q x) s t' u b ∙ key) (ans_step x (ss ++ fin) s t' u whole here key at b ans)
        by whole None at b then = absurd (ends_early whole b)

    -- after its end
    idle_keeps : (o : Owner) → set_key o.key ≡ j → (x y : List Step) → since ≡ x ++ y → Idle j (run q x).manager → Unmet o (run q x).manager.board.expected → Unmet o (run q since).manager.board.expected
    idle_keeps o named x [] e idle is = subst (λ z. Unmet o (run q z).manager.board.expected) (sym (e ∙ append-nil x)) is
    idle_keeps o named x (s ∷ y) e idle is =
        let r = run q x in
        let none = first_of_none s y (none_from x (s ∷ y) e) in
        let not_s = (none_of j (tells_taken j (step r s).outcome) (was_taken j (step r s).plane y) (not_taken x (s ∷ y) e)).0 in
        let kept =
        still_step o r s none.0 (λ k n handles oldest i. not_owed x y k n (e ∙ ap (λ z. x ++ z ∷ y) handles) oldest (subst (λ z. IsAmong z (owed r.cluster n)) named i))
        (λ i a u acts its meant other.
        absurd (true≢false (sym (is_there i u r.manager.turns its) ∙ ap (λ k. is_in_hands k r.manager.turns) (other ∙ named) ∙ idle)))
        is in
        let point = sym (point_on x s) in
        idle_keeps o named (x ++ s ∷ []) y (further x y s e) (subst (λ (z : ControlPlane). Idle j z.manager) point (idle_step j r s none.0 not_s idle))
        (subst (λ (z : ControlPlane). Unmet o z.manager.board.expected) point kept)

    says_yes : answer t.sights ≡ Some false → ⊥
    says_yes a =
        let first = phase [] l.during (begun j) refl l.taken refl (λ f. absurd (no_answer f)) in
        let o = first a in
        let r = run q l.during in
        let named = key_of t o.0 l.since.key o.1 in
        let finish = works w action.finish in
        let point = sym (point_on l.during finish) in
        let idle : Idle j (step r finish).plane.manager = idle_after l.during t l.hand l.since.key l.ends in
        let open_still : Unmet o.0 (step r finish).plane.manager.board.expected = subst (Unmet o.0) (sym (ended_expected r w t l.hand l.ends l.accepted)) o.2 in
        let last =
        idle_keeps o.0 named (l.during ++ finish ∷ []) l.after (sym (append_assoc l.during (finish ∷ []) l.after)) (subst (λ (z : ControlPlane). Idle j z.manager) point idle)
        (subst (λ (z : ControlPlane). Unmet o.0 z.manager.board.expected) point open_still) in
        none_unmet o.0 (run q since).manager.board.expected (subst IsAtRest at_end rest).expected last
      where
        no_answer : None ≡ Some false → ⊥
        no_answer f = cc

    is_yes : was_satisfied t.sights ≡ true
    is_yes =
        let a = is_answered t.sights (l.seen ∙ ap order set) in by a.0 a.1
      where
        by : (b : Bool) → answer t.sights ≡ Some b → was_satisfied t.sights ≡ true
        by true e = satisfied_is t.sights ∙ ap (λ (o : Option Bool). unwrap_or o false) e
        by false e = absurd (says_yes e)

pub answers_yes : LastAnswersAreYes
answers_yes window workers initial before after j t once rest l set = is_yes window workers initial before after j t rest l set
