-- At rest: each key that a change owed had its last turn after that, and since its take all is settled.
use Rattle.std.proofs.Common.{◌≡◌, ◌⊎◌, inl, inr, ◌==◌, ℕ, zero, suc, List, [], ◌∷◌, ◌++◌, map, Bool, true, false, ◌&&◌, ◌||◌, cond, is_eq, is_some, Option, Some, None, slice_get, slice_set, Ordering, Less, Equal, Greater, refl, sym, ap, ◌∙◌, subst, append_assoc, append-nil}
use mathlib.Core.Bool.{true≢false}
use Rattle.std.specs.Ordering.{eq_by_cmp}
use Rattle.spec_api.specs.declared.kinds.Kind.{Kind}
use Rattle.spec_api.specs.History.{found, list, present}
use Rattle.spec_api.specs.Keys.{Key}
use Rattle.spec_api.specs.Kinds.{rank}
use Rattle.spec_client_go.specs.WorkQueues.{WorkKey, work_key_cmp, handed}
use Rattle.spec_client_go.proofs.WorkKeyOrder.{work_key_tells}
use Rattle.spec_laws.specs.SentLaws.{whole}
use Rattle.spec_sim.specs.declared.initial_syncs.InitialSync.{InitialSync}
use Rattle.spec_sim.specs.Clusters.{Cluster, history, request, compact, moves, restart}
use Rattle.spec_sim.specs.Followers.{Notification}
use Rattle.spec_sim.specs.Moves as moving
use Rattle.spec_sim.specs.ControlPlanes.{ControlPlane, Step, in_cluster, handle, works, tick, opened, client, handle_in, step_in, step, run, owed}
use Rattle.spec_sim.specs.Managers as action
use Rattle.spec_sim.specs.Managers.{Client, Manager, Action, Delivery, take_key, carry_out, is_take, is_for, delivery_of, act_in}
use Rattle.spec_sim.specs.NextSteps as next_step
use Rattle.spec_sim.specs.NextSteps.{NextStep, next, first, order, unseen}
use Rattle.spec_sim.specs.Outcomes.{Outcome}
use Rattle.spec_sim.specs.Turns.{Turn, begun, asks, commands, all_accepted}
use Rattle.sim_worker_laws.specs.IssuedLaws.{WasThere, sighting_of, commands_of}
use Rattle.sim_worker_laws.specs.LookLaws.{WasPublishedSince, IsUnderWay}
use Rattle.sim_worker_laws.specs.OwedLaws.{IsAmong, unhandled, published, NoRestart, tells_taken, was_taken, is_dirty, IsKept, waits, was_handled}
use Rattle.sim_worker_laws.specs.TakeLaws.{HasInHand}
use Rattle.sim_worker_laws.proofs.Counting.{by_counted, by_tick}
use Rattle.sim_worker_laws.proofs.LookRuns.{under_way}
use Rattle.sim_worker_laws.proofs.Owed.{open_run, first_of_none, nothing_forgotten}
use Rattle.sim_rest_laws.specs.KeptKeyLaws.{is_delayed}
use Rattle.sim_rest_laws.specs.Rests.{IsAtRest}
use Rattle.sim_rest_laws.specs.ShiftRunLaws.{members, published_by, all_deltas, all_published, OnlyTheFirst, Lead, shifts}
use Rattle.sim_rest_laws.specs.TurnRunLaws.{Goes, goes_on, has_ended}
use Rattle.sim_rest_laws.specs.LastTurnLaws.{WasHandled, OwedIt, IsLastTurn, at_take, since_take, IsUnowed, OwedKeysHadTheirTurn, BeganOnce, LastTurnsAreSettled}
use Rattle.sim_rest_laws.proofs.Kept.{nothing_dirty, retry_kept}
use Rattle.sim_rest_laws.proofs.ShiftRuns.{run_both, none_split, kinds_are, changes_lead}
use Rattle.sim_rest_laws.proofs.TurnRuns.{from_take, all_done}

-- ---- the step that takes a key

set_here : {A : Type 0} (w : ℕ) (y o : A) (os : List A) → slice_get os w ≡ Some y → slice_get (slice_set os w o) w ≡ Some o
set_here w y o [] e = cc
set_here zero y o (x ∷ os) e = refl
set_here (suc w) y o (x ∷ os) e = set_here w y o os e

is_taking : (a : Action) (b : Bool) → (is_take a && b) ≡ true → a ≡ action.take
is_taking action.take b e = refl
is_taking (action.look k) b e = cc
is_taking action.ask_satisfied b e = cc
is_taking action.read_live b e = cc
is_taking action.expect b e = cc
is_taking (action.issue d) b e = cc
is_taking action.finish b e = cc

equal_from : (r : Ordering) → is_eq r ≡ true → r ≡ Equal
equal_from Less h = cc
equal_from Equal h = refl
equal_from Greater h = cc

the_key : (j k : WorkKey) → eq_by_cmp work_key_cmp j k ≡ true → k ≡ j
the_key j k e = sym (work_key_tells j k (equal_from (work_key_cmp j k) e))

never : {A : Type 0} → false ≡ true → A
never e = absurd (true≢false (sym e))

module _ (j : WorkKey) (p : ControlPlane) where
  abbrev TakesIt : Step → Cluster → Manager → Outcome → Type 0
  TakesIt s c m o = tells_taken j o ≡ true → (w : ℕ) × (s ≡ works w action.take) × (slice_get m.turns w ≡ Some (Some (begun j)))

  goes : (s : Step) (c : Cluster) (v : ℕ) (t : Turn) (d : Delivery) (n : NextStep) (m : Manager) → TakesIt s c (carry_out (client p.cluster) v t d n m).manager (carry_out (client p.cluster) v t d n m).outcome
  goes s c v t d (next_step.look k) m e = never e
  goes s c v t d next_step.ask_satisfied m e = never e
  goes s c v t d (next_step.read k) m e = never e
  goes s c v t d (next_step.expect x) m e = never e
  goes s c v t d (next_step.issue x) m e = never e
  goes s c v t d next_step.finish m e = never e

  takes : (c : Cluster) (v : ℕ) (a : Action) (o : Option WorkKey) (m : Manager) → a ≡ action.take → slice_get m.turns v ≡ Some None → TakesIt (works v a) c (take_key v o m).manager (take_key v o m).outcome
  takes c v a None m is at e = never e
  takes c v a (Some k) m is at e = (v, ap (works v) is, set_here v None (Some (begun k)) m.turns at ∙ ap (λ x. Some (Some (begun x))) (the_key j k e))

  acts : (c : Cluster) (v : ℕ) (a : Action) (o : Option (Option Turn)) (m : Manager) → slice_get m.turns v ≡ o → TakesIt (works v a) c (act_in (client p.cluster) v a o m).manager (act_in (client p.cluster) v a o m).outcome
  acts c v a None m at = λ e. never e
  acts c v a (Some None) m at = by (is_take a && (client p.cluster).has_synced) refl
    where
      by : (b : Bool) → (is_take a && (client p.cluster).has_synced) ≡ b
          → TakesIt (works v a) c (cond b (take_key v (handed m.board.work) m) (action.closed m)).manager (cond b (take_key v (handed m.board.work) m) (action.closed m)).outcome
      by true x = takes c v a (handed m.board.work) m (is_taking a (client p.cluster).has_synced x) at
      by false x = λ e. never e
  acts c v a (Some (Some t)) m at = by (is_for a (next t))
    where
      by : (b : Bool)
          → TakesIt (works v a) c (cond b (carry_out (client p.cluster) v t (delivery_of a) (next t) m) (action.closed m)).manager
          (cond b (carry_out (client p.cluster) v t (delivery_of a) (next t) m) (action.closed m)).outcome
      by true = goes (works v a) c v t (delivery_of a) (next t) m
      by false = λ e. never e

  handles : (k : Kind) (ns : List Notification) → TakesIt (handle k) (handle_in k ns p).plane.cluster (handle_in k ns p).plane.manager (handle_in k ns p).outcome
  handles k [] e = never e
  handles k (n ∷ ns) e = never e

  takes_in : (s : Step) → TakesIt s (step_in p s).plane.cluster (step_in p s).plane.manager (step_in p s).outcome
  takes_in (in_cluster (request l)) e = never e
  takes_in (in_cluster (compact r)) e = never e
  takes_in (in_cluster (moves k m)) e = never e
  takes_in (in_cluster restart) e = never e
  takes_in (handle k) e = handles k (unhandled k p) e
  takes_in (works v a) e = acts (step_in p (works v a)).plane.cluster v a (slice_get p.manager.turns v) p.manager refl e
  takes_in (tick n) e = by_tick (TakesIt (tick n)) n p (λ x. never x) (λ x. never x) e

  takes_step : (s : Step) → TakesIt s (step p s).plane.cluster (step p s).plane.manager (step p s).outcome
  takes_step s = by_counted (TakesIt s) (step_in p s) (takes_in s)

-- ---- the last take

either : (a b : Bool) → (a || b) ≡ true → b ≡ false → a ≡ true
either true b e f = refl
either false b e f = absurd (true≢false (sym e ∙ f))

none_of : (a b : Bool) → (a || b) ≡ false → (a ≡ false) × (b ≡ false)
none_of true b e = absurd (true≢false e)
none_of false b e = (refl, e)

record LastTake (j : WorkKey) (p : ControlPlane) (ss : List Step) : Type 0 where
  before : List Step
  after : List Step
  worker : ℕ
  is : ss ≡ before ++ works worker action.take ∷ after
  hand : HasInHand worker (begun j) (step (run p before) (works worker action.take)).plane
  last : was_taken j (step (run p before) (works worker action.take)).plane after ≡ false

last_take : (j : WorkKey) (p : ControlPlane) (ss : List Step) → was_taken j p ss ≡ true → LastTake j p ss
last_take j p [] e = never e
last_take j p (s ∷ ss) e = by (was_taken j (step p s).plane ss) refl (last_take j (step p s).plane ss)
  where
    by : (b : Bool) → was_taken j (step p s).plane ss ≡ b → (was_taken j (step p s).plane ss ≡ true → LastTake j (step p s).plane ss) → LastTake j p (s ∷ ss)
    by true h more =
        let l = more h in
        record { before = s ∷ l.before; after = l.after; worker = l.worker; is = ap (λ x. s ∷ x) l.is; hand = l.hand; last = l.last }
    by false h more =
        let t = takes_step j p s (either (tells_taken j (step p s).outcome) (was_taken j (step p s).plane ss) e h) in
        record {
          before = [];
          after = ss;
          worker = t.0;
          is = ap (λ x. x ∷ ss) t.1;
          hand = subst (λ x. HasInHand t.0 (begun j) (step p x).plane) t.1 t.2;
          last = subst (λ x. was_taken j (step p x).plane ss ≡ false) t.1 h;
        }

pub taken_both : (j : WorkKey) (p : ControlPlane) (xs ys : List Step) → was_taken j p (xs ++ ys) ≡ (was_taken j p xs || was_taken j (run p xs) ys)
taken_both j p [] ys = refl
taken_both j p (x ∷ xs) ys = ap (λ b. tells_taken j (step p x).outcome || b) (taken_both j (step p x).plane xs ys) ∙ or_assoc (tells_taken j (step p x).outcome) (was_taken j (step p x).plane xs) (was_taken j (run (step p x).plane xs) ys)
  where
    or_assoc : (a b c : Bool) → (a || (b || c)) ≡ ((a || b) || c)
    or_assoc true b c = refl
    or_assoc false b c = refl

-- ---- a turn that went well

module _ (window workers : ℕ) (initial : InitialSync) where
  abbrev v : ControlPlane
  v = opened window workers initial

  is_open : (pre : List Step) (p : ControlPlane) → p ≡ run v pre → p.manager.board.work.is_shut ≡ false
  is_open pre p is = ap (λ (q : ControlPlane). q.manager.board.work.is_shut) is ∙ open_run v pre refl

  pub not_dirty : (pre : List Step) (p : ControlPlane) (j : WorkKey) → p ≡ run v pre → IsAtRest p → is_dirty j p ≡ false
  not_dirty pre p j is rest = ap (is_dirty j) is ∙ nothing_dirty window workers initial pre j (subst IsAtRest is rest)

  -- a turn that ends before all is at rest, and whose key is not taken again, went well
  went_well : (pre : List Step) (p : ControlPlane) (after : List Step) (w : ℕ) (t : Turn) → p ≡ run v pre → HasInHand w t p → next t ≡ next_step.finish → NoRestart after
      → IsAtRest (run (step p (works w action.finish)).plane after) → was_taken t.work_key (step p (works w action.finish)).plane after ≡ false → all_accepted t.issues ≡ true
  went_well pre p after w t is here ends none rest last = by (all_accepted t.issues) refl
    where
      none_three : (a b c : Bool) → (a || (b || c)) ≡ true → a ≡ false → b ≡ false → c ≡ false → ⊥
      none_three true b c e x y z = true≢false x
      none_three false true c e x y z = true≢false y
      none_three false false true e x y z = true≢false z
      none_three false false false e x y z = true≢false (sym e)

      by : (b : Bool) → all_accepted t.issues ≡ b → all_accepted t.issues ≡ true
      by true e = e
      by false e =
          let finish = works w action.finish in
          let q = run (step p finish).plane after in
          let there : q ≡ run v (pre ++ finish ∷ after) = ap (λ (x : ControlPlane). run (step x finish).plane after) is ∙ sym (run_both v pre (finish ∷ after)) in
          absurd
          (none_three (is_delayed t.work_key q) (is_dirty t.work_key q) (was_taken t.work_key (step p finish).plane after) (retry_kept p after w t (is_open pre p is) (here, ends, e) none)
          (ap is_some (rest.delays t.work_key)) (not_dirty (pre ++ finish ∷ after) q t.work_key there rest) last)

  -- what a turn that ends well has seen, read and issued
  record HasDoneAll (t : Turn) : Type 0 where
    seen : map sighting_of t.sights ≡ order t.work_key.controller
    read : asks t ≡ []
    issued : commands_of t.issues ≡ commands t

  done_all : (pre : List Step) (p : ControlPlane) (w : ℕ) (t : Turn) → p ≡ run v pre → HasInHand w t p → next t ≡ next_step.finish → all_accepted t.issues ≡ true → HasDoneAll t
  done_all pre p w t is here ends well =
      let all = all_done t ends well in
      let under : IsUnderWay (WasPublishedSince v pre) (WasThere (history (run v pre).cluster)) t =
      under_way window workers initial pre w t (ap (λ (x : ControlPlane). slice_get x.manager.turns w) (sym is) ∙ here) in
      record {
        seen = sym (append-nil (map sighting_of t.sights)) ∙ ap (λ ss. map sighting_of t.sights ++ ss) (sym all.0) ∙ under.seen;
        read = all.1;
        issued = sym (append-nil (commands_of t.issues)) ∙ ap (λ cs. commands_of t.issues ++ cs) (sym all.2) ∙ under.issued;
      }

  -- ---- the last turn

  -- where a key was taken, all is at rest, and there was no restart
  pub last_turn : (pre : List Step) (p : ControlPlane) (ss : List Step) (j : WorkKey) → p ≡ run v pre → IsAtRest (run p ss) → NoRestart ss → was_taken j p ss ≡ true → (t : Turn) × IsLastTurn p ss j t
  last_turn pre p ss j is rest none taken =
      let l = last_take j p ss taken in
      let q = (step (run p l.before) (works l.worker action.take)).plane in
      let none_two = none_split l.before (works l.worker action.take ∷ l.after) (subst NoRestart l.is none) in
      let later = (first_of_none (works l.worker action.take) l.after none_two.1).1 in
      let at_end : run p ss ≡ run q l.after = ap (run p) l.is ∙ run_both p l.before (works l.worker action.take ∷ l.after) in
      by l later (subst IsAtRest at_end rest) (from_take q l.after l.worker j l.hand later)
    where
      by : (l : LastTake j p ss) (later : NoRestart l.after)
          → (let q = (step (run p l.before) (works l.worker action.take)).plane in IsAtRest (run q l.after) → Goes q l.after l.worker j → (t : Turn) × IsLastTurn p ss j t)
      by l later at_rest (goes_on t here since) = absurd (at_rest.hands l.worker t here)
      by l later at_rest (has_ended during after t parts here ends since) =
          let q = (step (run p l.before) (works l.worker action.take)).plane in
          let finish = works l.worker action.finish in
          let before = pre ++ (l.before ++ works l.worker action.take ∷ during) in
          let there : run q during ≡ run v before =
          sym
          (run_both v pre (l.before ++ works l.worker action.take ∷ during)
          ∙ ap (λ (x : ControlPlane). run x (l.before ++ works l.worker action.take ∷ during)) (sym is)
          ∙ run_both p l.before (works l.worker action.take ∷ during)) in
          let none_two = none_split during (finish ∷ after) (subst NoRestart parts later) in
          let end : run q l.after ≡ run (step (run q during) finish).plane after = ap (run q) parts ∙ run_both q during (finish ∷ after) in
          let not_taken : was_taken j q (during ++ finish ∷ after) ≡ false = subst (λ x. was_taken j q x ≡ false) parts l.last in
          let not_later = (none_of (was_taken j q during) (was_taken j (run q during) (finish ∷ after)) (sym (taken_both j q during (finish ∷ after)) ∙ not_taken)).1 in
          let not_then = (none_of (tells_taken j (step (run q during) finish).outcome) (was_taken j (step (run q during) finish).plane after) not_later).1 in
          let well =
          went_well before (run q during) after l.worker t there here ends (first_of_none finish after none_two.1).1 (subst IsAtRest end at_rest)
          (ap (λ x. was_taken x (step (run q during) finish).plane after) since.key ∙ not_then) in
          let all = done_all before (run q during) l.worker t there here ends well in (
            t,
            record {
              before = l.before;
              during = during;
              after = after;
              worker = l.worker;
              is = l.is ∙ ap (λ x. l.before ++ works l.worker action.take ∷ x) parts;
              taken = l.hand;
              none = subst NoRestart parts later;
              since = since;
              hand = here;
              ends = ends;
              seen = all.seen ∙ ap (λ (x : WorkKey). order x.controller) since.key;
              read = all.read;
              issued = all.issued;
              accepted = well;
              last = not_taken;
            },
          )

  -- ---- changes that were published

  in_parts : (n : Notification) (xs ys : List Notification) → IsAmong n (xs ++ ys) → IsAmong n xs ⊎ IsAmong n ys
  in_parts n [] ys i = inr i
  in_parts n (x ∷ xs) ys (inl e) = inl (inl e)
  in_parts n (x ∷ xs) ys (inr i) = by (in_parts n xs ys i)
    where
      by : IsAmong n xs ⊎ IsAmong n ys → IsAmong n (x ∷ xs) ⊎ IsAmong n ys
      by (inl y) = inl (inr y)
      by (inr y) = inr y

  record PublishedAt (p : ControlPlane) (ss : List Step) (k : Kind) (n : Notification) : Type 0 where
    before : List Step
    after : List Step
    is : ss ≡ before ++ in_cluster (moves k moving.publish) ∷ after
    among : IsAmong n (published k (run p before).cluster)

  by_publish : (p : ControlPlane) (s : Step) (k : Kind) (n : Notification) → IsAmong n (published_by k p s) → (s ≡ in_cluster (moves k moving.publish)) × IsAmong n (published k p.cluster)
  by_publish p (in_cluster (request t)) k n i = absurd i
  by_publish p (in_cluster (compact r)) k n i = absurd i
  by_publish p (in_cluster (moves j moving.list)) k n i = absurd i
  by_publish p (in_cluster (moves j moving.watch)) k n i = absurd i
  by_publish p (in_cluster (moves j moving.stream)) k n i = absurd i
  by_publish p (in_cluster (moves j (moving.send m))) k n i = absurd i
  by_publish p (in_cluster (moves j moving.send_bookmark)) k n i = absurd i
  by_publish p (in_cluster (moves j (moving.deliver m))) k n i = absurd i
  by_publish p (in_cluster (moves j moving.deliver_all)) k n i = absurd i
  by_publish p (in_cluster (moves j moving.cut)) k n i = absurd i
  by_publish p (in_cluster (moves j moving.publish)) k n i = by (rank j == rank k) refl i
    where
      by : (b : Bool) → (rank j == rank k) ≡ b → IsAmong n (cond b (published k p.cluster) []) → (in_cluster (moves j moving.publish) ≡ in_cluster (moves k moving.publish)) × IsAmong n (published k p.cluster)
      by true e x = (ap (λ i. in_cluster (moves i moving.publish)) (kinds_are j k e), x)
      by false e x = absurd x
  by_publish p (in_cluster restart) k n i = absurd i
  by_publish p (handle j) k n i = absurd i
  by_publish p (works w a) k n i = absurd i
  by_publish p (tick m) k n i = absurd i

  published_at : (p : ControlPlane) (ss : List Step) (k : Kind) (n : Notification) → IsAmong n (all_published k p ss) → PublishedAt p ss k n
  published_at p [] k n i = absurd i
  published_at p (s ∷ ss) k n i = by (published_at (step p s).plane ss k n) (in_parts n (published_by k p s) (all_published k (step p s).plane ss) i)
    where
      by : (IsAmong n (all_published k (step p s).plane ss) → PublishedAt (step p s).plane ss k n) → IsAmong n (published_by k p s) ⊎ IsAmong n (all_published k (step p s).plane ss)
          → PublishedAt p (s ∷ ss) k n
      by more (inl x) = let y = by_publish p s k n x in record { before = []; after = ss; is = ap (λ z. z ∷ ss) y.0; among = y.1 }
      by more (inr x) = let y = more x in record { before = s ∷ y.before; after = y.after; is = ap (λ z. s ∷ z) y.is; among = y.among }

  -- it was handled, and each key that it owed then is dirty in the end, or was taken after that
  abbrev pub Handled : ControlPlane → List Step → Kind → Notification → Type 0
  Handled p ss k n =
      (x : WasHandled p ss k n)
      × ((j : WorkKey) → OwedIt p ss k n j x → (let q = (step (run p x.before) (handle k)).plane in (is_dirty j (run q x.after) || was_taken j q x.after) ≡ true))

  pub handled : (pre : List Step) (p : ControlPlane) (ss : List Step) (k : Kind) (n : Notification) → p ≡ run v pre → unhandled k (run p ss) ≡ [] → NoRestart ss → IsAmong n (all_published k p ss)
      → Handled p ss k n
  handled pre p ss k n is empty none i =
      let a = published_at p ss k n i in
      let publish = in_cluster (moves k moving.publish) in
      let none_two = none_split a.before (publish ∷ a.after) (subst NoRestart a.is none) in
      let there : run p a.before ≡ run v (pre ++ a.before) = ap (λ (x : ControlPlane). run x a.before) is ∙ sym (run_both v pre a.before) in
      let end : run p ss ≡ run (step (run p a.before) publish).plane a.after = ap (run p) a.is ∙ run_both p a.before (publish ∷ a.after) in
      by a (subst (λ (x : ControlPlane). unhandled k x ≡ []) end empty)
      (subst (λ (x : ControlPlane). IsKept (step x publish).plane a.after k n) (sym there)
      (nothing_forgotten window workers initial (pre ++ a.before) a.after k n (subst (λ (x : ControlPlane). IsAmong n (published k x.cluster)) there a.among) (first_of_none publish a.after none_two.1).1))
    where
      by : (a : PublishedAt p ss k n)
          → (let q = (step (run p a.before) (in_cluster (moves k moving.publish))).plane in unhandled k (run q a.after) ≡ [] → IsKept q a.after k n → Handled p ss k n)
      by a gone (waits x) = absurd (subst (IsAmong n) gone x)
      by a gone (was_handled before after e oldest owes) =
          let publish = in_cluster (moves k moving.publish) in
          let q = (step (run p a.before) publish).plane in
          let at : run p (a.before ++ publish ∷ before) ≡ run q before = run_both p a.before (publish ∷ before) in (
            record {
              before = a.before ++ publish ∷ before;
              after = after;
              is = a.is ∙ ap (λ x. a.before ++ publish ∷ x) e ∙ sym (append_assoc a.before (publish ∷ before) (handle k ∷ after));
              oldest = ap (λ (x : ControlPlane). first (unhandled k x)) at ∙ oldest;
            },
            λ j o.
                subst (λ (x : ControlPlane). (let r = (step x (handle k)).plane in (is_dirty j (run r after) || was_taken j r after) ≡ true)) (sym at)
                (owes j (subst (λ (x : ControlPlane). IsAmong j (owed x.cluster n)) at o)),
          )

  -- where all is at rest, it was taken
  pub was_taken_then : (pre : List Step) (p : ControlPlane) (ss : List Step) (k : Kind) (n : Notification) (j : WorkKey) → p ≡ run v pre → IsAtRest (run p ss) → (x : WasHandled p ss k n)
      → (let q = (step (run p x.before) (handle k)).plane in (is_dirty j (run q x.after) || was_taken j q x.after) ≡ true → was_taken j q x.after ≡ true)
  was_taken_then pre p ss k n j is rest x either_way =
      let q = (step (run p x.before) (handle k)).plane in
      let end : run p ss ≡ run q x.after = ap (run p) x.is ∙ run_both p x.before (handle k ∷ x.after) in
      let there : run q x.after ≡ run v (pre ++ ss) = sym end ∙ ap (λ (y : ControlPlane). run y ss) is ∙ sym (run_both v pre ss) in
      ap (λ b. b || was_taken j q x.after) (sym (not_dirty (pre ++ ss) (run q x.after) j there (subst IsAtRest end rest))) ∙ either_way

pub owed_had : OwedKeysHadTheirTurn
owed_had window workers initial before after k n rest none i =
    let p = run (opened window workers initial) before in
    let h = handled window workers initial before p after k n refl (rest.followers k).handled none i in (
      h.0,
      λ j o.
          let x = h.0 in
          let q = (step (run p x.before) (handle k)).plane in
          let end : run p after ≡ run q x.after = ap (run p) x.is ∙ run_both p x.before (handle k ∷ x.after) in
          let there : q ≡ run (opened window workers initial) (before ++ (x.before ++ handle k ∷ [])) =
          sym (run_both (opened window workers initial) before (x.before ++ handle k ∷ []) ∙ run_both p x.before (handle k ∷ [])) in
          let none_two = none_split x.before (handle k ∷ x.after) (subst NoRestart x.is none) in
          last_turn window workers initial (before ++ (x.before ++ handle k ∷ [])) q x.after j there (subst IsAtRest end rest) (first_of_none (handle k) x.after none_two.1).1
          (was_taken_then window workers initial before p after k n j refl rest x (h.1 j o)),
    )

-- ---- since the take of a last turn

module _ (window workers : ℕ) (initial : InitialSync) (before between steps : List Step) (j : WorkKey) (t : Turn) (once : BeganOnce (run (opened window workers initial) before) (between ++ steps))
    (rest : IsAtRest (run (run (run (opened window workers initial) before) between) steps)) (l : IsLastTurn (run (run (opened window workers initial) before) between) steps j t) where
  abbrev u : ControlPlane
  u = opened window workers initial

  abbrev p : ControlPlane
  p = run u before

  abbrev q : ControlPlane
  q = run p between

  abbrev take_step : Step
  take_step = works l.worker action.take

  abbrev r : ControlPlane
  r = at_take q steps j t l

  abbrev since : List Step
  since = since_take q steps j t l

  -- the steps up to a point since the take
  abbrev up_to : List Step → List Step
  up_to x = between ++ (l.before ++ take_step ∷ x)

  run_up_to : (x : List Step) → run p (up_to x) ≡ run r x
  run_up_to x = run_both p between (l.before ++ take_step ∷ x) ∙ run_both q l.before (take_step ∷ x)

  all_steps : (x y : List Step) → since ≡ x ++ y → between ++ steps ≡ up_to x ++ y
  all_steps x y e =
      ap (λ z. between ++ z) (l.is ∙ ap (λ z. l.before ++ take_step ∷ z) e ∙ sym (append_assoc l.before (take_step ∷ x) y))
      ∙ sym (append_assoc between (l.before ++ take_step ∷ x) y)

  at_end : run q steps ≡ run r since
  at_end = ap (run q) l.is ∙ run_both q l.before (take_step ∷ since)

  ends : (x y : List Step) → since ≡ x ++ y → run r since ≡ run (run r x) y
  ends x y e = ap (run r) e ∙ run_both r x y

  leads : (x y : List Step) → since ≡ x ++ y → (k : Kind) (key : Key)
      → (let h = history (run r since).cluster in Lead key (found key (members k (run r x))) (shifts (all_published k (run r x) y)) (found key (list h (whole k) (present h))))
  leads x y e k key =
      let h = history (run r since).cluster in
      let full = all_steps x y e in
      let led : Lead key (found key (members k (run p (up_to x)))) (shifts (all_published k (run p (up_to x)) y)) (found key (members k (run p (up_to x ++ y)))) =
      changes_lead p (up_to x) y k key (once.nothing k) (subst NoRestart full once.none) (subst (λ z. OnlyTheFirst (all_deltas k p z)) full (once.once k)) in
      let whole_run : run p (up_to x ++ y) ≡ run r since = run_both p (up_to x) y ∙ ap (λ (z : ControlPlane). run z y) (run_up_to x) ∙ sym (ends x y e) in
      let shown : members k (run p (up_to x ++ y)) ≡ list h (whole k) (present h) = ap (members k) whole_run ∙ ((subst IsAtRest at_end rest).followers k).shows in
      subst (λ ms. Lead key (found key (members k (run r x))) (shifts (all_published k (run r x) y)) (found key ms)) shown
      (subst (λ (z : ControlPlane). Lead key (found key (members k z)) (shifts (all_published k z y)) (found key (members k (run p (up_to x ++ y))))) (run_up_to x) led)

  unowed : (x y : List Step) → since ≡ x ++ y → (k : Kind) (n : Notification) → IsAmong n (all_published k (run r x) y) → IsUnowed (run r x) y j k n
  unowed x y e k n i =
      let there : run r x ≡ run u (before ++ up_to x) = sym (run_up_to x) ∙ sym (run_both u before (up_to x)) in
      let at_rest : IsAtRest (run (run r x) y) = subst IsAtRest (at_end ∙ ends x y e) rest in
      let none = (none_split (up_to x) y (subst NoRestart (all_steps x y e) once.none)).1 in
      let h = handled window workers initial (before ++ up_to x) (run r x) y k n there (at_rest.followers k).handled none i in
      let z = h.0 in (
        z,
        λ o.
            let s = (step (run (run r x) z.before) (handle k)).plane in
            let taken : was_taken j s z.after ≡ true = was_taken_then window workers initial (before ++ up_to x) (run r x) y k n j there at_rest z (h.1 j o) in
            let not_y = (none_of (was_taken j r x) (was_taken j (run r x) y) (sym (taken_both j r x y) ∙ subst (λ w. was_taken j r w ≡ false) e l.last)).1 in
            let not_handle = (none_of (was_taken j (run r x) z.before) (was_taken j (run (run r x) z.before) (handle k ∷ z.after)) (sym (taken_both j (run r x) z.before (handle k ∷ z.after)) ∙ subst (λ w. was_taken j (run r x) w ≡ false) z.is not_y)).1 in
            let not_after = (none_of (tells_taken j (step (run (run r x) z.before) (handle k)).outcome) (was_taken j s z.after) not_handle).1 in
            true≢false (sym taken ∙ not_after),
      )

pub settled : LastTurnsAreSettled
settled window workers initial before between steps j t once rest l =
    record { leads = leads window workers initial before between steps j t once rest l; unowed = unowed window workers initial before between steps j t once rest l }
