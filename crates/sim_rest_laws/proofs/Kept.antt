-- A key that is to be processed is queued or in hand; one that is delayed is so until it is due, and then it is to be processed.
use Rattle.std.proofs.Common.{◌≡◌, ◌⊎◌, inl, inr, ◌<◌, ◌+◌, ℕ, zero, suc, List, [], ◌∷◌, length, Bool, true, false, not, ◌||◌, cond, nat_eq, nat_le, leb-true, is_some, Option, Some, None, slice_get, slice_index_or, refl, sym, ap, ◌∙◌, subst, arith}
use mathlib.Core.Bool.{true≢false}
use Rattle.std.specs.Cmp.{eq_by_cmp_equiv}
use Rattle.std.specs.FinMap as map_of
use Rattle.std.specs.FinMap.{get-insert, get-retain_keys, get_tied}
use Rattle.std.specs.FinSet as set
use Rattle.std.specs.List.{list_any}
use Rattle.std.specs.Ordering.{eq_by_cmp}
use Rattle.spec_api.specs.declared.kinds.Kind.{Kind}
use Rattle.spec_api.specs.Keys.{Key}
use Rattle.spec_client_go.specs.Delays.{Delays, delay_after, delayed, due, earlier, failures, has_come}
use Rattle.spec_client_go.specs.Expectations.{Owner}
use Rattle.spec_client_go.specs.WorkQueues.{WorkKey, work_key_cmp, handed}
use Rattle.spec_client_go.specs.Boards as boards
use Rattle.spec_client_go.specs.Boards.{Board, passed}
use Rattle.spec_client_go.proofs.WorkKeyOrder.{work_key_total}
use Rattle.spec_laws.proofs.DueKeys.{have_come}
use Rattle.spec_laws.proofs.WorkQueueRuns.{wanted_is_somewhere}
use Rattle.spec_laws.specs.WorkQueueLaws.{is_queued}
use Rattle.spec_sim.specs.Clusters.{Cluster, request, compact, moves, restart}
use Rattle.spec_sim.specs.Followers.{Notification}
use Rattle.spec_sim.specs.ControlPlanes.{ControlPlane, Step, in_cluster, handle, works, tick, opened, client, handle_in, step_in, step, run}
use Rattle.spec_sim.specs.Managers as action
use Rattle.spec_sim.specs.Managers.{Client, Manager, Acted, Delivery, take_key, carry_out, act_in, act, forgotten_unless, is_for, delivery_of}
use Rattle.spec_sim.specs.NextSteps.{NextStep, next, look, ask_satisfied, read, expect, issue, finish}
use Rattle.spec_sim.specs.Outcomes.{Outcome}
use Rattle.spec_sim.specs.Turns as turns
use Rattle.spec_sim.specs.Turns.{Turn, Expected, all_accepted, owner}
use Rattle.sim_worker_laws.specs.OwedLaws.{IsAmong, unhandled, NoRestart, tells_taken, is_dirty, was_taken}
use Rattle.sim_worker_laws.specs.TurnLaws.{is_in_hands}
use Rattle.sim_worker_laws.proofs.Acting.{by_act}
use Rattle.sim_worker_laws.proofs.Counting.{by_counted, by_tick}
use Rattle.sim_worker_laws.proofs.Dirty.{all-dirty}
use Rattle.sim_worker_laws.proofs.HandRuns.{all_fit}
use Rattle.sim_worker_laws.proofs.Owed.{open_run, first_of_none, dirty_run}
use Rattle.sim_rest_laws.specs.KeptKeyLaws.{DirtyKeysAreQueuedOrInHand, NothingIsDirtyAtRest, is_delayed, EndsByRetry, RetriesAreKept}

-- ---- queued or in hand

pub dirty_somewhere : DirtyKeysAreQueuedOrInHand
dirty_somewhere window workers initial steps j d =
    let p = run (opened window workers initial) steps in
    let fit = all_fit window workers initial steps in
    ap (λ b. is_queued p.manager.board.work j || b) (sym (fit.1 j)) ∙ wanted_is_somewhere _ _ _ (fit.0.1 j) d

none_in_hand : (os : List (Option Turn)) → ((w : ℕ) (t : Turn) → slice_get os w ≡ Some (Some t) → ⊥) → (j : WorkKey) → is_in_hands j os ≡ false
none_in_hand [] none j = refl
none_in_hand (None ∷ os) none j = none_in_hand os (λ w t e. none (suc w) t e) j
none_in_hand (Some t ∷ os) none j = absurd (none 0 t refl)

nowhere : (a b c : Bool) → (a ≡ true → (b || c) ≡ true) → b ≡ false → c ≡ false → a ≡ false
nowhere false b c f b_no c_no = refl
nowhere true b c f b_no c_no = absurd (true≢false (sym (f refl) ∙ ap (λ x. x || c) b_no ∙ c_no))

pub nothing_dirty : NothingIsDirtyAtRest
nothing_dirty window workers initial steps j rest =
    let p = run (opened window workers initial) steps in
    nowhere (is_dirty j p) (is_queued p.manager.board.work j) (is_in_hands j p.manager.turns) (dirty_somewhere window workers initial steps j)
    (ap (λ ks. list_any (eq_by_cmp work_key_cmp j) ks) rest.queue) (none_in_hand p.manager.turns rest.hands j)

-- ---- delayed

is_among : {A : Type 0} (xs : List A) (x : A) (n : ℕ) → n < length xs → slice_index_or xs n x ≡ x → IsAmong x xs
is_among [] x n low e = absurd (omega arith)
is_among (y ∷ xs) x zero low e = inl e
is_among (y ∷ xs) x (suc n) low e = inr (is_among xs x n (omega arith) e)

module _ (j : WorkKey) where
  abbrev Waits : Delays → Type 0
  Waits d = is_some (map_of.get d j) ≡ true

  waits_more : (k : WorkKey) (at : ℕ) (d : Delays) → Waits d → Waits (delayed k at d)
  waits_more k at d is =
      ap is_some (get-insert work_key_total d k (earlier (map_of.get d k) at) j) ∙ by (eq_by_cmp work_key_cmp j k)
    where
      by : (b : Bool) → is_some (cond b (Some (earlier (map_of.get d k) at)) (map_of.get d j)) ≡ true
      by true = refl
      by false = is

  waits_ended : (b : Bool) (t : Turn) (x : Board) → Waits x.delays → Waits (cond b (boards.finished t.work_key x) (boards.requeued t.work_key (turns.taken_back t) x)).delays
  waits_ended true t x is = is
  waits_ended false t x is = waits_more t.work_key (x.time + delay_after (failures t.work_key x.failures)) x.delays is

  waits_unless : (o : Option Owner) (k : Key) (x : Board) → Waits x.delays → Waits (forgotten_unless o k x).delays
  waits_unless None k x is = is
  waits_unless (Some o) k x is = is

  waits_expected : (b : Bool) (e : Expected) (x : Board) → Waits x.delays → Waits (cond b (boards.expecting_deletions e.owner e.deletions x) (boards.expecting_creations e.owner e.creations x)).delays
  waits_expected true e x is = is
  waits_expected false e x is = is

  waits_take : (w : ℕ) (m : Manager) (o : Option WorkKey) → Waits m.board.delays → Waits (take_key w o m).manager.board.delays
  waits_take w m None is = is
  waits_take w m (Some k) is = is

  waits_on : (c : Client) (w : ℕ) (m : Manager) (t : Turn) (d : Delivery) (n : NextStep) → Waits m.board.delays → Waits (carry_out c w t d n m).manager.board.delays
  waits_on c w m t d (look k) is = is
  waits_on c w m t d ask_satisfied is = waits_unless (owner t) t.work_key.key m.board is
  waits_on c w m t d (read k) is = is
  waits_on c w m t d (expect e) is = waits_expected (nat_eq e.creations 0) e m.board is
  waits_on c w m t d (issue x) is = is
  waits_on c w m t d finish is = waits_ended (all_accepted t.issues) t m.board is

  waits_act : (c : Client) (w : ℕ) (a : action.Action) (m : Manager) → Waits m.board.delays → Waits (act c w a m).manager.board.delays
  waits_act c w a m is =
      by_act (λ (x : Acted). Waits x.manager.board.delays) c w a m is (λ here synced. waits_take w m (handed m.board.work) is) (λ t d here. waits_on c w m t d (next t) is)

  -- delayed still, or to be processed
  abbrev Stands : Board → Type 0
  Stands b = Waits b.delays ⊎ (set.contains b.work.dirty j ≡ true)

  stands_passed : (now : ℕ) (b : Board) → b.work.is_shut ≡ false → Waits b.delays → Stands (passed now b)
  stands_passed now b unshut is = by (map_of.get b.delays j) refl
    where
      by_time : (at : ℕ) → map_of.get b.delays j ≡ Some at → (x : Bool) → nat_le at now ≡ x → Stands (passed now b)
      by_time at e true le =
          let there = (have_come now b.delays j).1 (at, e, leb-true at now le) in inr (all-dirty (due now b.delays) b.work j unshut (is_among (due now b.delays) j there.0 there.1 there.2))
      by_time at e false le =
          inl
          (ap is_some
          (get-retain_keys b.delays (λ k. not (has_come now (map_of.get b.delays k))) j (λ x t. ap (λ o. not (has_come now o)) (get_tied work_key_total b.delays j x t))
          ∙ ap (λ o. cond (not (has_come now o)) (map_of.get b.delays j) None) e
          ∙ ap (λ c. cond (not c) (map_of.get b.delays j) None) le)
          ∙ is)

      by : (o : Option ℕ) → map_of.get b.delays j ≡ o → Stands (passed now b)
      by None e = absurd (true≢false (sym is ∙ ap is_some e))
      by (Some at) e = by_time at e (nat_le at now) refl

  abbrev StandsIn : Cluster → Manager → Outcome → Type 0
  StandsIn c m o = Stands m.board

  stands_handle : (k : Kind) (ns : List Notification) (p : ControlPlane) → Waits p.manager.board.delays → Stands (handle_in k ns p).plane.manager.board
  stands_handle k [] p is = inl is
  stands_handle k (n ∷ ns) p is = inl is

  stands_in : (p : ControlPlane) (s : Step) → NoRestart (s ∷ []) → p.manager.board.work.is_shut ≡ false → Waits p.manager.board.delays → Stands (step_in p s).plane.manager.board
  stands_in p (in_cluster (request t)) none unshut is = inl is
  stands_in p (in_cluster (compact r)) none unshut is = inl is
  stands_in p (in_cluster (moves k m)) none unshut is = inl is
  stands_in p (in_cluster restart) none unshut is = absurd none
  stands_in p (handle k) none unshut is = stands_handle k (unhandled k p) p is
  stands_in p (works w a) none unshut is = inl (waits_act (client p.cluster) w a p.manager is)
  stands_in p (tick n) none unshut is = by_tick StandsIn n p (inl is) (stands_passed (p.manager.board.time + n) p.manager.board unshut is)

  stands_step : (p : ControlPlane) (s : Step) → NoRestart (s ∷ []) → p.manager.board.work.is_shut ≡ false → Waits p.manager.board.delays → Stands (step p s).plane.manager.board
  stands_step p s none unshut is = by_counted StandsIn (step_in p s) (stands_in p s none unshut is)

  abbrev IsKeptBy : ControlPlane → List Step → Type 0
  IsKeptBy p ss = (is_delayed j (run p ss) || (is_dirty j (run p ss) || was_taken j p ss)) ≡ true

  second : (a b : Bool) → b ≡ true → (a || b) ≡ true
  second true b e = refl
  second false b e = e

  -- a step that takes it, and steps after it
  more : (a b c d : Bool) → (a || (b || c)) ≡ true → (a || (b || (d || c))) ≡ true
  more true b c d e = refl
  more false true c d e = refl
  more false false c true e = refl
  more false false c false e = e

  pub kept_run : (p : ControlPlane) (ss : List Step) → NoRestart ss → p.manager.board.work.is_shut ≡ false → Waits p.manager.board.delays → IsKeptBy p ss
  kept_run p [] none unshut is = ap (λ b. b || (is_dirty j p || false)) is
  kept_run p (s ∷ ss) none unshut is =
      let two = first_of_none s ss none in
      let q = (step p s).plane in
      by (λ d. kept_run q ss two.1 (open_run p (s ∷ []) unshut) d) (λ d. second (is_delayed j (run q ss)) (is_dirty j (run q ss) || was_taken j q ss) (dirty_run j q ss two.1 d)) (stands_step p s two.0 unshut is)
    where
      by : (Waits (step p s).plane.manager.board.delays → IsKeptBy (step p s).plane ss) → (is_dirty j (step p s).plane ≡ true → IsKeptBy (step p s).plane ss) → Stands (step p s).plane.manager.board
          → IsKeptBy p (s ∷ ss)
      by f g (inl d) = more (is_delayed j (run p (s ∷ ss))) (is_dirty j (run p (s ∷ ss))) (was_taken j (step p s).plane ss) (tells_taken j (step p s).outcome) (f d)
      by f g (inr d) = more (is_delayed j (run p (s ∷ ss))) (is_dirty j (run p (s ∷ ss))) (was_taken j (step p s).plane ss) (tells_taken j (step p s).outcome) (g d)

-- ---- the end of a turn

same_key : (k : WorkKey) → eq_by_cmp work_key_cmp k k ≡ true
same_key k = (eq_by_cmp_equiv work_key_total).refl k

pub ends_act : (c : Client) (w : ℕ) (t : Turn) (m : Manager) → slice_get m.turns w ≡ Some (Some t) → next t ≡ finish → act c w action.finish m ≡ carry_out c w t action.delivered finish m
ends_act c w t m here is =
    ap (λ o. act_in c w action.finish o m) here
    ∙ ap (λ x. cond (is_for action.finish x) (carry_out c w t (delivery_of action.finish) x m) (action.closed m)) is

waits_after : (b : Bool) (t : Turn) (x : Board) → b ≡ false → Waits t.work_key (cond b (boards.finished t.work_key x) (boards.requeued t.work_key (turns.taken_back t) x)).delays
waits_after true t x e = cc
waits_after false t x e =
    let k = t.work_key in
    let at = earlier (map_of.get x.delays k) (x.time + delay_after (failures k x.failures)) in
    ap is_some (get-insert work_key_total x.delays k at k ∙ ap (λ y. cond y (Some at) (map_of.get x.delays k)) (same_key k))

pub retry_waits : (p : ControlPlane) (w : ℕ) (t : Turn) → EndsByRetry w t p → Waits t.work_key (step p (works w action.finish)).plane.manager.board.delays
retry_waits p w t (here, is, bad) =
    by_counted (λ c m o. Waits t.work_key m.board.delays) (step_in p (works w action.finish))
    (subst (λ (a : Acted). Waits t.work_key a.manager.board.delays) (sym (ends_act (client p.cluster) w t p.manager here is)) (waits_after (all_accepted t.issues) t p.manager.board bad))

pub retry_kept : (p : ControlPlane) (after : List Step) (w : ℕ) (t : Turn) → p.manager.board.work.is_shut ≡ false → EndsByRetry w t p → NoRestart after
    → IsKeptBy t.work_key (step p (works w action.finish)).plane after
retry_kept p after w t unshut ends none =
    kept_run t.work_key (step p (works w action.finish)).plane after none (open_run p (works w action.finish ∷ []) unshut) (retry_waits p w t ends)

pub retries_kept : RetriesAreKept
retries_kept window workers initial before after w t ends none =
    retry_kept (run (opened window workers initial) before) after w t (open_run (opened window workers initial) before refl) ends none
