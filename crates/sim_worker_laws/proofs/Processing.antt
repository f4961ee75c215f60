-- The keys that are being processed are those in workers' hands, and no key is in two, whatever action is taken.
use Rattle.std.proofs.Common.{◌≡◌, ℕ, zero, suc, List, [], ◌∷◌, ◌++◌, Bool, true, false, not, ◌&&◌, ◌||◌, cond, Option, Some, None, map, replicate, slice_get, slice_set, nat_eq, refl, sym, ap, ◌∙◌}
use Rattle.std.specs.FinSet as set
use Rattle.std.specs.FinSet.{contains-insert, contains-remove, contains-empty}
use Rattle.spec_client_go.specs.Expectations.{Owner}
use Rattle.spec_client_go.specs.WorkQueues.{WorkKey, work_key_cmp, WorkQueue, added, got_from, done, handed, front, add, get, finish as finished_call}
use Rattle.spec_client_go.proofs.WorkKeyOrder.{work_key_total}
use Rattle.spec_laws.proofs.WorkQueueRuns.{IsSound, after-sound, idle-sound, queued_is_free, front_is_queued}
use Rattle.spec_client_go.specs.Boards as boards
use Rattle.spec_client_go.specs.Boards.{Board, all_added}
use Rattle.spec_sim.specs.Managers.{Client, Manager, Action, Delivery, take_key, carry_out, act, forgotten_unless, is_satisfied_for}
use Rattle.spec_sim.specs.NextSteps.{NextStep, next, look, ask_satisfied, read, expect, issue, finish}
use Rattle.spec_sim.specs.Turns as turns
use Rattle.spec_sim.specs.Turns.{Turn, Expected, all_accepted, owner, with_sight, with_expected}
use Rattle.sim_worker_laws.specs.TurnLaws.{is_in_hands}
use Rattle.sim_worker_laws.proofs.Acting.{by_act}
use Rattle.sim_worker_laws.proofs.InHands.{same, Apart, hands_with, apart_with, hands_without, apart_without, hands_on, apart_on, is_there}

-- a queue and the turns of its workers
abbrev pub Fits : WorkQueue → List (Option Turn) → Type 0
Fits q ts = IsSound q × ((k : WorkKey) → set.contains q.processing k ≡ is_in_hands k ts) × Apart ts

-- ---- keys that are added

processing-added : (k : WorkKey) (q : WorkQueue) (j : WorkKey) → set.contains (added k q).processing j ≡ set.contains q.processing j
processing-added k q j = by (q.is_shut || set.contains q.dirty k)
  where
    by : (b : Bool)
        → set.contains (cond b q (record q { queue = cond (set.contains q.processing k) q.queue (q.queue ++ k ∷ []); dirty = set.insert q.dirty k })).processing j
        ≡ set.contains q.processing j
    by true = refl
    by false = refl

pub fits-added : (ks : List WorkKey) (q : WorkQueue) (ts : List (Option Turn)) → Fits q ts → Fits (all_added ks q) ts
fits-added [] q ts f = f
fits-added (k ∷ ks) q ts f = fits-added ks (added k q) ts (after-sound q (add k) f.0, (λ j. processing-added k q j ∙ f.1 j), f.2)

-- ---- a key that is taken

processing-got : (queue : List WorkKey) (q : WorkQueue) (k j : WorkKey) → front queue ≡ Some k → set.contains (got_from queue q).processing j ≡ (same j k || set.contains q.processing j)
processing-got [] q k j e = cc
processing-got (i ∷ ks) q k j e = let is : i ≡ k = cc in contains-insert work_key_total q.processing i j ∙ ap (λ x. same j x || set.contains q.processing j) is

pub fits-take : (w : ℕ) (m : Manager) (o : Option WorkKey) → handed m.board.work ≡ o → slice_get m.turns w ≡ Some None → Fits m.board.work m.turns
    → Fits (take_key w o m).manager.board.work (take_key w o m).manager.turns
fits-take w m None e here f = f
fits-take w m (Some k) e here f =
    let q = m.board.work in
    let new : is_in_hands k m.turns ≡ false = sym (f.1 k) ∙ queued_is_free _ _ _ (f.0.1 k) (front_is_queued q.queue k e) in (
      after-sound q get f.0,
      (λ j. processing-got q.queue q k j e ∙ ap (λ b. same j k || b) (f.1 j) ∙ sym (hands_with w (turns.begun k) m.turns j here)),
      apart_with w (turns.begun k) m.turns here new f.2,
    )

-- ---- a key that is given back

processing-done : (k : WorkKey) (q : WorkQueue) (j : WorkKey) → set.contains q.processing k ≡ true → set.contains (done k q).processing j ≡ (not (same j k) && set.contains q.processing j)
processing-done k q j e =
    ap (λ b. set.contains (cond b (record q { queue = cond (set.contains q.dirty k) (q.queue ++ k ∷ []) q.queue; processing = set.remove q.processing k }) q).processing j) e
    ∙ contains-remove work_key_total q.processing k j

pub fits-done : (w : ℕ) (t : Turn) (q : WorkQueue) (ts : List (Option Turn)) → slice_get ts w ≡ Some (Some t) → Fits q ts → Fits (done t.work_key q) (slice_set ts w None)
fits-done w t q ts here f =
    let k = t.work_key in (
      after-sound q (finished_call k) f.0,
      (λ j. processing-done k q j (f.1 k ∙ is_there w t ts here) ∙ ap (λ b. not (same j k) && b) (f.1 j) ∙ sym (hands_without w t ts j here f.2)),
      apart_without w ts f.2,
    )

-- ---- a turn that goes on

pub fits-on : (w : ℕ) (t later : Turn) (q : WorkQueue) (ts : List (Option Turn)) → slice_get ts w ≡ Some (Some t) → later.work_key ≡ t.work_key → Fits q ts
    → Fits q (slice_set ts w (Some later))
fits-on w t later q ts here k f = (f.0, (λ j. f.1 j ∙ sym (hands_on w t later ts j here k)), apart_on w t later ts here k f.2)

-- ---- an action

module _ (c : Client) (w : ℕ) (m : Manager) (t : Turn) (d : Delivery) (here : slice_get m.turns w ≡ Some (Some t)) (fit : Fits m.board.work m.turns) where
  ends : (b : Bool) → Fits (cond b (boards.finished t.work_key m.board) (boards.requeued t.work_key (turns.taken_back t) m.board)).work (slice_set m.turns w None)
  ends true = fits-done w t m.board.work m.turns here fit
  ends false = fits-done w t m.board.work m.turns here fit

  asks_whether : (o : Option Owner) → Fits (forgotten_unless o t.work_key.key m.board).work (slice_set m.turns w (Some (with_sight (turns.satisfied (is_satisfied_for o m.board)) t)))
  asks_whether None = fits-on w t _ m.board.work m.turns here refl fit
  asks_whether (Some o) = fits-on w t _ m.board.work m.turns here refl fit

  expects : (b : Bool) (e : Expected) → Fits (cond b (boards.expecting_deletions e.owner e.deletions m.board) (boards.expecting_creations e.owner e.creations m.board)).work (slice_set m.turns w (Some (with_expected t)))
  expects true e = fits-on w t _ m.board.work m.turns here refl fit
  expects false e = fits-on w t _ m.board.work m.turns here refl fit

  goes_on : (n : NextStep) → Fits (carry_out c w t d n m).manager.board.work (carry_out c w t d n m).manager.turns
  goes_on (look k) = fits-on w t _ m.board.work m.turns here refl fit
  goes_on ask_satisfied = asks_whether (owner t)
  goes_on (read k) = fits-on w t _ m.board.work m.turns here refl fit
  goes_on (expect e) = expects (nat_eq e.creations 0) e
  goes_on (issue x) = fits-on w t _ m.board.work m.turns here refl fit
  goes_on finish = ends (all_accepted t.issues)

pub fits-act : (c : Client) (w : ℕ) (a : Action) (m : Manager) → Fits m.board.work m.turns → Fits (act c w a m).manager.board.work (act c w a m).manager.turns
fits-act c w a m fit =
    by_act (λ x. Fits x.manager.board.work x.manager.turns) c w a m fit (λ here synced. fits-take w m (handed m.board.work) refl here fit)
    (λ t d here. goes_on c w m t d here fit (next t))

-- ---- at the beginning

none-begun : (n : ℕ) (k : WorkKey) → is_in_hands k (replicate n None) ≡ false
none-begun zero k = refl
none-begun (suc n) k = none-begun n k

apart-begun : (n : ℕ) → Apart (replicate n None)
apart-begun zero = tt
apart-begun (suc n) = (tt, apart-begun n)

pub fits-begun : (n : ℕ) → Fits boards.begun.work (replicate n None)
fits-begun n = (idle-sound, (λ k. contains-empty work_key_cmp k ∙ sym (none-begun n k)), apart-begun n)

none-restarted : (ts : List (Option Turn)) (k : WorkKey) → is_in_hands k (map (λ t. None) ts) ≡ false
none-restarted [] k = refl
none-restarted (o ∷ ts) k = none-restarted ts k

apart-restarted : (ts : List (Option Turn)) → Apart (map (λ t. None) ts)
apart-restarted [] = tt
apart-restarted (o ∷ ts) = (tt, apart-restarted ts)

pub fits-restarted : (ts : List (Option Turn)) → Fits boards.begun.work (map (λ t. None) ts)
fits-restarted ts = (idle-sound, (λ k. contains-empty work_key_cmp k ∙ sym (none-restarted ts k)), apart-restarted ts)
