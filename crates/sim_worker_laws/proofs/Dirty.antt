-- A key that is dirty stays so until a worker takes it.
use Rattle.std.proofs.Common.{◌≡◌, inl, inr, ℕ, List, [], ◌∷◌, ◌++◌, Bool, true, false, not, ◌&&◌, ◌||◌, cond, Option, Some, None, nat_eq, refl, sym, ap, ◌∙◌}
use Rattle.std.specs.FinSet as set
use Rattle.std.specs.FinSet.{contains-insert, contains-remove}
use Rattle.spec_client_go.specs.Expectations.{Owner}
use Rattle.spec_client_go.specs.WorkQueues.{WorkKey, WorkQueue, added, got_from, done, handed, front}
use Rattle.spec_client_go.proofs.WorkKeyOrder.{work_key_total}
use Rattle.spec_laws.proofs.WorkQueueRuns.{added-wanted}
use Rattle.spec_client_go.specs.Boards as boards
use Rattle.spec_client_go.specs.Boards.{Board, all_added}
use Rattle.spec_sim.specs.Managers.{Client, Manager, Action, Acted, Delivery, take_key, carry_out, act, forgotten_unless}
use Rattle.spec_sim.specs.NextSteps.{NextStep, next, look, ask_satisfied, read, expect, issue, finish}
use Rattle.spec_sim.specs.Turns as turns
use Rattle.spec_sim.specs.Turns.{Turn, Expected, all_accepted, owner}
use Rattle.sim_worker_laws.specs.OwedLaws.{IsAmong, tells_taken}
use Rattle.sim_worker_laws.proofs.Acting.{by_act}
use Rattle.sim_worker_laws.proofs.InHands.{same}

pub or_false : (b : Bool) → b ≡ true → (b || false) ≡ true
or_false b e = ap (λ x. x || false) e

pub or_right : (a b : Bool) → b ≡ true → (a || b) ≡ true
or_right true b e = refl
or_right false b e = e

-- ---- the queue

dirty-added : (k : WorkKey) (q : WorkQueue) (j : WorkKey) → set.contains q.dirty j ≡ true → set.contains (added k q).dirty j ≡ true
dirty-added k q j d = by (q.is_shut || set.contains q.dirty k)
  where
    by : (b : Bool) → set.contains (cond b q (record q { queue = cond (set.contains q.processing k) q.queue (q.queue ++ k ∷ []); dirty = set.insert q.dirty k })).dirty j ≡ true
    by true = d
    by false = contains-insert work_key_total q.dirty k j ∙ or_right (same j k) _ d

pub dirty-all : (ks : List WorkKey) (q : WorkQueue) (j : WorkKey) → set.contains q.dirty j ≡ true → set.contains (all_added ks q).dirty j ≡ true
dirty-all [] q j d = d
dirty-all (k ∷ ks) q j d = dirty-all ks (added k q) j (dirty-added k q j d)

shut-added : (k : WorkKey) (q : WorkQueue) → (added k q).is_shut ≡ q.is_shut
shut-added k q = by (q.is_shut || set.contains q.dirty k)
  where
    by : (b : Bool) → (cond b q (record q { queue = cond (set.contains q.processing k) q.queue (q.queue ++ k ∷ []); dirty = set.insert q.dirty k })).is_shut ≡ q.is_shut
    by true = refl
    by false = refl

pub shut-all : (ks : List WorkKey) (q : WorkQueue) → (all_added ks q).is_shut ≡ q.is_shut
shut-all [] q = refl
shut-all (k ∷ ks) q = shut-all ks (added k q) ∙ shut-added k q

-- a key that is added is dirty
pub all-dirty : (ks : List WorkKey) (q : WorkQueue) (j : WorkKey) → q.is_shut ≡ false → IsAmong j ks → set.contains (all_added ks q).dirty j ≡ true
all-dirty [] q j o i = absurd i
all-dirty (k ∷ ks) q j o (inl e) = dirty-all ks (added k q) j (ap (λ x. set.contains (added k q).dirty x) (sym e) ∙ added-wanted k q o)
all-dirty (k ∷ ks) q j o (inr i) = all-dirty ks (added k q) j (shut-added k q ∙ o) i

dirty-got : (queue : List WorkKey) (q : WorkQueue) (k j : WorkKey) → front queue ≡ Some k → set.contains q.dirty j ≡ true → (set.contains (got_from queue q).dirty j || same j k) ≡ true
dirty-got [] q k j e d = cc
dirty-got (i ∷ ks) q k j e d =
    let is : i ≡ k = cc in ap (λ b. b || same j k) (contains-remove work_key_total q.dirty i j) ∙ ap (λ x. (not (same j x) && set.contains q.dirty j) || same j k) is ∙ one_or_other (same j k) _ d
  where
    one_or_other : (a b : Bool) → b ≡ true → ((not a && b) || a) ≡ true
    one_or_other true b e = refl
    one_or_other false b e = ap (λ b. b || false) e

shut-got : (queue : List WorkKey) (q : WorkQueue) → (got_from queue q).is_shut ≡ q.is_shut
shut-got [] q = refl
shut-got (k ∷ ks) q = refl

done-keeps : (k : WorkKey) (q : WorkQueue) → ((done k q).dirty ≡ q.dirty) × ((done k q).is_shut ≡ q.is_shut)
done-keeps k q = by (set.contains q.processing k)
  where
    by : (b : Bool)
        → ((cond b (record q { queue = cond (set.contains q.dirty k) (q.queue ++ k ∷ []) q.queue; processing = set.remove q.processing k }) q).dirty ≡ q.dirty)
        × ((cond b (record q { queue = cond (set.contains q.dirty k) (q.queue ++ k ∷ []) q.queue; processing = set.remove q.processing k }) q).is_shut ≡ q.is_shut)
    by true = (refl, refl)
    by false = (refl, refl)

-- ---- the board after an action

ended-work : (b : Bool) (t : Turn) (x : Board) → (cond b (boards.finished t.work_key x) (boards.requeued t.work_key (turns.taken_back t) x)).work ≡ done t.work_key x.work
ended-work true t x = refl
ended-work false t x = refl

unless-work : (o : Option Owner) (t : Turn) (x : Board) → (forgotten_unless o t.work_key.key x).work ≡ x.work
unless-work None t x = refl
unless-work (Some o) t x = refl

expected-work : (b : Bool) (e : Expected) (x : Board) → (cond b (boards.expecting_deletions e.owner e.deletions x) (boards.expecting_creations e.owner e.creations x)).work ≡ x.work
expected-work true e x = refl
expected-work false e x = refl

module _ (j : WorkKey) where
  abbrev IsKeptBy : Acted → Type 0
  IsKeptBy x = (set.contains x.manager.board.work.dirty j || tells_taken j x.outcome) ≡ true

  same-work : (q r : WorkQueue) → r ≡ q → set.contains q.dirty j ≡ true → (set.contains r.dirty j || false) ≡ true
  same-work q r is d = or_false _ (ap (λ (x : WorkQueue). set.contains x.dirty j) is ∙ d)

  take-dirty : (w : ℕ) (m : Manager) (o : Option WorkKey) → handed m.board.work ≡ o → set.contains m.board.work.dirty j ≡ true → IsKeptBy (take_key w o m)
  take-dirty w m None e d = or_false _ d
  take-dirty w m (Some k) e d = dirty-got m.board.work.queue m.board.work k j e d

  go-dirty : (c : Client) (w : ℕ) (m : Manager) (t : Turn) (d : Delivery) (n : NextStep) → set.contains m.board.work.dirty j ≡ true → IsKeptBy (carry_out c w t d n m)
  go-dirty c w m t d (look k) is = or_false _ is
  go-dirty c w m t d ask_satisfied is = same-work m.board.work _ (unless-work (owner t) t m.board) is
  go-dirty c w m t d (read k) is = or_false _ is
  go-dirty c w m t d (expect e) is = same-work m.board.work _ (expected-work (nat_eq e.creations 0) e m.board) is
  go-dirty c w m t d (issue x) is = or_false _ is
  go-dirty c w m t d finish is =
      or_false _
      (ap (λ (x : WorkQueue). set.contains x.dirty j) (ended-work (all_accepted t.issues) t m.board) ∙ ap (λ ds. set.contains ds j) (done-keeps t.work_key m.board.work).0 ∙ is)

  pub act-dirty : (c : Client) (w : ℕ) (a : Action) (m : Manager) → set.contains m.board.work.dirty j ≡ true → IsKeptBy (act c w a m)
  act-dirty c w a m is =
      by_act IsKeptBy c w a m (or_false _ is) (λ here synced. take-dirty w m (handed m.board.work) refl is) (λ t d here. go-dirty c w m t d (next t) is)

-- ---- nobody shuts the queue

take-open : (w : ℕ) (m : Manager) (o : Option WorkKey) → (take_key w o m).manager.board.work.is_shut ≡ m.board.work.is_shut
take-open w m None = refl
take-open w m (Some k) = shut-got m.board.work.queue m.board.work

go-open : (c : Client) (w : ℕ) (m : Manager) (t : Turn) (d : Delivery) (n : NextStep) → (carry_out c w t d n m).manager.board.work.is_shut ≡ m.board.work.is_shut
go-open c w m t d (look k) = refl
go-open c w m t d ask_satisfied = ap (λ (x : WorkQueue). x.is_shut) (unless-work (owner t) t m.board)
go-open c w m t d (read k) = refl
go-open c w m t d (expect e) = ap (λ (x : WorkQueue). x.is_shut) (expected-work (nat_eq e.creations 0) e m.board)
go-open c w m t d (issue x) = refl
go-open c w m t d finish = ap (λ (x : WorkQueue). x.is_shut) (ended-work (all_accepted t.issues) t m.board) ∙ (done-keeps t.work_key m.board.work).1

pub act-open : (c : Client) (w : ℕ) (a : Action) (m : Manager) → (act c w a m).manager.board.work.is_shut ≡ m.board.work.is_shut
act-open c w a m =
    by_act (λ (x : Acted). x.manager.board.work.is_shut ≡ m.board.work.is_shut) c w a m refl (λ here synced. take-open w m (handed m.board.work)) (λ t d here. go-open c w m t d (next t))
