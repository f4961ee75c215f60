-- What each step leaves as it was: nothing shuts the board down, and each key stands in one of four ways.
use Rattle.std.proofs.Common.{◌≡◌, ℕ, ◌+◌, List, [], ◌∷◌, ◌++◌, map as list_map, refl, ap, ◌∙◌, Bool, true, false, ◌||◌, if◌then◌else◌}
use Rattle.std.specs.FinSet as set
use Rattle.baton.specs.Marks.{entries}
use Rattle.spec_client_go.specs.Boards.{Board, begun, all_added, may_tick, passed}
use Rattle.spec_client_go.specs.Delays.{due}
use Rattle.spec_client_go.specs.WorkQueues as queues
use Rattle.spec_client_go.specs.WorkQueues.{WorkKey, WorkQueue, added, got, got_from}
use Rattle.spec_laws.proofs.WorkQueueRuns.{IsSound, after-sound, runs_are_sound, idle-sound}
use Rattle.control_desk.specs.Hands.{board}
use Rattle.control_desk.specs.Steps.{Step, take, finish, requeue, observe, add, expect_creations, expect_deletions, forget, tick, after, after_steps}

-- ---- nothing shuts the board down

added_shut : (k : WorkKey) (w : WorkQueue) → (added k w).is_shut ≡ w.is_shut
added_shut k w = by (w.is_shut || set.contains w.dirty k)
  where
    by : (b : Bool) → (if b then w else record w { queue = if set.contains w.processing k then w.queue else w.queue ++ k ∷ []; dirty = set.insert w.dirty k }).is_shut ≡ w.is_shut
    by true = refl
    by false = refl

all_added_shut : (ks : List WorkKey) (w : WorkQueue) → (all_added ks w).is_shut ≡ w.is_shut
all_added_shut [] w = refl
all_added_shut (k ∷ ks) w = all_added_shut ks (added k w) ∙ added_shut k w

got_shut : (w : WorkQueue) → (got w).is_shut ≡ w.is_shut
got_shut w = by w.queue
  where
    by : (ks : List WorkKey) → (got_from ks w).is_shut ≡ w.is_shut
    by [] = refl
    by (k ∷ ks) = refl

done_shut : (k : WorkKey) (w : WorkQueue) → (queues.done k w).is_shut ≡ w.is_shut
done_shut k w = by (set.contains w.processing k)
  where
    by : (b : Bool) → (if b then record w { queue = if set.contains w.dirty k then w.queue ++ k ∷ [] else w.queue; processing = set.remove w.processing k } else w).is_shut ≡ w.is_shut
    by true = refl
    by false = refl

step_shut : (b : Board) (e : Step) → (after b e).work.is_shut ≡ b.work.is_shut
step_shut b (take k) = got_shut b.work
step_shut b (finish k) = done_shut k b.work
step_shut b (requeue k ss least) = done_shut k b.work
step_shut b (observe k r ss ks) = all_added_shut ks b.work
step_shut b (add ks) = all_added_shut ks b.work
step_shut b (expect_creations o n) = refl
step_shut b (expect_deletions o pods) = refl
step_shut b (forget k) = refl
step_shut b (tick n) = by (may_tick n b)
  where
    by : (m : Bool) → (if m then passed (b.time + n) b else b).work.is_shut ≡ b.work.is_shut
    by true = all_added_shut (due (b.time + n) b.delays) b.work
    by false = refl

steps_shut : (b : Board) (es : List Step) → (after_steps b es).work.is_shut ≡ b.work.is_shut
steps_shut b [] = refl
steps_shut b (e ∷ es) = steps_shut (after b e) es ∙ step_shut b e

pub stays_open : (h : List (ℕ × Step)) → (board h).work.is_shut ≡ false
stays_open h = steps_shut begun (entries h)

-- ---- each key stands in one of four ways

all_added_sound : (ks : List WorkKey) (w : WorkQueue) → IsSound w → IsSound (all_added ks w)
all_added_sound ks w s = runs_are_sound w (list_map queues.add ks) s

step_sound : (b : Board) (e : Step) → IsSound b.work → IsSound (after b e).work
step_sound b (take k) s = after-sound b.work queues.get s
step_sound b (finish k) s = after-sound b.work (queues.finish k) s
step_sound b (requeue k ss least) s = after-sound b.work (queues.finish k) s
step_sound b (observe k r ss ks) s = all_added_sound ks b.work s
step_sound b (add ks) s = all_added_sound ks b.work s
step_sound b (expect_creations o n) s = s
step_sound b (expect_deletions o pods) s = s
step_sound b (forget k) s = s
step_sound b (tick n) s = by (may_tick n b)
  where
    by : (m : Bool) → IsSound (if m then passed (b.time + n) b else b).work
    by true = all_added_sound (due (b.time + n) b.delays) b.work s
    by false = s

steps_sound : (b : Board) (es : List Step) → IsSound b.work → IsSound (after_steps b es).work
steps_sound b [] s = s
steps_sound b (e ∷ es) s = steps_sound (after b e) es (step_sound b e s)

pub stays_sound : (h : List (ℕ × Step)) → IsSound (board h).work
stays_sound h = steps_sound begun (entries h) idle-sound

-- ---- a step more

after_more : (b : Board) (es : List Step) (e : Step) → after_steps b (es ++ e ∷ []) ≡ after (after_steps b es) e
after_more b [] e = refl
after_more b (x ∷ es) e = after_more (after b x) es e

entries_more : (h : List (ℕ × Step)) (name : ℕ) (e : Step) → entries (h ++ (name, e) ∷ []) ≡ entries h ++ e ∷ []
entries_more [] name e = refl
entries_more (x ∷ h) name e = ap (λ l. x.1 ∷ l) (entries_more h name e)

pub board_more : (h : List (ℕ × Step)) (name : ℕ) (e : Step) → board (h ++ (name, e) ∷ []) ≡ after (board h) e
board_more h name e = ap (after_steps begun) (entries_more h name e) ∙ after_more begun (entries h) e
