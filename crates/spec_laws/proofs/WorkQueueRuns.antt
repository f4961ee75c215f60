-- What each call on a work queue keeps, as a queue of work keys keeps it.
use Rattle.std.proofs.Common.{◌≡◌, refl, sym, ap, subst, ◌∙◌, List, [], ◌∷◌, true, false, ◌||◌, map, Some}
use Rattle.std.specs.List.{list_any}
use Rattle.std.specs.Ordering.{eq_by_cmp}
use Rattle.std.specs.FinSet as set
use Rattle.spec_client_go.specs.KeyQueues as keys
use Rattle.spec_client_go.specs.WorkQueues.{WorkKey, work_key_cmp, WorkQueue, idle, added, Call, add, get, finish, shut_down, after, after_all, front}
use Rattle.spec_client_go.proofs.KeyQueueRuns as runs
pub use Rattle.spec_client_go.proofs.KeyQueueRuns.{queued_is_free, queued_is_wanted, wanted_is_somewhere}
use Rattle.spec_client_go.proofs.WorkKeyOrder.{work_key_total}
use Rattle.spec_client_go.proofs.WorkQueues.{key_queue, key_call, key_added, key_after, key_after_all, front_is}
use Rattle.spec_laws.specs.WorkQueueLaws.{is_key, hands_out, was_handed}

abbrev pub IsSound : WorkQueue → Type 0
IsSound w = runs.IsSound work_key_cmp work_key_total (key_queue w)

pub after-sound : (w : WorkQueue) (c : Call) → IsSound w → IsSound (after w c)
after-sound w c h = subst (runs.IsSound work_key_cmp work_key_total) (sym (key_after w c)) (runs.after-sound work_key_cmp work_key_total (key_queue w) (key_call c) h)

pub runs_are_sound : (w : WorkQueue) (cs : List Call) → IsSound w → IsSound (after_all w cs)
runs_are_sound w cs h = subst (runs.IsSound work_key_cmp work_key_total) (sym (key_after_all w cs)) (runs.runs_are_sound work_key_cmp work_key_total (key_queue w) (map key_call cs) h)

pub idle-sound : IsSound idle
idle-sound = runs.idle-sound work_key_cmp work_key_total

pub sound : (cs : List Call) → IsSound (after_all idle cs)
sound cs = runs_are_sound idle cs idle-sound

pub front_is_queued : (ks : List WorkKey) (k : WorkKey) → front ks ≡ Some k → list_any (eq_by_cmp work_key_cmp k) ks ≡ true
front_is_queued ks k e = runs.front_is_queued work_key_cmp work_key_total ks k (front_is ks ∙ e)

-- a call hands out the same key
hands_out_is : (k : WorkKey) (w : WorkQueue) (c : Call) → hands_out k w c ≡ keys.hands_out k (key_queue w) (key_call c)
hands_out_is k w (add j) = refl
hands_out_is k w get = by w.queue
  where
    by : (ks : List WorkKey) → is_key k (front ks) ≡ keys.is_key work_key_cmp k (keys.front ks)
    by [] = refl
    by (j ∷ ks) = refl
hands_out_is k w (finish j) = refl
hands_out_is k w shut_down = refl

was_handed_is : (k : WorkKey) (w : WorkQueue) (cs : List Call) → was_handed k w cs ≡ keys.was_handed k (key_queue w) (map key_call cs)
was_handed_is k w [] = refl
was_handed_is k w (c ∷ cs) = λ i. hands_out_is k w c i || (was_handed_is k (after w c) cs ∙ ap (λ q. keys.was_handed k q (map key_call cs)) (key_after w c)) i

pub wanted_is_served : (k : WorkKey) (w : WorkQueue) (cs : List Call) → set.contains w.dirty k ≡ true → (set.contains (after_all w cs).dirty k || was_handed k w cs) ≡ true
wanted_is_served k w cs d = (λ i. set.contains ((key_after_all w cs i).dirty) k || was_handed_is k w cs i) ∙ runs.wanted_is_served work_key_cmp work_key_total k (key_queue w) (map key_call cs) d

pub added-wanted : (k : WorkKey) (w : WorkQueue) → w.is_shut ≡ false → set.contains (added k w).dirty k ≡ true
added-wanted k w e = ap (λ (q : keys.KeyQueue work_key_cmp). set.contains q.dirty k) (key_added k w) ∙ runs.added-wanted work_key_cmp work_key_total k (key_queue w) e

pub shut-wanted : (k : WorkKey) (w : WorkQueue) (cs : List Call) → w.is_shut ≡ true → set.contains (after_all w cs).dirty k ≡ true → set.contains w.dirty k ≡ true
shut-wanted k w cs e d =
    runs.shut-wanted work_key_cmp work_key_total k (key_queue w) (map key_call cs) e (ap (λ (q : keys.KeyQueue work_key_cmp). set.contains q.dirty k) (sym (key_after_all w cs)) ∙ d)
