-- Work queues as queues of work keys: each call does the same to both.
use Rattle.std.proofs.Common.{◌≡◌, refl, sym, ap, ◌∙◌, List, [], ◌∷◌, ◌++◌, ◌||◌, Bool, true, false, if◌then◌else◌, map}
use Rattle.std.specs.FinSet as set
use Rattle.spec_client_go.specs.WorkQueues as works
use Rattle.spec_client_go.specs.WorkQueues.{WorkKey, work_key_cmp, WorkQueue}
use Rattle.spec_client_go.specs.KeyQueues.{KeyQueue, added, front, got, got_from, done, Call, add, get, finish, shut_down, after, after_all, work_queue}

pub added_is : (k : WorkKey) (w : KeyQueue work_key_cmp) → work_queue (added k w) ≡ works.added k (work_queue w)
added_is k w = by (w.is_shut || set.contains w.dirty k)
  where
    by : (b : Bool) → work_queue (if b then w else record w { queue = if set.contains w.processing k then w.queue else w.queue ++ k ∷ []; dirty = set.insert w.dirty k })
        ≡ (if b then work_queue w else record (work_queue w) { queue = if set.contains w.processing k then w.queue else w.queue ++ k ∷ []; dirty = set.insert w.dirty k })
    by true = refl
    by false = refl

pub got_is : (w : KeyQueue work_key_cmp) → work_queue (got w) ≡ works.got (work_queue w)
got_is w = by w.queue
  where
    by : (ks : List WorkKey) → work_queue (got_from ks w) ≡ works.got_from ks (work_queue w)
    by [] = refl
    by (k ∷ ks) = refl

pub done_is : (k : WorkKey) (w : KeyQueue work_key_cmp) → work_queue (done k w) ≡ works.done k (work_queue w)
done_is k w = by (set.contains w.processing k)
  where
    by : (b : Bool) → work_queue (if b then record w { queue = if set.contains w.dirty k then w.queue ++ k ∷ [] else w.queue; processing = set.remove w.processing k } else w)
        ≡ (if b then record (work_queue w) { queue = if set.contains w.dirty k then w.queue ++ k ∷ [] else w.queue; processing = set.remove w.processing k } else work_queue w)
    by true = refl
    by false = refl

pub front_is : (ks : List WorkKey) → front ks ≡ works.front ks
front_is [] = refl
front_is (k ∷ ks) = refl

-- the queue of work keys that a work queue is
abbrev pub key_queue : WorkQueue → KeyQueue work_key_cmp
key_queue w = record { queue = w.queue; dirty = w.dirty; processing = w.processing; is_shut = w.is_shut }

abbrev pub key_call : works.Call → Call WorkKey
key_call (works.add k) = add k
key_call works.get = get
key_call (works.finish k) = finish k
key_call works.shut_down = shut_down

pub key_added : (k : WorkKey) (w : WorkQueue) → key_queue (works.added k w) ≡ added k (key_queue w)
key_added k w = ap key_queue (sym (added_is k (key_queue w)))

pub key_after : (w : WorkQueue) (c : works.Call) → key_queue (works.after w c) ≡ after (key_queue w) (key_call c)
key_after w (works.add k) = key_added k w
key_after w works.get = ap key_queue (sym (got_is (key_queue w)))
key_after w (works.finish k) = ap key_queue (sym (done_is k (key_queue w)))
key_after w works.shut_down = refl

pub key_after_all : (w : WorkQueue) (cs : List works.Call) → key_queue (works.after_all w cs) ≡ after_all (key_queue w) (map key_call cs)
key_after_all w [] = refl
key_after_all w (c ∷ cs) = key_after_all (works.after w c) cs ∙ ap (λ q. after_all q (map key_call cs)) (key_after w c)
