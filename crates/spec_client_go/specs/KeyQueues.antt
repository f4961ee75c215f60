-- Work queues of keys of any type that have an order: which wait, and which are in workers' hands.
use Rattle.std.specs.Prelude.{◌||◌, Bool, true, false, List, [], ◌∷◌, ◌++◌, Option, Some, None, if◌then◌else◌}
use Rattle.std.specs.List.{list_any}
use Rattle.std.specs.Ordering.{eq_by_cmp}
use Rattle.std.specs.FinSet as set
use Rattle.std.specs.declared.cmp.Ordering.{Ordering}
use Rattle.spec_client_go.specs.WorkQueues.{work_key_cmp, WorkQueue}

-- a work queue (client-go, util/workqueue): the keys that wait, first come first; those that are to be processed; those in workers' hands
pub record KeyQueue {N : Type 0} (R : N → N → Ordering) : Type 0 where
  pub queue : List N
  pub dirty : set.FinSet R
  pub processing : set.FinSet R
  pub is_shut : Bool

abbrev pub idle : {N : Type 0} {R : N → N → Ordering} → KeyQueue R
idle = record { queue = []; dirty = set.empty; processing = set.empty; is_shut = false }

-- a key that is added waits once, however often it is added; one in a worker's hands waits for its `done`
abbrev pub added : {N : Type 0} {R : N → N → Ordering} → N → KeyQueue R → KeyQueue R
added k w =
    if w.is_shut || set.contains w.dirty k then w else record w { queue = if set.contains w.processing k then w.queue else w.queue ++ k ∷ []; dirty = set.insert w.dirty k }

-- the key that is handed out next: the one that waits longest
abbrev pub front : {N : Type 0} → List N → Option N
front [] = None
front (k ∷ ks) = Some k

abbrev pub handed : {N : Type 0} {R : N → N → Ordering} → KeyQueue R → Option N
handed w = front w.queue

abbrev pub got_from : {N : Type 0} {R : N → N → Ordering} → List N → KeyQueue R → KeyQueue R
got_from [] w = w
got_from (k ∷ ks) w = record w { queue = ks; dirty = set.remove w.dirty k; processing = set.insert w.processing k }

-- it goes into a worker's hands, and is not to be processed again until it is added again
abbrev pub got : {N : Type 0} {R : N → N → Ordering} → KeyQueue R → KeyQueue R
got w = got_from w.queue w

-- a key that was added while it was in a worker's hands waits again
abbrev pub done : {N : Type 0} {R : N → N → Ordering} → N → KeyQueue R → KeyQueue R
done k w =
    if set.contains w.processing k then record w { queue = if set.contains w.dirty k then w.queue ++ k ∷ [] else w.queue; processing = set.remove w.processing k } else w

-- from then on nothing is added
abbrev pub shut : {N : Type 0} {R : N → N → Ordering} → KeyQueue R → KeyQueue R
shut w = record w { is_shut = true }

-- keys that are added one after another
abbrev pub added_all : {N : Type 0} {R : N → N → Ordering} → List N → KeyQueue R → KeyQueue R
added_all [] w = w
added_all (k ∷ ks) w = added_all ks (added k w)

-- the calls that change a queue
pub data Call (N : Type 0) : Type 0 where
  add : N → Call N
  get : Call N
  finish : N → Call N
  shut_down : Call N

abbrev pub after : {N : Type 0} {R : N → N → Ordering} → KeyQueue R → Call N → KeyQueue R
after w (add k) = added k w
after w get = got w
after w (finish k) = done k w
after w shut_down = shut w

abbrev pub after_all : {N : Type 0} {R : N → N → Ordering} → KeyQueue R → List (Call N) → KeyQueue R
after_all w [] = w
after_all w (c ∷ cs) = after_all (after w c) cs

-- the queue after these calls
abbrev pub made : {N : Type 0} (R : N → N → Ordering) → List (Call N) → KeyQueue R
made R cs = after_all idle cs

-- whether a key waits in the queue
abbrev pub is_queued : {N : Type 0} {R : N → N → Ordering} → KeyQueue R → N → Bool
is_queued {R = R} w k = list_any (eq_by_cmp R k) w.queue

abbrev pub is_key : {N : Type 0} → (N → N → Ordering) → N → Option N → Bool
is_key R k None = false
is_key R k (Some j) = eq_by_cmp R k j

-- whether a call hands out a key
abbrev pub hands_out : {N : Type 0} {R : N → N → Ordering} → N → KeyQueue R → Call N → Bool
hands_out k w (add j) = false
hands_out {R = R} k w get = is_key R k (handed w)
hands_out k w (finish j) = false
hands_out k w shut_down = false

-- whether one of these calls does
abbrev pub was_handed : {N : Type 0} {R : N → N → Ordering} → N → KeyQueue R → List (Call N) → Bool
was_handed k w [] = false
was_handed k w (c ∷ cs) = hands_out k w c || was_handed k (after w c) cs

-- the work queue that a queue of work keys is
abbrev pub work_queue : KeyQueue work_key_cmp → WorkQueue
work_queue w = record { queue = w.queue; dirty = w.dirty; processing = w.processing; is_shut = w.is_shut }
