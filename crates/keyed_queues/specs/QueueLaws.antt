-- What is true of a queue of keys of any type after any list of calls.
use Rattle.std.specs.Prelude.{◌≡◌, ◌||◌, true, false, List, Some}
use Rattle.std.specs.List.{IsDistinct}
use Rattle.std.specs.Ordering.{eq_by_cmp}
use Rattle.std.specs.FinSet as set
use Rattle.std.specs.declared.cmp.Ordering.{Ordering}
use Rattle.spec_client_go.specs.KeyQueues.{added, shut, handed}
pub use Rattle.spec_client_go.specs.KeyQueues.{Call, add, get, finish, shut_down, after, after_all, made, is_queued, is_key, hands_out, was_handed}

-- a key waits in the queue once
abbrev pub QueuesOnce : {N : Type 0} → (N → N → Ordering) → Type 0
QueuesOnce {N = N} R = (cs : List (Call N)) → IsDistinct (eq_by_cmp R) (made R cs).queue

-- a key that is handed out is in no worker's hands
abbrev pub HandsApart : {N : Type 0} → (N → N → Ordering) → Type 0
HandsApart {N = N} R = (cs : List (Call N)) (k : N) → handed (made R cs) ≡ Some k → set.contains (made R cs).processing k ≡ false

-- a key that wants a look is queued or in a worker's hands
abbrev pub NothingIsLost : {N : Type 0} → (N → N → Ordering) → Type 0
NothingIsLost {N = N} R = (cs : List (Call N)) (k : N) → set.contains (made R cs).dirty k ≡ true → (is_queued (made R cs) k || set.contains (made R cs).processing k) ≡ true

-- a key that is queued wants a look
abbrev pub QueuedIsDirty : {N : Type 0} → (N → N → Ordering) → Type 0
QueuedIsDirty {N = N} R = (cs : List (Call N)) (k : N) → is_queued (made R cs) k ≡ true → set.contains (made R cs).dirty k ≡ true

-- a key that was added before the shut-down still wants a look, or was handed out after
abbrev pub AddedIsServed : {N : Type 0} → (N → N → Ordering) → Type 0
AddedIsServed {N = N} R =
    (before cs : List (Call N)) (k : N) → (made R before).is_shut ≡ false → (set.contains (after_all (added k (made R before)) cs).dirty k || was_handed k (added k (made R before)) cs) ≡ true

-- after the shut-down only what wanted a look then is handed out
abbrev pub ShutAddsNothing : {N : Type 0} → (N → N → Ordering) → Type 0
ShutAddsNothing {N = N} R = (before cs : List (Call N)) (k : N) → handed (after_all (shut (made R before)) cs) ≡ Some k → set.contains (made R before).dirty k ≡ true
