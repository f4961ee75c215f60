-- Each call does to a queue of work keys what it does to the work queue.
use Rattle.std.proofs.Common.{◌≡◌, refl, ap, ◌∙◌, List, [], ◌∷◌, map}
use Rattle.spec_client_go.specs.WorkQueues as works
use Rattle.spec_client_go.specs.WorkQueues.{WorkKey, work_key_cmp, Call, add, get, finish, shut_down}
use Rattle.spec_client_go.proofs.WorkQueues.{front_is}
pub use Rattle.spec_client_go.proofs.WorkQueues.{added_is, got_is, done_is}
use Rattle.keyed_queues.specs.Queues.{KeyQueue, idle, added, added_all}
use Rattle.keyed_queues.specs.WorkLaws.{work_queue, after, after_all, QueuesAreWorkQueues, KeysAreHandedOut}

pub after_is : (w : KeyQueue work_key_cmp) (c : Call) → work_queue (after w c) ≡ works.after (work_queue w) c
after_is w (add k) = added_is k w
after_is w get = got_is w
after_is w (finish k) = done_is k w
after_is w shut_down = refl

after_all_are : (w : KeyQueue work_key_cmp) (cs : List Call) → work_queue (after_all w cs) ≡ works.after_all (work_queue w) cs
after_all_are w [] = refl
after_all_are w (c ∷ cs) = after_all_are (after w c) cs ∙ ap (λ q. works.after_all q cs) (after_is w c)

pub added_all_are : (ks : List WorkKey) (w : KeyQueue work_key_cmp) → work_queue (added_all ks w) ≡ works.after_all (work_queue w) (map add ks)
added_all_are [] w = refl
added_all_are (k ∷ ks) w = added_all_are ks (added k w) ∙ ap (λ q. works.after_all q (map add ks)) (added_is k w)

pub same_queues : QueuesAreWorkQueues
same_queues cs = after_all_are idle cs

pub same_handed : KeysAreHandedOut
same_handed w = front_is w.queue
