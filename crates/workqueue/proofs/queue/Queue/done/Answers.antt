use Rattle.std.proofs.Common.{ap, ◌∙◌}
use Rattle.spec_client_go.specs.WorkQueues.{work_key_cmp, done}
use Rattle.object_keys.specs.WorkKeys.{work_key_of}
use Rattle.keyed_queues.specs.Lists.{said}
use Rattle.keyed_queues.specs.WorkLaws.{work_queue}
use Rattle.keyed_queues.proofs.WorkQueues.{done_is}
use Rattle.workqueue.proofs.queue.Queue.done.Goals as goal

pub returns : goal.returns
returns c =
    let k = work_key_of c.args.key.now in
    ap work_queue c.done.ensures ∙ done_is k (said work_key_cmp work_key_of c.self.inside.keys) ∙ ap (done k) c.self.view_is
