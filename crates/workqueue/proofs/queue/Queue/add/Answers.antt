use Rattle.std.proofs.Common.{ap, ◌∙◌}
use Rattle.std.proofs.lemmas.Result.{on_ok_weaker}
use Rattle.spec_client_go.specs.WorkQueues.{work_key_cmp, added}
use Rattle.object_keys.specs.WorkKeys.{work_key_of}
use Rattle.keyed_queues.specs.Lists.{said}
use Rattle.keyed_queues.specs.WorkLaws.{work_queue}
use Rattle.keyed_queues.proofs.WorkQueues.{added_is}
use Rattle.workqueue.proofs.queue.Queue.add.Goals as goal

pub returns-clause-ok : goal.returns-clause-ok
returns-clause-ok c =
    let k = work_key_of c.args.key in
    on_ok_weaker c.add.result (λ e. ap work_queue e ∙ added_is k (said work_key_cmp work_key_of c.self.inside.keys) ∙ ap (added k) c.self.view_is) c.add.ensures.ok
