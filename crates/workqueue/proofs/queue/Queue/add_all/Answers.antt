use Rattle.std.proofs.Common.{ap, ◌∙◌, map}
use Rattle.std.proofs.lemmas.Result.{on_ok_weaker, on_err_weaker}
use Rattle.spec_client_go.specs.WorkQueues.{work_key_cmp, add, after_all}
use Rattle.object_keys.specs.WorkKeys.{work_key_of}
use Rattle.keyed_queues.specs.Lists.{said}
use Rattle.keyed_queues.specs.WorkLaws.{work_queue}
use Rattle.keyed_queues.proofs.WorkQueues.{added_all_are}
use Rattle.workqueue.proofs.queue.Queue.add_all.Goals as goal

pub returns-clause-ok : goal.returns-clause-ok
returns-clause-ok c =
    let ks = map work_key_of c.args.keys.now in
    on_ok_weaker c.add_all.result (λ e. ap work_queue e ∙ added_all_are ks (said work_key_cmp work_key_of c.self.inside.keys) ∙ ap (λ w. after_all w (map add ks)) c.self.view_is) c.add_all.ensures.ok

pub returns-clause-err : goal.returns-clause-err
returns-clause-err c = on_err_weaker c.add_all.result (λ e. ap work_queue e ∙ c.self.view_is) c.add_all.ensures.err
