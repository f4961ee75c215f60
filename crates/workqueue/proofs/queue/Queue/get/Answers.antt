use Rattle.std.proofs.Common.{ap, ◌∙◌}
use Rattle.std.proofs.lemmas.Result.{on_ok_weaker, IfOk-weaker}
use Rattle.spec_client_go.specs.WorkQueues.{work_key_cmp, got, handed}
use Rattle.object_keys.specs.WorkKeys.{work_key_of}
use Rattle.keyed_queues.specs.Lists.{said}
use Rattle.keyed_queues.specs.WorkLaws.{work_queue}
use Rattle.keyed_queues.proofs.WorkQueues.{got_is, same_handed}
use Rattle.workqueue.proofs.queue.Queue.get.Goals as goal

pub returns-clause-ok : goal.returns-clause-ok
returns-clause-ok c = on_ok_weaker c.get.result (λ e. ap work_queue e ∙ got_is (said work_key_cmp work_key_of c.self.inside.keys) ∙ ap got c.self.view_is) c.get.ensures.ok

pub returns-clause-handed : goal.returns-clause-handed
returns-clause-handed c = IfOk-weaker c.get.result _ _ (λ k e. e ∙ same_handed (said work_key_cmp work_key_of c.self.inside.keys) ∙ ap handed c.self.view_is) c.get.ensures.handed
