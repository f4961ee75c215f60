use Rattle.std.proofs.Common.{ap, ◌∙◌}
use Rattle.spec_client_go.specs.WorkQueues.{work_key_cmp, handed}
use Rattle.object_keys.specs.WorkKeys.{work_key_of}
use Rattle.keyed_queues.specs.Lists.{said}
use Rattle.keyed_queues.proofs.WorkQueues.{same_handed}
use Rattle.workqueue.proofs.queue.Queue.first.Goals as goal

pub returns : goal.returns
returns c = c.first.ensures ∙ same_handed (said work_key_cmp work_key_of c.self.inside.keys) ∙ ap handed c.self.view_is
