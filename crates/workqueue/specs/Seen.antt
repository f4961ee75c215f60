-- What a queue of work keys says.
use Rattle.spec_client_go.specs.WorkQueues.{WorkQueue, work_key_cmp}
use Rattle.object_keys.specs.WorkKeys.{work_key_of}
use Rattle.object_keys.specs.declared.work_key.WorkKey.{WorkKey}
use Rattle.keyed_queues.specs.Lists.{Lists, said}
use Rattle.keyed_queues.specs.WorkLaws.{work_queue}

abbrev pub work_of : Lists WorkKey → WorkQueue
work_of l = work_queue (said work_key_cmp work_key_of l)
