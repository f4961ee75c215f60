-- What a key of work says.
use Rattle.spec_client_go.specs.WorkQueues.{WorkKey as Task}
use Rattle.object_keys.specs.Keys.{key_of}
use Rattle.object_keys.specs.declared.work_key.WorkKey.{WorkKey}

-- a work key as the definitions have it: its controller, and the key of its object
abbrev pub work_key_of : WorkKey → Task
work_key_of k = record { controller = k.controller; key = key_of k.key }
