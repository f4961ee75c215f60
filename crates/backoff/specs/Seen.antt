-- What numbers by work key say.
use Rattle.std.specs.Prelude.{ℕ, List, Option}
use Rattle.std.specs.FinMap as map
use Rattle.spec_client_go.specs.Delays.{Failures}
use Rattle.spec_client_go.specs.WorkQueues as queues
use Rattle.spec_client_go.specs.WorkQueues.{work_key_cmp}
use Rattle.object_keys.specs.WorkKeys.{work_key_of}
use Rattle.object_keys.specs.declared.work_key.WorkKey.{WorkKey}
use Rattle.keyed_queues.specs.Numbers.{said}
use Rattle.keyed_queues.specs.Failures as keyed

abbrev pub counts_of : List (WorkKey × ℕ) → map.FinMap work_key_cmp ℕ
counts_of es = said work_key_cmp work_key_of es

-- the failures of a key are again what they were
abbrev pub restored : queues.WorkKey → Option ℕ → Failures → Failures
restored k before m = keyed.restored k before m
