-- The board: what the workers of controllers share (client-go, util/workqueue; kubernetes, pkg/controller, ControllerExpectations).
use Rattle.std.specs.Prelude.{ℕ, ◌+◌, List, [], ◌∷◌, map as list_map, Bool, nat_le, if◌then◌else◌}
use Rattle.std.specs.FinMap as map
use Rattle.spec_client_go.specs.Delays.{Delays, Failures, delay_after, delayed, due, still_delayed, failures, failed}
use Rattle.spec_client_go.specs.Expectations as expectations
use Rattle.spec_client_go.specs.Expectations.{Owner, Table, creations_expected, deletions_expected, created, deleted}
use Rattle.spec_client_go.specs.WorkQueues as queues
use Rattle.spec_client_go.specs.WorkQueues.{WorkKey, WorkQueue, idle, add, got, after_all}
use Rattle.spec_api.specs.Keys.{Key}

-- the work queue, the keys with a delay, how often each key failed in a row, what is expected, and the time in milliseconds
pub record Board : Type 0 where
  pub work : WorkQueue
  pub delays : Delays
  pub failures : Failures
  pub expected : Table
  pub time : ℕ

abbrev pub begun : Board
begun = record { work = idle; delays = map.empty; failures = map.empty; expected = map.empty; time = 0 }

-- keys are added one after another
abbrev pub all_added : List WorkKey → WorkQueue → WorkQueue
all_added ks w = after_all w (list_map add ks)

-- ---- what is expected

-- a creation or a deletion that is expected no longer: the pod was seen created or deleted, or the request was refused or not sent
pub data Observation : Type 0 where
  creation_observed : Owner → Observation
  deletion_observed : Owner → List ℕ → Observation

abbrev pub lowered : Observation → Table → Table
lowered (creation_observed o) t = created o t
lowered (deletion_observed o pod) t = deleted o pod t

abbrev pub all_lowered : List Observation → Table → Table
all_lowered [] t = t
all_lowered (s ∷ ss) t = all_lowered ss (lowered s t)

-- a ReplicaSet expects so many pods to be created, or those of these uids to be deleted, from now on
abbrev pub expecting_creations : Owner → ℕ → Board → Board
expecting_creations o n b = record b { expected = creations_expected o n b.time b.expected }

abbrev pub expecting_deletions : Owner → List (List ℕ) → Board → Board
expecting_deletions o pods b = record b { expected = deletions_expected o pods b.time b.expected }

-- whether a ReplicaSet expects nothing, or has waited too long
abbrev pub is_satisfied : Owner → Board → Bool
is_satisfied o b = expectations.satisfied o b.time b.expected

-- there is no ReplicaSet of this key
abbrev pub forgotten : Key → Board → Board
forgotten k b = record b { expected = expectations.forgotten k b.expected }

-- a change was handled: what it shows of the pods that are expected is noted, and the keys that it owes are added
abbrev pub observed : List Observation → List WorkKey → Board → Board
observed ss ks b = record b { work = all_added ks b.work; expected = all_lowered ss b.expected }

-- ---- a worker's turn

-- the next key goes into a worker's hands
abbrev pub taken : Board → Board
taken b = record b { work = got b.work }

-- all went well: the key leaves the worker's hands, and its failures are forgotten
abbrev pub finished : WorkKey → Board → Board
finished k b = record b { work = queues.done k b.work; failures = map.remove b.failures k }

-- something failed: the key leaves the worker's hands and waits for its delay, and what was not done is expected no longer
abbrev pub requeued : WorkKey → List Observation → Board → Board
requeued k ss b =
    record b {
      work = queues.done k b.work;
      delays = delayed k (b.time + delay_after (failures k b.failures)) b.delays;
      failures = failed k b.failures;
      expected = all_lowered ss b.expected;
    }

-- ---- time

-- the last moment: the greatest number that every JSON reader represents exactly (RFC 8259, Numbers)
abbrev pub last_moment : ℕ
last_moment = 9007199254740991

abbrev pub may_tick : ℕ → Board → Bool
may_tick n b = nat_le (b.time + n) last_moment

-- it is later, and the keys whose moment has come are added
abbrev pub passed : ℕ → Board → Board
passed now b = record b { work = all_added (due now b.delays) b.work; delays = still_delayed now b.delays; time = now }

-- so many milliseconds pass; none pass where that would be beyond the last moment
abbrev pub ticked : ℕ → Board → Board
ticked n b = if may_tick n b then passed (b.time + n) b else b
