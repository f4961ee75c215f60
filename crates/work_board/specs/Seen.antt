-- What the values of the code say, as the definitions have it.
use Rattle.std.specs.Prelude.{ℕ, string_bytes, refl}
use Rattle.std.specs.Coded.{Coded, code_by, coded×, coded_ℕ}
use Rattle.spec_client_go.specs.Boards as boards
use Rattle.spec_client_go.specs.Boards.{Board, creation_observed, deletion_observed}
use Rattle.spec_client_go.specs.Codes.{coded_work_queue, coded_counts}
use Rattle.spec_client_go.specs.Delays.{Delays, Failures}
use Rattle.spec_client_go.specs.Expectations as expectations
use Rattle.spec_client_go.specs.WorkQueues.{WorkQueue}
use Rattle.expectations.specs.Seen.{table_code}
use Rattle.object_keys.specs.Keys.{key_of}
use Rattle.work_board.specs.declared.observation.Observation.{Observation}
use Rattle.work_board.specs.declared.observation.Observation.TheVariants.{CreationObserved, DeletionObserved}
use Rattle.work_board.specs.declared.observation.Owner.{Owner}

-- the ReplicaSet of a key and a uid
abbrev pub owner_of : Owner → expectations.Owner
owner_of o = record { key = key_of o.key; uid = string_bytes o.uid }

abbrev pub observation_of : Observation → boards.Observation
observation_of (CreationObserved o) = creation_observed (owner_of o)
observation_of (DeletionObserved o pod) = deletion_observed (owner_of o) (string_bytes pod)

-- the code by which a model may store a board
abbrev pub board_code : Coded Board
board_code =
    code_by ((WorkQueue × (Delays × Failures)) × (expectations.Table × ℕ)) (coded× (coded× coded_work_queue (coded× coded_counts coded_counts)) (coded× table_code coded_ℕ))
    (λ b. ((b.work, (b.delays, b.failures)), (b.expected, b.time))) (λ p. record { work = p.0.0; delays = p.0.1.0; failures = p.0.1.1; expected = p.1.0; time = p.1.1 }) (λ _. refl)
