-- How long a key that is given back waits.
use Rattle.std.specs.Prelude.{ℕ, ◌+◌, ◌<◌, max, List}
use Rattle.std.specs.List.{Contains}
use Rattle.spec_client_go.specs.Boards.{Board, Observation}
use Rattle.spec_client_go.specs.Delays.{delay_after, due, failures}
use Rattle.spec_client_go.specs.WorkQueues.{WorkKey}
use Rattle.work_board.specs.Later.{requeued_after}

-- before its delay is over, and the time that was asked for, a key that was given back does not come due, unless it was to do so already
abbrev pub KeysWait : Type 0
KeysWait =
    (k : WorkKey) (ss : List Observation) (least : ℕ) (b : Board) (now : ℕ) → now < b.time + max (delay_after (failures k b.failures)) least
    → Contains (due now (requeued_after k ss least b).delays) k → Contains (due now b.delays) k
