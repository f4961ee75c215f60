-- The board of work keys, with what is expected as its side table, as the definitions have it.
use Rattle.spec_client_go.specs.Boards as works
use Rattle.spec_client_go.specs.Expectations.{Table}
use Rattle.spec_client_go.specs.WorkQueues.{work_key_cmp}
use Rattle.keyed_queues.specs.WorkLaws.{work_queue}
use Rattle.boards.specs.Boards.{KeyBoard}
use Rattle.boards.specs.Said.{Parts, said}
use Rattle.object_keys.specs.WorkKeys.{work_key_of}
use Rattle.object_keys.specs.declared.work_key.WorkKey.{WorkKey}

-- the board of controllers that a board of work keys is
abbrev pub work_board : KeyBoard work_key_cmp Table → works.Board
work_board b = record { work = work_queue b.work; delays = b.delays; failures = b.failures; expected = b.side; time = b.time }

-- by what its keys say
abbrev pub board_of : Parts WorkKey Table → works.Board
board_of p = work_board (said work_key_cmp work_key_of p)
