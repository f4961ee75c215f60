-- What a pass takes with a key.
use Rattle.std.specs.Prelude.{◌≡◌, Option, IfSome, option_map}
use Rattle.spec_client_go.specs.Boards.{taken}
use Rattle.spec_client_go.specs.WorkQueues as queues
use Rattle.spec_client_go.specs.WorkQueues.{handed}
use Rattle.object_keys.specs.WorkKeys.{work_key_of}
use Rattle.control_desk.specs.declared.states.WorkState.{WorkState}
use Rattle.control_desk.specs.declared.taken_key.TakenKey.{TakenKey}

abbrev pub key_taken : Option TakenKey → Option queues.WorkKey
key_taken t = option_map (λ x. work_key_of x.key) t

-- it is the key that waits longest, if one waits, and with it comes what was handled of each kind
abbrev pub IsNext : Option TakenKey → WorkState → Type 0
IsNext t s = (key_taken t ≡ handed s.board.work) × IfSome t (λ x. x.handled ≡ s.handled)

-- the next key goes into a worker's hands
abbrev pub after_take : WorkState → WorkState
after_take s = record { board = taken s.board; handled = s.handled }
