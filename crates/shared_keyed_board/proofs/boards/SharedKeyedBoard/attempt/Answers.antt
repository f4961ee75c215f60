use Rattle.std.proofs.Common.{◌∙◌, ap}
use Rattle.keyed_board.specs.Boards.{taken}
use Rattle.keyed_board.specs.Said.{said}
use Rattle.keyed_queues.specs.Queues.{handed}
use Rattle.shared_keyed_board.specs.Calls.{having_seen}
use Rattle.shared_keyed_board.specs.Histories.{board}
use Rattle.shared_keyed_board.specs.Passes.{sight}
use Rattle.shared_keyed_board.proofs.Attempting.{takes_is, hand_taken}
use Rattle.shared_keyed_board.proofs.Passing.{calls, hand_is, key_same}
use Rattle.shared_keyed_board.proofs.boards.SharedKeyedBoard.attempt.Goals as goal

pub note_taken-requires-clause-free : goal.note_taken-requires-clause-free
note_taken-requires-clause-free g c = hand_is g.K.Named.order _ _ c.hold-held.ensures.looked ∙ c.requires.free

pub note_taken-requires-clause-board : goal.note_taken-requires-clause-board
note_taken-requires-clause-board g c = c.in-Ok.ensures.ok ∙ ap taken c.hold-held.ensures.board.said

pub note_taken-requires-clause-key : goal.note_taken-requires-clause-key
note_taken-requires-clause-key g c = c.in-Ok.ensures.key ∙ ap (λ b. handed b.work) c.hold-held.ensures.board.said

pub note_taken-requires-clause-shut : goal.note_taken-requires-clause-shut
note_taken-requires-clause-shut g c =
    c.is_shut-is_shut.ensures ∙ (ap (λ p. (said g.K.Named.order g.K.Named.says p).work.is_shut) c.get.ensures ∙ ap (λ b. b.work.is_shut) c.hold-held.ensures.board.said)

pub note-requires-clause-board : goal.note-requires-clause-board
note-requires-clause-board g c = c.in-Err.ensures.err ∙ c.hold-held.ensures.board.said

pub returns-in-Ok-clause-step : goal.returns-in-Ok-clause-step
returns-in-Ok-clause-step g c =
    let w = sight g.K.Named.says c.hold-held.new.pass in
    calls g.K.Named.order _ _ _ _ _ c.hold-held.ensures.looked c.note_taken.ensures.attempt
    (c.note_taken.ensures.sight ∙ ap (having_seen w w.seen) (takes_is g.K.Named.order g.K.Named.says (board g.K.Named.order w.seen) c.note_taken.result c.note_taken.ensures.attempt))

pub returns-in-Ok-clause-key : goal.returns-in-Ok-clause-key
returns-in-Ok-clause-key g c = hand_taken g.K.Named.order g.K.Named.says _ _ _ c.note_taken.result c.hold-held.ensures.looked c.requires.free c.note_taken.ensures.sight

pub returns-in-Err-clause-step : goal.returns-in-Err-clause-step
returns-in-Err-clause-step g c = calls g.K.Named.order _ _ _ _ _ c.hold-held.ensures.looked tt c.note.ensures.sight

pub returns-in-Err-clause-none : goal.returns-in-Err-clause-none
returns-in-Err-clause-none g c = key_same g.K.Named.order _ _ _ c.hold-held.ensures.looked c.note.ensures.sight ∙ c.requires.free
