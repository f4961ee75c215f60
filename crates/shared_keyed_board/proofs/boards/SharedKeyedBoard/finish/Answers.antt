use Rattle.std.proofs.Common.{◌∙◌, ap, sym, refl}
use Rattle.std.specs.Prelude.{Some}
use Rattle.keyed_board.specs.Boards.{finished}
use Rattle.keyed_board.specs.Steps.{finish}
use Rattle.shared_keyed_board.specs.Calls.{having_seen}
use Rattle.shared_keyed_board.specs.Passes.{sight}
use Rattle.shared_keyed_board.proofs.Passing.{calls, hand_is, key_after, key_same}
use Rattle.shared_keyed_board.proofs.boards.SharedKeyedBoard.finish.Goals as goal

pub note_key-requires-clause-board : goal.note_key-requires-clause-board
note_key-requires-clause-board g c = c.in-Ok.ensures.ok ∙ ap (finished (g.K.Named.says c.key-key.result.now) c.args.outcome) c.hold-held.ensures.board.said

pub note_key-requires-clause-may : goal.note_key-requires-clause-may
note_key-requires-clause-may g c =
    hand_is g.K.Named.order _ _ c.hold-held.ensures.looked ∙ c.requires.mine ∙ ap (λ k. Some (g.K.Named.says k)) (sym c.key-key.ensures)

pub note-requires-clause-board : goal.note-requires-clause-board
note-requires-clause-board g c = c.in-Err.ensures.err ∙ c.hold-held.ensures.board.said

pub returns-in-Ok-clause-step : goal.returns-in-Ok-clause-step
returns-in-Ok-clause-step g c =
    let say = g.K.Named.says in
    let w = sight say c.hold-held.new.pass in
    calls g.K.Named.order _ _ _ _ _ c.hold-held.ensures.looked tt (c.note_key.ensures.sight ∙ ap (λ k. having_seen w w.seen (Some (finish (say k) c.args.outcome))) c.key-key.ensures)

pub returns-in-Ok-clause-ok : goal.returns-in-Ok-clause-ok
returns-in-Ok-clause-ok g c = key_after g.K.Named.order _ _ _ _ c.hold-held.ensures.looked c.note_key.ensures.sight

pub returns-in-Err-clause-step : goal.returns-in-Err-clause-step
returns-in-Err-clause-step g c = calls g.K.Named.order _ _ _ _ _ c.hold-held.ensures.looked tt c.note.ensures.sight

pub returns-in-Err-clause-still : goal.returns-in-Err-clause-still
returns-in-Err-clause-still g c = (refl, key_same g.K.Named.order _ _ _ c.hold-held.ensures.looked c.note.ensures.sight)
