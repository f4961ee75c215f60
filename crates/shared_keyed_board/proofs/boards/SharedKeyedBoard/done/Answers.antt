use Rattle.std.proofs.Common.{◌∙◌, ap, sym}
use Rattle.std.specs.Prelude.{Some}
use Rattle.keyed_board.specs.Boards.{finished}
use Rattle.keyed_board.specs.Steps.{finish}
use Rattle.keyed_board.specs.declared.outcome.Outcome.TheVariants.{Done}
use Rattle.shared_keyed_board.specs.Calls.{having_seen}
use Rattle.shared_keyed_board.specs.Passes.{sight}
use Rattle.shared_keyed_board.proofs.Passing.{calls, hand_is, key_after}
use Rattle.shared_keyed_board.proofs.boards.SharedKeyedBoard.done.Goals as goal

pub note_key-requires-clause-board : goal.note_key-requires-clause-board
note_key-requires-clause-board g c = c.done.ensures ∙ ap (finished (g.K.Named.says c.key-key.result.now) Done) c.hold-held.ensures.board.said

pub note_key-requires-clause-may : goal.note_key-requires-clause-may
note_key-requires-clause-may g c =
    hand_is g.K.Named.order _ _ c.hold-held.ensures.looked ∙ c.requires.mine ∙ ap (λ k. Some (g.K.Named.says k)) (sym c.key-key.ensures)

pub returns-clause-step : goal.returns-clause-step
returns-clause-step g c =
    let say = g.K.Named.says in
    let w = sight say c.hold-held.new.pass in
    calls g.K.Named.order _ _ _ _ _ c.hold-held.ensures.looked tt (c.note_key.ensures.sight ∙ ap (λ k. having_seen w w.seen (Some (finish (say k) Done))) c.key-key.ensures)

pub returns-clause-key : goal.returns-clause-key
returns-clause-key g c = key_after g.K.Named.order _ _ _ _ c.hold-held.ensures.looked c.note_key.ensures.sight
