use Rattle.std.proofs.Common.{◌∙◌, ap}
use Rattle.keyed_board.specs.Boards.{until_due}
use Rattle.keyed_board.specs.Said.{said}
use Rattle.shared_keyed_board.proofs.Passing.{looks, key_looked}
use Rattle.shared_keyed_board.proofs.boards.SharedKeyedBoard.until_due.Goals as goal

pub returns-clause-step : goal.returns-clause-step
returns-clause-step g c =
    let R = g.K.Named.order in
    let say = g.K.Named.says in
    looks R _ _ _ _ c.hold-held.ensures.looked (c.until_due-left.ensures ∙ (ap (λ p. until_due (said R say p)) c.get.ensures ∙ ap until_due c.hold-held.ensures.board.said)) c.give_back.ensures.sight

pub returns-clause-key : goal.returns-clause-key
returns-clause-key g c = key_looked g.K.Named.order _ _ _ c.hold-held.ensures.looked c.give_back.ensures.sight
