use Rattle.std.proofs.Common.{◌∙◌, ap}
use Rattle.keyed_board.specs.Said.{said}
use Rattle.shared_keyed_board.proofs.Passing.{looks, key_looked}
use Rattle.shared_keyed_board.proofs.boards.SharedKeyedBoard.rest_until_due.Goals as goal

pub returns-then-not-is_shut-clause-step : goal.returns-then-not-is_shut-clause-step
returns-then-not-is_shut-clause-step g c =
    let R = g.K.Named.order in
    let say = g.K.Named.says in
    looks R _ _ _ _ c.hold-held.ensures.looked (c.is_shut-is_shut.ensures ∙ (ap (λ p. (said R say p).work.is_shut) c.get.ensures ∙ ap (λ b. b.work.is_shut) c.hold-held.ensures.board.said)) c.give_back.ensures.sight

pub returns-then-not-is_shut-clause-key : goal.returns-then-not-is_shut-clause-key
returns-then-not-is_shut-clause-key g c = key_looked g.K.Named.order _ _ _ c.hold-held.ensures.looked c.give_back.ensures.sight

pub returns-else-not-is_shut-clause-step : goal.returns-else-not-is_shut-clause-step
returns-else-not-is_shut-clause-step g c =
    let R = g.K.Named.order in
    let say = g.K.Named.says in
    looks R _ _ _ _ c.hold-held.ensures.looked (c.is_shut-is_shut.ensures ∙ (ap (λ p. (said R say p).work.is_shut) c.get.ensures ∙ ap (λ b. b.work.is_shut) c.hold-held.ensures.board.said)) c.give_back.ensures.sight

pub returns-else-not-is_shut-clause-key : goal.returns-else-not-is_shut-clause-key
returns-else-not-is_shut-clause-key g c = key_looked g.K.Named.order _ _ _ c.hold-held.ensures.looked c.give_back.ensures.sight
