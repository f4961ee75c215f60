use Rattle.std.proofs.Common.{◌∙◌, ap, sym, refl}
use Rattle.std.specs.Prelude.{option_map}
use Rattle.shared_keyed_board.proofs.Attempting.{handed_is}
use Rattle.shared_keyed_board.proofs.Passing.{calls_less}
use Rattle.shared_keyed_board.proofs.boards.SharedKeyedBoard.try_take.Goals as goal

pub returns-in-Ok-clause-step : goal.returns-in-Ok-clause-step
returns-in-Ok-clause-step g c =
    let say = g.K.Named.says in
    calls_less g.K.Named.order _ _ _ _ _ _ (λ b s. refl) (λ b s. ap (option_map say) c.into_hand.ensures ∙ handed_is g.K.Named.order say b c.in-Ok.attempt s) c.in-Ok.ensures.step

pub returns-in-Ok-clause-key : goal.returns-in-Ok-clause-key
returns-in-Ok-clause-key g c = c.in-Ok.ensures.key ∙ sym (ap (option_map g.K.Named.says) c.into_hand.ensures)
