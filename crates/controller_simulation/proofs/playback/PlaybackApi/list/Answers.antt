use Rattle.std.proofs.Common.{◌≡◌, true, rules}
use Rattle.controller_simulation.specs.Playing.{ListLine, is_repeating}
use Rattle.controller_simulation.proofs.Lifted.{answered, list_of_same}
use Rattle.controller_simulation.proofs.playback.PlaybackApi.list.Goals as goal

pub returns-in-Ok : goal.returns-in-Ok
returns-in-Ok c =
    let going : is_repeating c.args.self.now.reached ≡ true = search rules in
    answered (ListLine c.args.kind) ⊥ c.in-Ok.line (λ other. list_of_same c.args.kind c.in-Ok.line other c.in-Ok.ensures) c.args.self.now c.answer.result c.answer.new.self going c.answer.ensures.same c.answer.ensures.answers
