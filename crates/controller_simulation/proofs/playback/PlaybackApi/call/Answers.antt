use Rattle.std.proofs.Common.{◌≡◌, true, false, rules, subst}
use Rattle.scripted_api.specs.Played.{IsLineOf}
use Rattle.request_encoding.specs.Texts.{can_be_told}
use Rattle.request_parts.specs.Requests.{request_of}
use Rattle.controller_simulation.specs.Playing.{LineOf, is_repeating}
use Rattle.controller_simulation.proofs.Lifted.{answered, line_of_same}
use Rattle.controller_simulation.proofs.playback.PlaybackApi.call.Goals as goal

pub returns-in-Ok-Some : goal.returns-in-Ok-Some
returns-in-Ok-Some c =
    let q = request_of c.args.request.now in
    let line = c.in-Ok-Some.line in
    let is = subst (IsLineOf q) c.in-Ok-Some.field-0-is c.in-Ok-Some.ensures in
    let going : is_repeating c.args.self.now.reached ≡ true = search rules in
    answered (LineOf q) (can_be_told q ≡ false) line (λ other. line_of_same q line other is) c.args.self.now c.answer.result c.answer.new.self going c.answer.ensures.same c.answer.ensures.answers
