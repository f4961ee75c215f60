use Rattle.std.proofs.Common.{◌≡◌, ◌∙◌, None, Some, ap, set, set-set, string_bytes, sym}
use Rattle.controller_simulation.specs.Turns.{turn_of}
use Rattle.controller_simulation.proofs.Placed.{once_done}
use Rattle.controller_simulation.proofs.worlds.ControllerWorld.ask.Goals as goal

pub returns-in-Some-clause-asked : goal.returns-in-Some-clause-asked
returns-in-Some-clause-asked g c =
    let ts = c.args.self.now.turns.items in
    let worker = c.args.worker in
    let at : turn_of worker ts ≡ Some c.in-Some.turn = sym c.taken_out.ensures.turn ∙ c.in-Some.is in
    let put = c.put.ensures ∙ (ap (λ l. set l worker (Some c.asks-turn.result.0)) c.taken_out.ensures.left ∙ set-set ts worker None (Some c.asks-turn.result.0)) in
    once_done c.asks-turn.result.1 (λ asked. (string_bytes c.args.line, (c.in-Some.turn, c.asks-turn.result.0, at, asked, put))) c.asks-turn.ensures.asked
