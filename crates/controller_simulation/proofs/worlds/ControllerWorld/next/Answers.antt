use Rattle.std.proofs.Common.{◌≡◌, ◌∙◌, Some, ap, sym}
use Rattle.controller_simulation.specs.Turns.{turn_of}
use Rattle.controller_simulation.proofs.worlds.ControllerWorld.next.Goals as goal

pub returns-in_ok-next-in-Some : goal.returns-in_ok-next-in-Some
returns-in_ok-next-in-Some g c =
    let at : turn_of c.args.worker c.args.self.now.turns.items ≡ Some c.in-Some.turn.now = ap (turn_of c.args.worker) (sym c.as_slice.ensures.value) ∙ sym c.in-Some.ensures in
    (c.in-Some.turn.now, at, c.in_ok-next-in-Some.ensures.ends)
