use Rattle.std.proofs.Common.{◌≡◌, ◌∙◌, Some, sym}
use Rattle.keyed_board.specs.Boards.{finished}
use Rattle.keyed_board.specs.Said.{said}
use Rattle.controller_simulation.specs.Turns.{turn_of}
use Rattle.controller_simulation.proofs.Ended.{by_key, ended_turn}
use Rattle.controller_simulation.proofs.worlds.ControllerWorld.give_back.Goals as goal

pub returns-in-Ok-clause-ends : goal.returns-in-Ok-clause-ends
returns-in-Ok-clause-ends g c =
    let at : turn_of c.args.worker c.args.self.now.turns.items ≡ Some c.in-Some.turn =
    sym c.taken_out.ensures.turn ∙ c.in-Some.is in
    let finish = λ (k : g.row.K.Denot). finished (g.K.Named.says k) c.args.outcome (said g.K.Named.order g.K.Named.says c.args.self.now.board) in
    (ended_turn g.C.Reconciler.ends c.args.self.now.turns.items c.args.worker c.in-Some.turn c.into_key.result c.args.outcome at c.into_key.ensures c.requires, by_key (said g.K.Named.order g.K.Named.says c.finish.new.self) finish c.in-Some.turn.key c.into_key.result c.in-Ok.ensures.ok c.into_key.ensures, c.taken_out.ensures.left)
