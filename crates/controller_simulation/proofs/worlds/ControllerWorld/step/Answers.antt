use Rattle.std.proofs.Common.{IfOk, subst, sym}
use Rattle.keyed_board.specs.Said.{said}
use Rattle.controller_simulation.specs.Told.{IsToldOf}
use Rattle.controller_simulation.proofs.worlds.ControllerWorld.step.Goals as goal

pub returns-in-Refuse-clause-told : goal.returns-in-Refuse-clause-told
returns-in-Refuse-clause-told g c =
    subst (λ s. IfOk c.issued.result (IsToldOf s c.args.self.now c.issued.new.self (said g.K.Named.order g.K.Named.says c.args.self.now.board))) (sym c.in-Refuse.is) c.issued.ensures.told
