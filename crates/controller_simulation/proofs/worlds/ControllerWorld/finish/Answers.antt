use Rattle.std.proofs.Common.{Option, IfSome, subst}
use Rattle.controller_simulation.specs.Working.{ComesNext}
use Rattle.controller_simulation.specs.declared.turns.Next.{Next}
use Rattle.controller_simulation.proofs.worlds.ControllerWorld.finish.Goals as goal

pub give_back-requires : goal.give_back-requires
give_back-requires g c =
    let comes = ComesNext g.C.Reconciler.ends c.args.self.now.turns.items c.args.worker in
    let next = subst (λ (o : Option Next). IfSome o comes) c.in-Some-Ends.is c.in_ok-outcome.ensures in subst comes c.in-Some-Ends.field-0-is next
