use Rattle.std.proofs.Common.{◌≡◌, ◌∙◌, Some, ap, set, sym, subst}
use Rattle.controller_simulation.specs.Turns.{HasLooked, turn_of}
use Rattle.sim_cluster.specs.ClusterStates.{published}
use Rattle.controller_simulation.proofs.Placed.{looks_by, none_taken}
use Rattle.controller_simulation.proofs.worlds.ControllerWorld.look.Goals as goal

pub returns-in-None-clause-turns : goal.returns-in-None-clause-turns
returns-in-None-clause-turns g c = c.taken_out.ensures.left ∙ none_taken c.args.self.now.turns.items c.args.worker (sym c.taken_out.ensures.turn ∙ c.in-None.is)

pub returns-in-Some-clause-turns : goal.returns-in-Some-clause-turns
returns-in-Some-clause-turns g c =
    let ts = c.args.self.now.turns.items in
    let worker = c.args.worker in
    let at : turn_of worker ts ≡ Some c.in-Some.turn = sym c.taken_out.ensures.turn ∙ c.in-Some.is in
    let shown : c.in_ok-published.published ≡ published c.args.kind c.args.self.now.cluster = c.in_ok-published.ensures ∙ c.published.ensures in
    looks_by worker c.args.kind (published c.args.kind c.args.self.now.cluster) ts c.put.new.places.items c.in-Some.turn c.looked_at-turn.result.0 c.looked_at-turn.result.1 at
    (λ looked. subst (λ s. HasLooked c.args.kind s c.in-Some.turn c.looked_at-turn.result.0) shown (c.looked_at-turn.ensures.shown looked)) c.looked_at-turn.ensures.same
    (c.put.ensures ∙ ap (λ l. set l worker (Some c.looked_at-turn.result.0)) c.taken_out.ensures.left)
