use Rattle.std.proofs.Common.{◌≡◌, ◌∙◌, ◌&&◌, Bool, true, false, Some, option_map, ap, refl, sym}
use Rattle.controller_simulation.specs.Turns.{is_idle}
use Rattle.sim_cluster.specs.Requested.{have_all_listed}
use Rattle.controller_simulation.proofs.worlds.ControllerWorld.take.Goals as goal

first_true : (a b : Bool) → (a && b) ≡ true → a ≡ true
first_true true b e = refl
first_true false b e = e

pub returns-clause-turns : goal.returns-clause-turns
returns-clause-turns g c =
    let idle : is_idle c.args.worker c.args.self.now.turns.items ≡ true = first_true (is_idle c.args.worker c.args.self.now.turns.items) (have_all_listed c.args.self.now.cluster) (sym c.can_take.ensures ∙ c.if-not-can_take.false) in
    let key = sym c.in_ok-key.ensures.key ∙ (ap (option_map g.K.Named.says) c.in-Some.is ∙ ap (λ k. Some (g.K.Named.says k)) (sym c.begun.ensures.key)) in
    (c.begun.result, record { key = key; looked = c.begun.ensures.looked; past = c.begun.ensures.past }, idle, c.put.ensures)
