use Rattle.std.proofs.Common.{◌∙◌, ap, refl, sym, length, eqb}
use Rattle.std.proofs.lemmas.Bool.Decides.{Decides-eqb}
use Rattle.controller_simulation.specs.Replayed.{ActsAsNoted}
use Rattle.controller_simulation.specs.Turns.{EndsBy}
use Rattle.controller_simulation.proofs.Replayed.{if_ok, next_ends, next_noted}
use Rattle.controller_simulation.proofs.turns.ControllerTurn.next.Goals as goal

pub returns-clause-ends : goal.returns-clause-ends
returns-clause-ends g c =
    let q = c.reconcile-outcome.new.api in
    let allows = g.C.Reconciler.ends c.args.self.now.key c.args.self.now.shown in
    if_ok c.next_by.result (EndsBy allows)
    (λ n is. next_ends allows c.reconcile-outcome.result q.reached (eqb q.played c.len.result) n is c.reconcile-outcome.ensures.ends) c.next_by.ensures

pub returns-clause-acts : goal.returns-clause-acts
returns-clause-acts g c =
    let q = c.reconcile-outcome.new.api in
    let notes = c.args.self.now.past.items in
    let told = g.C.Reconciler.says_acts in
    let says = g.C.Reconciler.acts in
    if_ok c.next_by.result (ActsAsNoted told says c.args.self.now.key c.args.self.now.shown notes)
    (λ n is. next_noted told says c.args.self.now.key c.args.self.now.shown notes c.new-api.result q c.reconcile-outcome.result q.reached (eqb q.played c.len.result) n is refl
    (λ e. (Decides-eqb q.played c.len.result).0 e ∙ (c.len.ensures ∙ (sym c.as_slice.ensures.len ∙ ap length c.as_slice.ensures.value))) (c.new-api.ensures.past ∙ c.as_slice.ensures.value) c.new-api.ensures.played c.new-api.ensures.reached
    c.reconcile-outcome.ensures.acts)
    c.next_by.ensures
