use Rattle.std.proofs.Common.{All, sym, subst}
use Rattle.std.proofs.lemmas.List.Elements.{All-weaker}
use Rattle.shared_keyed_board.specs.Passes.{IsNewAt}
use Rattle.controller_runtime.specs.Runs.{IsBack}
use Rattle.controller_runtime.proofs.Runs.{begins, comes_back}
use Rattle.controller_runtime.proofs.running.run_until_over.Goals as goal

pub take_back-requires-clause-passes : goal.take_back-requires-clause-passes
take_back-requires-clause-passes g c =
    let R = g.K.Named.order in
    let owes = g.C.Reconciler.owes in
    let ends = g.C.Reconciler.ends in
    let says = g.K.Named.says in
    let d = c.args.board.now in
    let new : All (IsNewAt d) c.reserve.new.self.items = subst (All (IsNewAt d)) (sym c.reserve.ensures.items) c.all_members.ensures.passes in
    All-weaker (IsNewAt d) (IsBack owes ends says d) (λ p at. comes_back R owes ends says d p (begins R owes ends says d p at)) c.reserve.new.self.items new
