use Rattle.std.proofs.Common.{rules, All, sym, subst}
use Rattle.std.specs.Prelude.{Some}
use Rattle.std.proofs.lemmas.List.Elements.{All-pop, All-push}
use Rattle.controller_runtime.specs.Runs.{IsBack}
use Rattle.controller_runtime.specs.Threads.{HasEnded}
use Rattle.controller_runtime.proofs.joining.take_back.Goals as goal

pub loop-thread-preserved : goal.loop-thread-preserved
loop-thread-preserved g c =
    let owes = g.C.Reconciler.owes in
    let ends = g.C.Reconciler.ends in
    let says = g.K.Named.says in
    let d = c.args.board.now in
    let inv = c.loop-thread.invariant in
    let popped = All-pop (HasEnded owes ends says d) c.loop-thread.threads.items c.pop.new.self.items (Some c.in-Some.thread) c.in-Some.ensures.items inv.0 in
    let back : IsBack owes ends says d c.into_pass.result = subst (IsBack owes ends says d) (sym c.into_pass.ensures) popped.1 in (
      popped.0,
      subst (All (IsBack owes ends says d)) (sym c.push_reserved.ensures.items) (All-push (IsBack owes ends says d) c.loop-thread.passes.items c.into_pass.result inv.1 back),
      search rules,
      search rules,
    )
