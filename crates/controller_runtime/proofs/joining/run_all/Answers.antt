use Rattle.std.proofs.Common.{rules, ◌≡◌, ◌++◌, All, length, take, drop, sym, ap, ◌∙◌, subst, arith}
use Rattle.std.proofs.Math.Seq.{take-append_seam}
use Rattle.controller_runtime.specs.Threads.{HasEnded}
use Rattle.controller_runtime.proofs.joining.run_all.Goals as goal

pub returns-clause-ended : goal.returns-clause-ended
returns-clause-ended g c =
    let s = c.run_each.new.threads in
    let rest = drop (length s) c.args.threads.now.items in
    let same : length s ≡ c.args.threads.now.len = search (c, rules, arith) in
    subst (All (HasEnded g.C.Reconciler.owes g.C.Reconciler.ends g.K.Named.says c.args.board.now))
    (sym (ap (λ n. take n (s ++ rest)) (sym same) ∙ take-append_seam s rest)) c.run_each.ensures
