use Rattle.std.proofs.Common.{rules, subst}
use denote.Exit.{no}
use denote.Param.{param}
use denote.Param.Send.{IsSend, IsSync, sendable, param_send, arg_send}
use Rattle.controller_runtime.specs.Threads.{HasEnded}
use Rattle.controller_runtime.proofs.Sent.{thread}
use Rattle.controller_runtime.proofs.joining.run_each.Goals as goal

pub for_each_mut-requires-send-T : goal.for_each_mut-requires-send-T
for_each_mut-requires-send-T g c κs within =
    let lent : IsSync (param 0 g.row.R) = search (c, sendable) in
    let keys : IsSend (param 1 g.row.K) = search (c, sendable) in
    let says : IsSync (param 2 g.row.C) = search (c, sendable) in
    let asks : IsSend (param 3 g.row.A) = search (c, sendable) in
    param_send 1 _ (arg_send _ no _ (thread (param 1 g.row.K) g.K.Named g.K.Ord g.K.Eq g.K.PartialEq g.K.PartialOrd keys _ (param 0 g.row.R) lent (param 2 g.row.C) says (param 3 g.row.A) asks g.R.Wait))

pub returns : goal.returns
returns g c k d lt =
    let at = (c.for_each_mut.ensures k d (search (lt, rules))).1 in
    subst (HasEnded g.C.Reconciler.owes g.C.Reconciler.ends g.K.Named.says c.args.board.now) at.left at.call
