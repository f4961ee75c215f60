use denote.Exit.{no}
use denote.Param.{param}
use denote.Param.Send.{IsSend, IsSync, sendable, param_send, arg_send}
use Rattle.manager.proofs.Sent.{member}
use Rattle.manager.proofs.running.run.Goals as goal

pub for_each_mut-requires-send-T : goal.for_each_mut-requires-send-T
for_each_mut-requires-send-T g c κs within =
    let lent : IsSync (param 0 g.row.R) = search (c, sendable) in
    let asks : IsSend (param 1 g.row.A) = search (c, sendable) in
    let stands : IsSync (param 2 g.row.G) = search (c, sendable) in
    param_send 1 _ (arg_send _ no _ (member _ (param 0 g.row.R) lent (param 1 g.row.A) asks _ (param 2 g.row.G) stands))
