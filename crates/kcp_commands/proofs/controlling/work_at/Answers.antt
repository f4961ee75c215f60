use denote.Exit.{no}
use denote.Param.{param}
use denote.Param.Send.{IsSync, sendable, param_send, arg_send}
use Rattle.kcp_loopback.proofs.Sent.{asked, other_server}
use Rattle.kcp_commands.proofs.controlling.work_at.Goals as goal

pub run-requires-send-A : goal.run-requires-send-A
run-requires-send-A g c κs within =
    let lent : IsSync (param 0 g.row.R) = search (c, sendable) in
    param_send 1 _ (arg_send _ no _ (other_server _ (param 0 g.row.R) lent _ (asked _ (param 0 g.row.R) lent)))
