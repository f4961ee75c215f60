use denote.Exit.{no}
use denote.Param.{param}
use denote.Param.Send.{IsSync, sendable, param_send, arg_send}
use Rattle.kcp_loopback.proofs.Sent.{connector, own_server, reading}
use Rattle.kcp_commands.proofs.parts.run_controllers.Goals as goal

pub run-outcome-requires-send-A : goal.run-outcome-requires-send-A
run-outcome-requires-send-A g c κs within =
    let lent : IsSync (param 0 g.row.R) = search (c, sendable) in
    param_send 1 _ (arg_send _ no _ (own_server _ (param 0 g.row.R) lent _ _ _ (connector _ (param 0 g.row.R) lent) (reading _ (param 0 g.row.R) lent)))
