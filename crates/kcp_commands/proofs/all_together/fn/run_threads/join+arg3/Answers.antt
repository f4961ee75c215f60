use denote.Exit.{no}
use denote.Param.{param}
use denote.Param.Send.{IsSync, sendable, param_send, arg_send}
use Rattle.kcp_commands.proofs.Sent.{captured_controllers}
use Rattle.kcp_commands.proofs.all_together.fn.run_threads.join+arg3.Goals as goal

pub join-requires-send-F : goal.join-requires-send-F
join-requires-send-F g c κs within =
    let lent : IsSync (param 0 g.row.R) = search (c, sendable) in
    param_send 1 _ (arg_send _ no _ (captured_controllers _ (param 0 g.row.R) lent _ _ _))
