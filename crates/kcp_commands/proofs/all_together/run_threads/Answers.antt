use denote.Exit.{no}
use denote.Param.{param}
use denote.Param.Send.{IsSync, sendable, param_send, arg_send}
use Rattle.kcp_commands.proofs.Sent.{captured_answering}
use Rattle.kcp_commands.proofs.all_together.run_threads.Goals as goal

pub join-served-requires-send-F : goal.join-served-requires-send-F
join-served-requires-send-F g c κs within =
    let lent : IsSync (param 0 g.row.R) = search (c, sendable) in
    param_send 1 _ (arg_send _ no _ (captured_answering _ (param 0 g.row.R) lent (param 1 g.row.L) g.L.Ledger _))
