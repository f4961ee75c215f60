use denote.Exit.{no}
use denote.Param.{param}
use denote.Param.Send.{IsSync, sendable, param_send, arg_send}
use Rattle.kcp_commands.proofs.Sent.{looping}
use Rattle.kcp_commands.proofs.parts.Answering.run.Goals as goal

pub run_row-outcome-requires-send-H : goal.run_row-outcome-requires-send-H
run_row-outcome-requires-send-H g c κs within =
    let lent : IsSync (param 0 g.row.R) = search (c, sendable) in
    param_send 1 _ (arg_send _ no _ (looping _ _ _ (param 0 g.row.R) lent (param 1 g.row.L) g.L.Ledger))
