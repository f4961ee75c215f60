use denote.Exit.{no}
use denote.Param.{param}
use denote.Param.Send.{IsSync, sendable, param_send, arg_send}
use Rattle.controller_runtime.proofs.Asked.{asked}
use Rattle.controller_runtime.proofs.programs.run_once.Goals as goal

pub run_at_own_board-requires-send-A : goal.run_at_own_board-requires-send-A
run_at_own_board-requires-send-A g c κs within =
    let lent : IsSync (param 0 g.row.R) = search (c, sendable) in
    let noted : IsSync (param 3 g.row.N) = search (c, sendable) in
    param_send 3 _ (arg_send _ no _ (asked _ (param 0 g.row.R) lent _ (param 3 g.row.N) noted))
