use denote.Exit.{no}
use denote.Param.{param}
use denote.Param.Send.{IsSync, sendable, param_send, arg_send}
use Rattle.benchmarks.proofs.Sent.{captured}
use Rattle.benchmarks.proofs.lister_looks.look_while.Goals as goal

pub join-looks-requires-send-F : goal.join-looks-requires-send-F
join-looks-requires-send-F g c κs within =
    let lent : IsSync (param 0 g.row.R) = search (c, sendable) in
    param_send 1 _ (arg_send _ no _ (captured _ _ _ _ (param 0 g.row.R) lent))
