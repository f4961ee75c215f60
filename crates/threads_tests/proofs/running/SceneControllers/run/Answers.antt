-- The server of an environment may be sent to a thread.
use denote.Exit.{no}
use denote.Param.{param}
use denote.Param.Send.{IsSync, sendable, param_send, arg_send}
use Rattle.threads_tests.proofs.servers.Sent.{server}
use Rattle.threads_tests.proofs.running.SceneControllers.run.Goals as goal

pub run-requires-send-A : goal.run-requires-send-A
run-requires-send-A g c κs within =
    let lent : IsSync (param 0 g.row.R) = search (c, sendable) in
    param_send 1 _ (arg_send _ no _ (server _ (param 0 g.row.R) lent))
