use denote.Exit.{no}
use denote.Param.Send.{param_send, arg_send}
use Rattle.informer.proofs.Sent.{lister}
use Rattle.benchmarks.proofs.lister_looks.look_in_threads.Goals as goal

pub map_vec-requires-send-J : goal.map_vec-requires-send-J
map_vec-requires-send-J g c κs within = param_send 1 _ (arg_send _ no _ lister)
