use mir.Syntax.{named}
use denote.Exit.{no}
use denote.Param.Send.{param_send, arg_send}
use Rattle.controller_tests.proofs.Sent.{captured}
use Rattle.controller_tests.proofs.looking_tests.look_while.Goals as goal

pub join-requires-send-F : goal.join-requires-send-F
join-requires-send-F g c κs within = param_send 1 _ (arg_send _ no _ (captured _ _))
