use mir.Syntax.{named}
use denote.Exit.{no}
use denote.Param.{param}
use denote.Param.Send.{IsSync, sendable, param_send, arg_send, param_sync, arg_sync}
use Rattle.desk.proofs.Sent.{pass}
use Rattle.sharing_tests.proofs.Sent.{captured}
use Rattle.sharing_tests.proofs.desk_tests.create_in_threads.Goals as goal

pub map_vec-requires-send-J : goal.map_vec-requires-send-J
map_vec-requires-send-J g c κs within = param_send 1 _ (arg_send _ no _ pass)

pub map_vec-requires-send-X : goal.map_vec-requires-send-X
map_vec-requires-send-X g c κs within = param_send 2 _ (arg_send _ no _ pass)

pub map_vec-requires-sync-F : goal.map_vec-requires-sync-F
map_vec-requires-sync-F g c κs within =
    let lent : IsSync (param 0 g.row.R) = search (c, sendable) in
    param_sync 4 _ (arg_sync _ no _ (captured _ (record { mir = named 7; lft = κs.1.1.1.1.1.1.1.0 }) (record { mir = named 8; lft = κs.1.1.1.1.1.1.1.1.0 }) (record { mir = named 9; lft = κs.1.1.1.1.1.1.1.1.1.0 }) (record { mir = named 10; lft = κs.1.1.1.1.1.1.1.1.1.1.0 }) (record { mir = named 11; lft = κs.1.1.1.1.1.1.1.1.1.1.1.0 }) (param 0 g.row.R) lent))
