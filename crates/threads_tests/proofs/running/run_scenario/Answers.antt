-- The controllers of a scene, which ask the server of its environment, may be sent to a thread.
use mathlib.Core.List.{List, [], ◌∷◌}
use mir.Syntax.{Sym}
use denote.Exit.{no}
use denote.Hole.{as_row}
use denote.Param.{param}
use denote.Param.Send.{IsSend, IsSync, sendable, param_send, arg_send}
use denote.Param.SendFields.{as_row_send, declared_send}
use denote.RattleType.{RattleType}
use denote.Ref.{NamedLft, ShrRef}
use denote.Struct.Field as Field
use denote.Struct.Tuple.{TupleAt, type_at}
use Rattle.std.proofs.Crossing as heap
use Rattle.manager_worker.proofs.signals.Signals.TheSendSync as signals
use Rattle.manager_worker.specs.contracts.signals.Signals as Signals
use Rattle.manager.proofs.running.Apis.TheSendSync as apis_of
use Rattle.threads_tests.specs.contracts.running.SceneControllers as Controllers
use Rattle.threads_tests.specs.contracts.servers.SharedServer as SharedServer
use Rattle.threads_tests.proofs.servers.Sent.{alloc, runtime, server}
use Rattle.threads_tests.proofs.running.run_scenario.Goals as goal

lent_signals : (a : NamedLft) → IsSend (as_row (Field.shr_ref_field a Signals.the_row tt))
lent_signals a = search (signals.the_sync, heap.crosses, sendable) depth 20

module _ (a : NamedLft) (R : RattleType) (r : IsSync R) (b : NamedLft) (G : RattleType) (shared : IsSync G) where
  gate : IsSend (as_row (Field.row_field (ShrRef b.mir b.lft G)))
  gate = search (shared, sendable)

  all : IsSend (Controllers.the_row a b R G)
  all = declared_send (Controllers.the_type a b R G) (runtime a R r, (alloc, (apis_of.the_send (SharedServer.the_row a R) (server a R r), (lent_signals a, (gate, tt)))))

  -- what the closure captures that runs the controllers
  captured : (name : Sym) → IsSend (TupleAt name (Controllers.the_row a b R G ∷ []))
  captured name = declared_send (type_at name (Controllers.the_row a b R G ∷ [])) (as_row_send (Field.row_field (Controllers.the_row a b R G)) all, tt)

pub join-ran-requires-send-F : goal.join-ran-requires-send-F
join-ran-requires-send-F g c κs within =
    let lent : IsSync (param 0 g.row.R) = search (c, sendable) in
    let shared : IsSync (param 1 g.row.G) = search (c, sendable) in
    param_send 1 _ (arg_send _ no _ (captured _ (param 0 g.row.R) lent _ (param 1 g.row.G) shared _))
