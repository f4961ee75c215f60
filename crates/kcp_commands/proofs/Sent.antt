-- What `kcp all` runs in threads may be sent to them.
use mathlib.Core.List.{[], ◌∷◌}
use mir.Syntax.{Sym}
use denote.Hole.{as_row}
use denote.Param.Send.{IsSend, IsSync, sendable}
use denote.Param.SendFields.{as_row_send, declared_send}
use denote.RattleType.{RattleType}
use denote.Ref.{NamedLft, ShrRef}
use denote.Struct.Field as Field
use denote.Struct.Tuple.{TupleAt, type_at}
use Rattle.std.proofs.Crossing as heap
use Rattle.std.specs.contracts.alloc.Global as Global
use Rattle.std.specs.contracts.impls.GlobalAllocator.TheImpl.{ghosts}
use Rattle.std.specs.contracts.net.tcp.TcpStream as TcpStream
use Rattle.std.specs.contracts.vec.Vec as Vec
use Rattle.std.specs.declared.sync.ledger.Ledger.{Ghosts}
use Rattle.desk.specs.contracts.askings.Readable as Readable
use Rattle.desk.specs.contracts.askings.ReadableAsking.TheImpl as asks
use Rattle.desk.specs.contracts.seats.Seat as Seat
use Rattle.http_event_loop.specs.contracts.event_loop.EventLoop as EventLoop
use Rattle.http_event_loop.specs.contracts.loops.Loops as Loops
use Rattle.http_event_loop.proofs.Sent.{event_loop, shared}
use Rattle.kcp_loopback.proofs.Sent.{Reading, Seated, connector, own_server, reading, seat, seated_loop}
use Rattle.kcp_loopback.specs.contracts.ringing.Ringer as Ringer
use Rattle.kcp_loopback.specs.contracts.connecting.LoopbackConnector as Connector
use Rattle.kcp_loopback.specs.contracts.own_server.OwnServer as OwnServer
use Rattle.manager.proofs.running.Apis.TheSendSync as apis_of
use Rattle.manager_worker.proofs.signals.Signals.TheSendSync as signals
use Rattle.manager_worker.specs.contracts.signals.Signals as Signals
use Rattle.kcp_commands.specs.contracts.parts.Answering as Answering
use Rattle.kcp_commands.specs.contracts.parts.Controllers as Controllers

alloc : IsSend (as_row Global.the_field)
alloc = search (heap.send, sendable)

-- a loop whose parts are lent for different times
module _ (a b d : NamedLft) (R : RattleType) (r : IsSync R) (L : RattleType) (k : Ghosts L.Denot) where
  lent_loops : IsSend (as_row (Field.shr_ref_field d Loops.the_row tt))
  lent_loops = search (shared, sendable)

  ringer : IsSend (Ringer.the_row d)
  ringer = declared_send (Ringer.the_type d) (lent_loops, (search (heap.crosses, sendable) depth 20, tt))

  pub looping : IsSend (EventLoop.the_row a (Seat.the_row b Readable.the_row (Ringer.the_row d) R asks.ghosts) L k)
  looping = event_loop a (Seat.the_row b Readable.the_row (Ringer.the_row d) R asks.ghosts) L k (seat b (Ringer.the_row d) R ringer r)

module _ (a : NamedLft) (R : RattleType) (r : IsSync R) where
  runtime : IsSend (as_row (Field.row_field (ShrRef a.mir a.lft R)))
  runtime = search (r, sendable)

  lent_signals : IsSend (as_row (Field.shr_ref_field a Signals.the_row tt))
  lent_signals = search (signals.the_sync, heap.crosses, sendable) depth 20

  shared_loops : IsSend (as_row (Field.shr_ref_field a Loops.the_row tt))
  shared_loops = search (shared, sendable)

  module _ (L : RattleType) (k : Ghosts L.Denot) where
    event_loops : IsSend (as_row (Vec.the_field (EventLoop.the_row a (Seated a R r) L k) Global.the_row ghosts))
    event_loops = as_row_send (Vec.the_field (EventLoop.the_row a (Seated a R r) L k) Global.the_row ghosts) (heap.Vec-send (EventLoop.the_row a (Seated a R r) L k) (seated_loop a R r L k))

    answering : IsSend (Answering.the_row a R L k)
    answering = declared_send (Answering.the_type a R L k) (runtime, (event_loops, (lent_signals, tt)))

    -- what the closure captures that runs them
    pub captured_answering : (name : Sym) → IsSend (TupleAt name (Answering.the_row a R L k ∷ []))
    captured_answering name = declared_send (type_at name (Answering.the_row a R L k ∷ [])) (as_row_send (Field.row_field (Answering.the_row a R L k)) answering, tt)

  -- how the server of this process is asked, where its lifetimes are b and d
  module _ (b d : NamedLft) where
    own : IsSend (OwnServer.the_row b R (Connector.the_row d R) (Reading d R r) TcpStream.the_row)
    own = own_server b R r (Connector.the_row d R) (Reading d R r) TcpStream.the_row (connector d R r) (reading d R r)

    abbrev Own : RattleType
    Own = Controllers.the_row a R (OwnServer.the_row b R (Connector.the_row d R) (Reading d R r) TcpStream.the_row)

    controllers : IsSend Own
    controllers = declared_send (Controllers.the_type a R (OwnServer.the_row b R (Connector.the_row d R) (Reading d R r) TcpStream.the_row)) (runtime, (alloc, (apis_of.the_send (OwnServer.the_row b R (Connector.the_row d R) (Reading d R r) TcpStream.the_row) own, (lent_signals, (shared_loops, tt)))))

    -- what the closure captures that runs them
    pub captured_controllers : (name : Sym) → IsSend (TupleAt name (Controllers.the_row a R (OwnServer.the_row b R (Connector.the_row d R) (Reading d R r) TcpStream.the_row) ∷ []))
    captured_controllers name = declared_send (type_at name (Own ∷ [])) (as_row_send (Field.row_field Own) controllers, tt)
