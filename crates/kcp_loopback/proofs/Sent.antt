-- The loops that answer connections, and what opens them, may be sent to a thread.
use denote.Hole.{as_row}
use denote.Param.Send.{IsSend, IsSync, sendable}
use denote.Param.SendFields.{declared_send}
use Rattle.std.proofs.Crossing as heap
use Rattle.desk.specs.contracts.desks.Desk as Desk
use Rattle.desk.specs.contracts.askings.Readable as Readable
use Rattle.desk.specs.contracts.askings.ReadableAsking.TheImpl as asks
use denote.RattleType.{RattleType}
use denote.Ref.{NamedLft, ShrRef}
use denote.Struct.Field as Field
use Rattle.desk.specs.contracts.seats.Seat as Seat
use Rattle.std.proofs.MapsCrossing as maps
use Rattle.std.specs.contracts.alloc.Global as Global
use Rattle.wakeups.proofs.stop.Stop.TheSendSync as stop
use Rattle.wakeups.specs.contracts.stop.Stop as Stop
use Rattle.request_parts.below.matchit.proofs.route.Route.TheSendSync as route
use Rattle.request_parts.below.matchit.proofs.tree.Node.TheLaws.TheKnot as knot
use Rattle.request_parts.below.slab.proofs.Entry.TheSendSync as place
use Rattle.request_parts.below.slab.proofs.Slab.TheSendSync as slab
use Rattle.request_parts.proofs.entries.RouteEntry.TheSendSync as entry
use Rattle.request_parts.specs.contracts.table.Routes as Routes
use Rattle.kcp_loopback.specs.contracts.ringing.Ringer as Ringer
use Rattle.kcp_loopback.specs.contracts.connecting.LoopbackConnector as Connector
use Rattle.kcp_loopback.specs.contracts.heard.Heard as Heard
use Rattle.kcp_loopback.specs.contracts.telling.Teller as Teller
use Rattle.kcp_loopback.specs.contracts.other_server.OtherServer as OtherServer
use Rattle.kcp_loopback.specs.contracts.own_server.OwnServer as OwnServer
use Rattle.kcp_loopback.proofs.reach.Reach.TheSendSync as reach_of
use Rattle.kcp_loopback.specs.contracts.reach.Reach as Reach
use Rattle.tcp_client.proofs.patient.Patient.TheSendSync as patient
use Rattle.tcp_client.specs.contracts.patient.Patient as Patient
use Rattle.api_client.proofs.asking.Remote.TheSendSync as remote_of
use Rattle.api_client.specs.contracts.asking.Remote as Remote
use Rattle.std.proofs.io.buffered.BufReader.TheSendSync as buffered
use Rattle.std.proofs.net.tcp.TcpStream.TheSendSync as stream
use Rattle.std.specs.contracts.io.buffered.BufReader as BufReader
use Rattle.std.specs.contracts.net.tcp.TcpStream as TcpStream
use Rattle.std.specs.contracts.impls.GlobalAllocator.TheImpl.{ghosts}
use Rattle.std.specs.declared.sync.ledger.Ledger.{Ghosts}
use Rattle.http_event_loop.proofs.Sent.{event_loop, shared}
use Rattle.http_event_loop.specs.contracts.event_loop.EventLoop as EventLoop
use Rattle.http_event_loop.specs.contracts.loops.Loops as Loops
use Rattle.desk.proofs.Sent.{readable_desk, pass_field}

-- a seat, where its listener may be sent, and its runtime lent
module _ (a : NamedLft) (L R : RattleType) (l : IsSend L) (r : IsSync R) where
  lent_desk : IsSend (as_row (Field.shr_ref_field a (Desk.the_row Readable.the_row asks.ghosts) tt))
  lent_desk = search (readable_desk, sendable)

  lent_runtime : IsSend (as_row (Field.row_field (ShrRef a.mir a.lft R)))
  lent_runtime = search (r, sendable)

  listener : IsSend (as_row (Field.row_field L))
  listener = search (l, sendable)

  pub seat : IsSend (Seat.the_row a Readable.the_row L R asks.ghosts)
  seat = declared_send (Seat.the_type a Readable.the_row L R asks.ghosts) (lent_desk, (pass_field, (lent_runtime, (listener, tt))))

alloc : IsSend (as_row Global.the_field)
alloc = search (heap.send, sendable)

routes : IsSend (as_row Routes.the_field)
routes = search (knot.crosses, route.the_send, place.the_send, place.the_field_send, slab.the_send, entry.the_send, heap.crosses, maps.crosses, sendable) depth 60 fits 20000

module _ (a : NamedLft) (R : RattleType) (r : IsSync R) where
  lent_loops : IsSend (as_row (Field.shr_ref_field a Loops.the_row tt))
  lent_loops = search (shared, sendable)

  ringer : IsSend (Ringer.the_row a)
  ringer = declared_send (Ringer.the_type a) (lent_loops, (search (heap.crosses, sendable) depth 20, tt))

  runtime : IsSend (as_row (Field.row_field (ShrRef a.mir a.lft R)))
  runtime = search (r, sendable)

  lent_stop : IsSend (as_row (Field.shr_ref_field a Stop.the_row tt))
  lent_stop = search (stop.the_sync, heap.crosses, sendable) depth 20

  -- the seat of a loop
  abbrev pub Seated : RattleType
  Seated = Seat.the_row a Readable.the_row (Ringer.the_row a) R asks.ghosts

  pub seated_loop : (L : RattleType) → (k : Ghosts L.Denot) → IsSend (EventLoop.the_row a Seated L k)
  seated_loop L k = event_loop a Seated L k (seat a (Ringer.the_row a) R ringer r)

  port : IsSend (as_row Field.u16-field)
  port = search (sendable)

  lent_reach : IsSend (as_row (Field.shr_ref_field a Reach.the_row tt))
  lent_reach = search (reach_of.the_sync, heap.crosses, sendable) depth 20

  pub connector : IsSend (Connector.the_row a R)
  connector = declared_send (Connector.the_type a R) (runtime, (alloc, (port, (lent_stop, (lent_reach, tt)))))

  teller : IsSend (Teller.the_row a R)
  teller = declared_send (Teller.the_type a R) (runtime, (alloc, (port, (lent_reach, tt))))

  module _ (S : RattleType) (s : IsSend S) where
    heard_stream : IsSend (as_row (Field.row_field S))
    heard_stream = search (s, sendable)

    heard : IsSend (Heard.the_row a R S)
    heard = declared_send (Heard.the_type a R S) (heard_stream, (teller, (search (heap.crosses, sendable), tt)))

  -- what reads a connection
  abbrev pub Reading : RattleType
  Reading = BufReader.the_row (Heard.the_row a R (Patient.the_row a R TcpStream.the_row)) Global.the_row ghosts

  pub reading : IsSend Reading
  reading =
      buffered.the_send (Heard.the_row a R (Patient.the_row a R TcpStream.the_row)) Global.the_row ghosts
      (heard (Patient.the_row a R TcpStream.the_row) (patient.the_send a R TcpStream.the_row stream.the_send r)) heap.send heap.frees

  -- what asks over connections
  abbrev pub Asked : RattleType
  Asked = Remote.the_row (Connector.the_row a R) Reading TcpStream.the_row

  pub asked : IsSend Asked
  asked = remote_of.the_send (Connector.the_row a R) Reading TcpStream.the_row connector reading

  module _ (C I O : RattleType) (c : IsSend C) (i : IsSend I) where
    pub own_server : IsSend (OwnServer.the_row a R C I O)
    own_server = declared_send (OwnServer.the_type a R C I O) (runtime, (routes, (seat a (Ringer.the_row a) R ringer r, (remote_of.the_send C I O c i, tt))))

  module _ (A : RattleType) (s : IsSend A) where
    api : IsSend (as_row (Field.row_field A))
    api = search (s, sendable)

    flag : IsSend (as_row Field.bool-field)
    flag = search (sendable)

    pub other_server : IsSend (OtherServer.the_row a R A)
    other_server = declared_send (OtherServer.the_type a R A) (connector, (api, (flag, tt)))
