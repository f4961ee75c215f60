-- What runs a loop may be sent to a thread, and what loops share lent to all.
use denote.Hole.{as_row}
use denote.Param.Send.{IsSend, IsSync, sendable}
use denote.Param.SendFields.{declared_send}
use denote.RattleType.{RattleType}
use denote.Ref.{NamedLft}
use denote.Struct.Field as Field
use Rattle.std.proofs.Crossing as heap
use Rattle.std.proofs.MapsCrossing as maps
use Rattle.std.specs.contracts.alloc.Global as Global
use Rattle.std.specs.declared.sync.ledger.Ledger.{Ghosts}
use Rattle.request_parts.below.matchit.proofs.route.Route.TheSendSync as route
use Rattle.request_parts.below.matchit.proofs.tree.Node.TheLaws.TheKnot as knot
use Rattle.request_parts.below.slab.proofs.Entry.TheSendSync as place
use Rattle.request_parts.below.slab.proofs.Slab.TheSendSync as slab
use Rattle.request_parts.proofs.entries.RouteEntry.TheSendSync as entry
use Rattle.request_parts.specs.contracts.table.Routes as Routes
use Rattle.mio.proofs.poll.Poll.TheSendSync as poll_of
use Rattle.http_event_loop.proofs.accepting.Accepting.TheSendSync as accepting_of
use Rattle.http_event_loop.proofs.asker.Asker.TheSendSync as asker_of
use Rattle.http_event_loop.proofs.loops.Loops.TheSendSync as loops_of
use Rattle.http_event_loop.specs.contracts.asker.Asker as Asker
use Rattle.http_event_loop.specs.contracts.event_loop.EventLoop as EventLoop
use Rattle.http_event_loop.specs.contracts.loops.Loops as Loops

alloc : IsSend (as_row Global.the_field)
alloc = search (heap.send, sendable)

routes : IsSend (as_row Routes.the_field)
routes = search (knot.crosses, route.the_send, place.the_send, place.the_field_send, slab.the_send, entry.the_send, heap.crosses, maps.crosses, sendable) depth 60 fits 20000

pub shared : IsSync Loops.the_row
shared = loops_of.the_sync

module _ (a : NamedLft) (S L : RattleType) (k : Ghosts L.Denot) (s : IsSend S) where
  asker : IsSend (as_row (Asker.the_field a S L k))
  asker = search (asker_of.the_send, s, heap.crosses, sendable)

  lent_loops : IsSend (as_row (Field.shr_ref_field a Loops.the_row tt))
  lent_loops = search (loops_of.the_sync, sendable)

  pub event_loop : IsSend (EventLoop.the_row a S L k)
  event_loop = declared_send (EventLoop.the_type a S L k)
      (asker, (alloc, (routes, (lent_loops, (search (sendable), (search (poll_of.the_send, heap.crosses, sendable), (search (accepting_of.the_send, heap.crosses, sendable) depth 30, tt)))))))
