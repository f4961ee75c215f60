-- The server of an environment may be sent to a thread.
use denote.Hole.{as_row}
use denote.Param.Send.{IsSend, IsSync, sendable}
use denote.Param.SendFields.{declared_send, declared_sync}
use denote.RattleType.{RattleType}
use denote.Ref.{NamedLft, ShrRef}
use denote.Struct.Field as Field
use Rattle.std.proofs.Crossing as heap
use Rattle.std.specs.contracts.alloc.Global as Global
use Rattle.std.specs.contracts.sync.atomic.AtomicU64 as AtomicU64
use Rattle.wakeups.proofs.bell.Bell.TheSendSync as bell
use Rattle.wakeups.specs.contracts.bell.Bell as Bell
use Rattle.wakeups.proofs.stop.Stop.TheSendSync as stop
use Rattle.wakeups.specs.contracts.stop.Stop as Stop
use Rattle.desk.proofs.Sent.{readable_desk, pass_field}
use Rattle.desk.specs.contracts.askings.Readable as Readable
use Rattle.desk.specs.contracts.askings.ReadableAsking.TheImpl as asks
use Rattle.desk.specs.contracts.desks.Desk as Desk
use Rattle.desk.specs.contracts.seats.Seat as Seat
use Rattle.manager_worker.proofs.signals.Signals.TheSendSync as signals
use Rattle.manager_worker.specs.contracts.signals.Signals as Signals
use Rattle.threads_tests.proofs.watches.Watch.TheSendSync as watch
use Rattle.threads_tests.specs.contracts.environments.Environment as Environment
use Rattle.threads_tests.specs.contracts.ringers.BellRinger as Ringer
use Rattle.threads_tests.specs.contracts.servers.SharedServer as SharedServer
use Rattle.threads_tests.specs.contracts.watches.Watch as Watch

pub alloc : IsSend (as_row Global.the_field)
alloc = search (heap.send, sendable)

watched : IsSend (as_row Watch.the_field)
watched = search (watch.the_field_send, heap.crosses, sendable) depth 20

shared_signals : IsSync (as_row Signals.the_field)
shared_signals = search (signals.the_field_sync, heap.crosses, sendable) depth 20

shared_bell : IsSync (as_row Bell.the_field)
shared_bell = search (bell.the_field_sync, heap.crosses, sendable) depth 20

counter : IsSync (as_row AtomicU64.the_field)
counter = search (heap.crosses, sendable) depth 20

environment : IsSync Environment.the_row
environment = declared_sync Environment.the_type (readable_desk, (shared_signals, (shared_bell, (counter, (counter, (counter, (counter, tt)))))))

module _ (a : NamedLft) (R : RattleType) (r : IsSync R) where
  pub runtime : IsSend (as_row (Field.row_field (ShrRef a.mir a.lft R)))
  runtime = search (r, sendable)

  lent_desk : IsSend (as_row (Field.shr_ref_field a (Desk.the_row Readable.the_row asks.ghosts) tt))
  lent_desk = search (readable_desk, sendable)

  ringer : IsSend (Ringer.the_row a)
  ringer = search (heap.crosses, sendable) depth 20

  listener : IsSend (as_row (Field.row_field (Ringer.the_row a)))
  listener = search (ringer, sendable)

  seat : IsSend (Seat.the_row a Readable.the_row (Ringer.the_row a) R asks.ghosts)
  seat = declared_send (Seat.the_type a Readable.the_row (Ringer.the_row a) R asks.ghosts) (lent_desk, (pass_field, (runtime, (listener, tt))))

  lent_environment : IsSend (as_row (Field.shr_ref_field a Environment.the_row tt))
  lent_environment = search (environment, sendable)

  lent_stop : IsSend (as_row (Field.shr_ref_field a Stop.the_row tt))
  lent_stop = search (stop.the_sync, heap.crosses, sendable) depth 20

  pub server : IsSend (SharedServer.the_row a R)
  server = declared_send (SharedServer.the_type a R) (runtime, (alloc, (seat, (lent_environment, (lent_stop, (watched, tt))))))
