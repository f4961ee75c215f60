-- A desk may be lent to threads, and a pass sent to one.
use denote.Struct.Field.{usize-field}
use denote.Hole.{as_row}
use denote.Param.Send.{IsSend, IsSync, sendable}
use denote.Param.SendFields.{declared_sync, as_row_sync, as_row_send}
use Rattle.std.specs.contracts.option.Option as Option
use Rattle.std.proofs.option.Option.TheSendSync as option
use Rattle.crossbeam_queue.below.atomic_table.proofs.shared.Seat.TheSendSync as pass_of
use Rattle.crossbeam_queue.below.atomic_table.specs.contracts.shared.Seat as Pass
use Rattle.crossbeam_queue.specs.contracts.array_queue.Doing as Doing
use Rattle.baton.proofs.batons.Baton.TheSendSync as baton_of
use Rattle.baton.specs.contracts.batons.Baton as Baton
use Rattle.baton.specs.contracts.views.PassView as View
use Rattle.server.specs.contracts.servers.Server as Server
use Rattle.server.proofs.Sent.{server}
use Rattle.desk.specs.contracts.askings.Anything as Anything
use Rattle.desk.specs.contracts.askings.AnythingAsking.TheImpl as asks
use Rattle.desk.specs.contracts.askings.Readable as Readable
use Rattle.desk.specs.contracts.askings.ReadableAsking.TheImpl as reads
use Rattle.desk.specs.contracts.desks.Desk as Desk
use Rattle.desk.specs.contracts.entries.StoreEntry as Entry
use Rattle.desk.specs.contracts.store_law.StoreLaw as StoreLaw
use Rattle.desk.specs.contracts.store_law.StoreLawLawServer.TheImpl as laws

size : IsSync (as_row usize-field)
size = search sendable

pub desk : IsSync (Desk.the_row Anything.the_row asks.ghosts)
desk =
    let field = Baton.the_field Server.the_row (StoreLaw.the_row Anything.the_row) Entry.the_row (laws.ghosts Anything.the_row asks.ghosts laws.no_dict) in
    declared_sync (Desk.the_type Anything.the_row asks.ghosts) (as_row_sync field (baton_of.the_field_sync Server.the_row (StoreLaw.the_row Anything.the_row) Entry.the_row (laws.ghosts Anything.the_row asks.ghosts laws.no_dict) server), (size, tt))

pub readable_desk : IsSync (Desk.the_row Readable.the_row reads.ghosts)
readable_desk =
    let field = Baton.the_field Server.the_row (StoreLaw.the_row Readable.the_row) Entry.the_row (laws.ghosts Readable.the_row reads.ghosts laws.no_dict) in
    declared_sync (Desk.the_type Readable.the_row reads.ghosts) (as_row_sync field (baton_of.the_field_sync Server.the_row (StoreLaw.the_row Readable.the_row) Entry.the_row (laws.ghosts Readable.the_row reads.ghosts laws.no_dict) server), (size, tt))

taken : IsSend (Option.the_row Server.the_row)
taken = search (option.the_send, server, sendable) depth 20

pub pass : IsSend (Pass.the_row (Option.the_row Server.the_row) (Doing.the_row Server.the_row (View.the_row Server.the_row Entry.the_row)))
pass = pass_of.the_send (Option.the_row Server.the_row) (Doing.the_row Server.the_row (View.the_row Server.the_row Entry.the_row)) taken

-- the same as a part of a struct
pub pass_field : IsSend (as_row (Pass.the_field (Option.the_row Server.the_row) (Doing.the_row Server.the_row (View.the_row Server.the_row Entry.the_row))))
pass_field = as_row_send (Pass.the_field (Option.the_row Server.the_row) (Doing.the_row Server.the_row (View.the_row Server.the_row Entry.the_row))) pass
