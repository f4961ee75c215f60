-- What the threads of a manager do may be sent to them.
use mathlib.Core.List.{[], ◌∷◌}
use denote.RattleType.{RattleType}
use denote.Hole.{as_row}
use denote.Ref.{NamedLft, ShrRef}
use denote.Struct.Field as Field
use denote.Struct.Field.{usize-field, u64-field}
use denote.Param.Send.{IsSend, IsSync, sendable, view_send}
use denote.Param.SendFields.{VariantsHave, declared_send, variants_send, as_row_send}
use Rattle.core.specs.declared.sync.Wait as Wait
use Rattle.std.proofs.Crossing as heap
use Rattle.std.proofs.option.Option.TheSendSync as option
use Rattle.std.specs.contracts.alloc.Global as Global
use Rattle.std.specs.contracts.option.Option as Option
use Rattle.crossbeam_queue.below.atomic_table.proofs.shared.Seat.TheSendSync as pass_of
use Rattle.crossbeam_queue.below.atomic_table.specs.contracts.shared.Seat as Pass
use Rattle.crossbeam_queue.specs.contracts.array_queue.Doing as Doing
use Rattle.baton.specs.contracts.views.PassView as View
use Rattle.control_desk.proofs.states.WorkState.TheSendSync as state
use Rattle.control_desk.specs.contracts.states.WorkState as WorkState
use Rattle.spec_api.proofs.kinds.Kind.TheSendSync as kind
use Rattle.spec_api.specs.contracts.kinds.Kind as Kind
use Rattle.list_and_watch.specs.contracts.follower.Follower as Follower
use Rattle.list_and_watch.specs.contracts.follower.Follower.TheInside as FollowerInside
use Rattle.indexer.specs.contracts.indexed.Indexed as Indexed
use Rattle.informer.proofs.Sent.{lister, indexed_send, reflector_send, shared_informer}
use Rattle.informer.specs.contracts.listers.Lister as Lister
use Rattle.informer.specs.contracts.shared.SharedInformer as SharedInformer
use Rattle.informer.specs.contracts.shared.SharedInformerPublishing.TheImpl as publishes
use Rattle.reflector.specs.contracts.reflectors.Reflector as Reflector
use Rattle.control_desk.proofs.desks.ControlDesk.TheSendSync as desk
use Rattle.control_desk.specs.contracts.desks.ControlDesk as ControlDesk
use Rattle.control_desk.specs.contracts.entries.WorkEntry as Entry
use Rattle.object_keys.proofs.per_kind.PerKind.TheSendSync as per_kind_of
use Rattle.object_keys.specs.contracts.per_kind.PerKind as PerKind
use Rattle.manager_worker.proofs.signals.Signals.TheSendSync as signals
use Rattle.manager_worker.proofs.working.Worker.TheSendSync as worker_of
use Rattle.manager_worker.specs.contracts.signals.Signals as Signals
use Rattle.manager_worker.specs.contracts.working.Worker as Worker
use Rattle.manager.proofs.ticking.Ticker.TheSendSync as ticker_of
use Rattle.manager.specs.contracts.handler.Handler as Handler
use Rattle.informer.specs.contracts.kind_listers.Listers as Listers
use Rattle.manager.specs.contracts.members.ManagerThread as Member
use Rattle.manager.specs.contracts.reflecting.Reflecting as Reflecting
use Rattle.manager.specs.contracts.ticking.Ticker as Ticker

listers : IsSend Listers.the_row
listers = declared_send Listers.the_type (per_kind_of.the_send Lister.the_row lister, tt)

taken : IsSend (Option.the_row WorkState.the_row)
taken = search (option.the_send, state.the_send, sendable) depth 20

pass : IsSend (as_row (Pass.the_field (Option.the_row WorkState.the_row) (Doing.the_row WorkState.the_row (View.the_row WorkState.the_row Entry.the_row))))
pass = as_row_send (Pass.the_field (Option.the_row WorkState.the_row) (Doing.the_row WorkState.the_row (View.the_row WorkState.the_row Entry.the_row)))
    (pass_of.the_send (Option.the_row WorkState.the_row) (Doing.the_row WorkState.the_row (View.the_row WorkState.the_row Entry.the_row)) taken)

maps : IsSend (Option.the_row (PerKind.the_row Indexed.the_row))
maps = option.the_send (PerKind.the_row Indexed.the_row) (per_kind_of.the_send Indexed.the_row indexed_send)

alloc : IsSend (as_row Global.the_field)
alloc = search (heap.send, sendable)

kind_sent : IsSend (as_row Kind.the_field)
kind_sent = search (kind.the_field_send, sendable)

size : IsSend (as_row usize-field)
size = search sendable

revision : IsSend (as_row u64-field)
revision = search sendable

module _ (a : NamedLft) (R : RattleType) (r : IsSync R) where
  runtime : IsSend (as_row (Field.row_field (ShrRef a.mir a.lft R)))
  runtime = search (r, sendable)

  lent_desk : IsSend (as_row (Field.shr_ref_field a ControlDesk.the_row tt))
  lent_desk = search (desk.the_sync, heap.crosses, sendable) depth 20

  lent_signals : IsSend (as_row (Field.shr_ref_field a Signals.the_row tt))
  lent_signals = search (signals.the_sync, heap.crosses, sendable) depth 20

  handler : IsSend (Handler.the_row a R)
  handler = declared_send (Handler.the_type a R) (runtime, (alloc, (kind_sent, (lent_desk, (pass, (lent_signals, (listers, (maps, (size, (size, (revision, tt)))))))))))

  module _ (A : RattleType) (s : IsSend A) (w : Wait.Ghosts R.Denot) where
    api : IsSend (as_row (Field.row_field A))
    api = search (s, sendable)

    follower_inside : IsSend (FollowerInside.the_row (SharedInformer.the_row a R) (publishes.ghosts R w publishes.no_dict))
    follower_inside = declared_send (FollowerInside.the_type (SharedInformer.the_row a R) (publishes.ghosts R w publishes.no_dict))
        (as_row_send Reflector.the_field reflector_send, (as_row_send (Field.row_field (SharedInformer.the_row a R)) (shared_informer a R r), tt))

    follower : IsSend (Follower.the_row (SharedInformer.the_row a R) (publishes.ghosts R w publishes.no_dict))
    follower = search (follower_inside, view_send)

    reflecting : IsSend (Reflecting.the_row a R A w)
    reflecting = declared_send (Reflecting.the_type a R A w)
        (runtime, (alloc, (kind_sent, (lent_signals, (as_row_send (Follower.the_field (SharedInformer.the_row a R) (publishes.ghosts R w publishes.no_dict)) follower, (api, (handler, tt)))))))

    module _ (G : RattleType) (g : IsSync G) where
      works : IsSend (Worker.the_row a R Listers.the_row A G)
      works = worker_of.the_send a R Listers.the_row A G listers s r g

      ticks : IsSend (Ticker.the_row a R)
      ticks = ticker_of.the_send a R r

      does : VariantsHave IsSend ((Reflecting.the_field a R A w ∷ []) ∷ ((Worker.the_field a R Listers.the_row A G ∷ []) ∷ ((Ticker.the_field a R ∷ []) ∷ [])))
      does = ((reflecting, tt), ((works, tt), ((ticks, tt), tt)))

      pub member : IsSend (Member.the_row a R A G w)
      member = variants_send (Member.enum a R A G w) does
