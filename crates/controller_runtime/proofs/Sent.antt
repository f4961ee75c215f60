-- What the threads of a run do may be sent to them.
use mathlib.Core.List.{[], ◌∷◌}
use denote.RattleType.{RattleType}
use denote.Hole.{as_row}
use denote.Ref.{NamedLft, ShrRef}
use denote.Struct.Field as Field
use denote.Struct.Field.{u64-field}
use denote.Param.Send.{IsSend, IsSync, sendable, view_send}
use denote.Param.SendFields.{VariantsHave, declared_send, variants_send, as_row_send}
use Rattle.core.specs.declared.sync.Wait as Wait
use Rattle.core.specs.declared.cmp.Ord as ord
use Rattle.core.specs.declared.cmp.Eq as eq
use Rattle.core.specs.declared.cmp.PartialEq as part_eq
use Rattle.core.specs.declared.cmp.PartialOrd as part_ord
use Rattle.std.proofs.Crossing as heap
use Rattle.std.proofs.option.Option.TheSendSync as option
use Rattle.std.specs.contracts.alloc.Global as Global
use Rattle.std.specs.contracts.option.Option as Option
use Rattle.crossbeam_queue.below.atomic_table.proofs.shared.Seat.TheSendSync as pass_of
use Rattle.crossbeam_queue.below.atomic_table.specs.contracts.shared.Seat as Pass
use Rattle.crossbeam_queue.specs.contracts.array_queue.Doing as Doing
use Rattle.baton.specs.contracts.views.PassView as View
use Rattle.spec_api.proofs.kinds.Kind.TheSendSync as kind
use Rattle.spec_api.specs.contracts.kinds.Kind as Kind
use Rattle.list_and_watch.specs.contracts.follower.Follower as Follower
use Rattle.list_and_watch.specs.contracts.follower.Follower.TheInside as FollowerInside
use Rattle.informer.proofs.Sent.{lister, reflector_send, shared_informer}
use Rattle.informer.specs.contracts.listers.Lister as Lister
use Rattle.informer.specs.contracts.kind_listers.Listers as Listers
use Rattle.informer.specs.contracts.shared.SharedInformer as SharedInformer
use Rattle.informer.specs.contracts.shared.SharedInformerPublishing.TheImpl as publishes
use Rattle.reflector.specs.contracts.reflectors.Reflector as Reflector
use Rattle.object_keys.proofs.per_kind.PerKind.TheSendSync as per_kind_of
use Rattle.tcp_client.proofs.stoppable_clock.StoppableClock.TheSendSync as clock_of
use Rattle.tcp_client.specs.contracts.stoppable_clock.StoppableClock as StoppableClock
use Rattle.keyed_queues.specs.declared.named.Named as named
use Rattle.keyed_board.proofs.board.KeyedBoard.TheSendSync as board_of
use Rattle.keyed_board.specs.contracts.board.KeyedBoard as Board
use Rattle.shared_keyed_board.specs.contracts.entries.BoardEntry as Entry
use Rattle.shared_keyed_board.proofs.boards.SharedKeyedBoard.TheSendSync as shared_of
use Rattle.shared_keyed_board.specs.contracts.boards.SharedKeyedBoard as Shared
use Rattle.controller_runtime.proofs.under_way.UnderWay.TheSendSync as under_way_of
use Rattle.controller_runtime.specs.contracts.under_way.UnderWay as UnderWay
use Rattle.controller_runtime.proofs.stopping.Stopper.TheSendSync as stopper_of
use Rattle.controller_runtime.specs.contracts.stopping.Stopper as Stopper
use Rattle.controller_runtime.proofs.ticking.Ticker.TheSendSync as ticker_of
use Rattle.controller_runtime.specs.contracts.ticking.Ticker as Ticker
use Rattle.controller_runtime.specs.contracts.handling.ChangeHandler as Handler
use Rattle.controller_runtime.specs.contracts.following.KindFollower as KindFollower
use Rattle.controller_runtime.specs.contracts.means.Means as Means
use Rattle.controller_runtime.specs.contracts.working.Worker as Worker
use Rattle.controller_runtime.specs.contracts.members.RunThread as RunThread

listers : IsSend Listers.the_row
listers = declared_send Listers.the_type (per_kind_of.the_send Lister.the_row lister, tt)

alloc : IsSend (as_row Global.the_field)
alloc = search (heap.send, sendable)

kind_sent : IsSend (as_row Kind.the_field)
kind_sent = search (kind.the_field_send, sendable)

revision : IsSend (as_row u64-field)
revision = search sendable

module _ (K : RattleType) (n : named.Ghosts K.Denot) (o : ord.Ghosts K.Denot) (q : eq.Ghosts K.Denot) (e : part_eq.Ghosts K.Denot) (p : part_ord.Ghosts K.Denot) (k : IsSend K) where
  abbrev OfKeys : RattleType
  OfKeys = Board.the_row K n o q e p

  board : IsSend OfKeys
  board = search (board_of.the_send, k, sendable) depth 20

  pass : IsSend (as_row (Pass.the_field (Option.the_row OfKeys) (Doing.the_row OfKeys (View.the_row OfKeys (Entry.the_row K n o q e p)))))
  pass = as_row_send (Pass.the_field (Option.the_row OfKeys) (Doing.the_row OfKeys (View.the_row OfKeys (Entry.the_row K n o q e p))))
      (pass_of.the_send (Option.the_row OfKeys) (Doing.the_row OfKeys (View.the_row OfKeys (Entry.the_row K n o q e p))) (option.the_send OfKeys board))

  pub shared : IsSync (Shared.the_row K n o q e p)
  shared = shared_of.the_sync K n o q e p k

  module _ (a : NamedLft) (R : RattleType) (r : IsSync R) where
    runtime : IsSend (as_row (Field.row_field (ShrRef a.mir a.lft R)))
    runtime = search (r, sendable)

    lent_board : IsSend (as_row (Field.shr_ref_field a (Shared.the_row K n o q e p) tt))
    lent_board = search (shared, sendable)

    lent_under_way : IsSend (as_row (Field.shr_ref_field a (UnderWay.the_row a) tt))
    lent_under_way = search (under_way_of.the_sync a, heap.crosses, sendable) depth 20

    clock : IsSend (as_row (StoppableClock.the_field a R))
    clock = as_row_send (StoppableClock.the_field a R) (clock_of.the_field_send a R r)

    ticks : IsSend (Ticker.the_row a R K n o q e p)
    ticks = ticker_of.the_send a R K n o q e p k r

    stops : IsSend (Stopper.the_row a R K n o q e p)
    stops = stopper_of.the_send a R K n o q e p k r

    module _ (C : RattleType) (c : IsSync C) where
      controller : IsSend (as_row (Field.row_field (ShrRef a.mir a.lft C)))
      controller = search (c, sendable)

      handler : IsSend (Handler.the_row a R C K n o q e p)
      handler = declared_send (Handler.the_type a R C K n o q e p) (runtime, (alloc, (controller, (lent_board, (pass, (lent_under_way, (listers, (revision, tt))))))))

      module _ (A : RattleType) (s : IsSend A) (w : Wait.Ghosts R.Denot) where
        api : IsSend (as_row (Field.row_field A))
        api = search (s, sendable)

        means : IsSend (Means.the_row a R C A)
        means = declared_send (Means.the_type a R C A) (runtime, (alloc, (controller, (lent_under_way, (clock, (listers, (api, tt)))))))

        works : IsSend (Worker.the_row a R C K A n o q e p)
        works = declared_send (Worker.the_type a R C K A n o q e p) (pass, (means, tt))

        follower_inside : IsSend (FollowerInside.the_row (SharedInformer.the_row a R) (publishes.ghosts R w publishes.no_dict))
        follower_inside = declared_send (FollowerInside.the_type (SharedInformer.the_row a R) (publishes.ghosts R w publishes.no_dict))
            (as_row_send Reflector.the_field reflector_send, (as_row_send (Field.row_field (SharedInformer.the_row a R)) (shared_informer a R r), tt))

        follower : IsSend (Follower.the_row (SharedInformer.the_row a R) (publishes.ghosts R w publishes.no_dict))
        follower = search (follower_inside, view_send)

        follows : IsSend (KindFollower.the_row a R C K A w n o q e p)
        follows = declared_send (KindFollower.the_type a R C K A w n o q e p)
            (alloc, (kind_sent, (as_row_send (Follower.the_field (SharedInformer.the_row a R) (publishes.ghosts R w publishes.no_dict)) follower, (api, (handler, tt)))))

        does : VariantsHave IsSend ((KindFollower.the_field a R C K A w n o q e p ∷ []) ∷ ((Worker.the_field a R C K A n o q e p ∷ []) ∷ ((Ticker.the_field a R K n o q e p ∷ []) ∷ ((Stopper.the_field a R K n o q e p ∷ []) ∷ []))))
        does = ((follows, tt), ((works, tt), ((ticks, tt), ((stops, tt), tt))))

        pub thread : IsSend (RunThread.the_row a R C K A w n o q e p)
        thread = variants_send (RunThread.enum a R C K A w n o q e p) does
