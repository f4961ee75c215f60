-- What a closure captures that looks in threads may be sent.
use denote.RattleType.{RattleType}
use mathlib.Core.List.{List, [], ◌∷◌}
use mir.Syntax.{Sym}
use denote.Hole.{as_row}
use denote.Ref.{NamedLft, ShrRef}
use denote.Param.Send.{IsSend, IsSync, sendable, shr_send}
use denote.Param.SendFields.{as_row_send, declared_send}
use denote.Struct.Field.{row_field}
use denote.Struct.Tuple.{TupleAt, type_at}
use Rattle.std.proofs.Crossing as heap
use Rattle.std.proofs.MapsCrossing as maps
use Rattle.std.specs.contracts.alloc.Global as Global
use Rattle.std.specs.contracts.impls.GlobalAllocator.TheImpl.{ghosts}
use Rattle.std.specs.contracts.sync.atomic.AtomicU64 as AtomicU64
use Rattle.std.specs.contracts.vec.Vec as Vec
use Rattle.object_keys.proofs.key.Key.TheSendSync as key_of
use Rattle.benchmarks.proofs.lister_looks.Wanted.TheSendSync as wanted_of
use Rattle.benchmarks.specs.contracts.lister_looks.Wanted as Wanted
use Rattle.informer.proofs.Sent.{lister}
use Rattle.informer.specs.contracts.listers.Lister as Lister

counter : IsSync AtomicU64.the_row
counter = search (heap.crosses, sendable) depth 20

wanted : IsSync Wanted.the_row
wanted = search (wanted_of.the_sync, key_of.the_sync, heap.crosses, maps.crosses, sendable) depth 30

lent : (a : NamedLft) (R : RattleType) → IsSync R → IsSend (as_row (row_field (ShrRef a.mir a.lft R)))
lent a R s = as_row_send (row_field (ShrRef a.mir a.lft R)) (shr_send a.mir a.lft R s)

abbrev Listers : RattleType
Listers = Vec.the_row Lister.the_row Global.the_row ghosts

listers : IsSend Listers
listers = heap.Vec-send Lister.the_row lister

module _ (name : Sym) (a b c : NamedLft) (R : RattleType) (r : IsSync R) where
  abbrev captures : List RattleType
  captures = ShrRef a.mir a.lft R ∷ Listers ∷ ShrRef b.mir b.lft Wanted.the_row ∷ ShrRef c.mir c.lft AtomicU64.the_row ∷ []

  pub captured : IsSend (TupleAt name captures)
  captured = declared_send (type_at name captures) (lent a R r, (as_row_send (row_field Listers) listers, (lent b Wanted.the_row wanted, (lent c AtomicU64.the_row counter, tt))))
