-- What the closures of threads capture is lent to them.
use denote.Struct.Field as Field
use denote.Hole.{as_row}
use mathlib.Core.List.{List, [], ◌∷◌}
use mir.Syntax.{Sym}
use denote.Param.Send.{IsSync, sendable, shr_sync}
use denote.Ref.{NamedLft, ShrRef}
use denote.RattleType.{RattleType}
use denote.Struct.Tuple.{TupleAt, type_at}
use denote.Param.SendFields.{declared_sync, as_row_sync}
use Rattle.std.proofs.Crossing as heap
use Rattle.std.specs.contracts.alloc.Global as Global
use Rattle.std.specs.contracts.sync.atomic.AtomicU64 as AtomicU64
use Rattle.desk.specs.contracts.askings.Anything as Anything
use Rattle.desk.specs.contracts.askings.AnythingAsking.TheImpl as asks
use Rattle.desk.specs.contracts.desks.Desk as Desk
use Rattle.desk.proofs.Sent.{desk}

counter : IsSync AtomicU64.the_row
counter = search (heap.crosses, sendable) depth 20

allocator : IsSync Global.the_row
allocator = search (heap.sync, sendable)

lent : (a : NamedLft) (R : RattleType) → IsSync R → IsSync (as_row (Field.row_field (ShrRef a.mir a.lft R)))
lent a R s = as_row_sync (Field.row_field (ShrRef a.mir a.lft R)) (shr_sync a.mir a.lft R s)

-- what a closure captures that creates in threads
module _ (name : Sym) (a b c d e : NamedLft) (R : RattleType) (r : IsSync R) where
  abbrev captures : List RattleType
  captures = ShrRef a.mir a.lft AtomicU64.the_row ∷ ShrRef b.mir b.lft R ∷ ShrRef c.mir c.lft Global.the_row ∷ ShrRef d.mir d.lft (Desk.the_row Anything.the_row asks.ghosts) ∷ ShrRef e.mir e.lft AtomicU64.the_row ∷ []

  pub captured : IsSync (TupleAt name captures)
  captured = declared_sync (type_at name captures) (lent a AtomicU64.the_row counter, (lent b R r, (lent c Global.the_row allocator, (lent d (Desk.the_row Anything.the_row asks.ghosts) desk, (lent e AtomicU64.the_row counter, tt)))))
