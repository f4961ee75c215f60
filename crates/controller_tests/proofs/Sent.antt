-- What the closures of threads capture may be sent.
use denote.RattleType.{RattleType}
use mathlib.Core.List.{List, [], ◌∷◌}
use mir.Syntax.{Sym}
use denote.Hole.{as_row}
use denote.Ref.{NamedLft, ShrRef}
use denote.Param.Send.{IsSend, IsSync, sendable, shr_send}
use denote.Param.SendFields.{as_row_send, declared_send}
use denote.Struct.Field.{row_field}
use denote.Struct.Tuple.{TupleAt, type_at}
use Rattle.std.proofs.Crossing as heap
use Rattle.std.specs.contracts.sync.atomic.AtomicU64 as AtomicU64
use Rattle.informer.proofs.Sent.{lister}
use Rattle.informer.specs.contracts.listers.Lister as Lister

counter : IsSync AtomicU64.the_row
counter = search (heap.crosses, sendable) depth 20

-- what a closure captures that looks: a lister, and whether all is published
module _ (name : Sym) (a : NamedLft) where
  abbrev captures : List RattleType
  captures = Lister.the_row ∷ ShrRef a.mir a.lft AtomicU64.the_row ∷ []

  pub captured : IsSend (TupleAt name captures)
  captured = declared_send (type_at name captures) (as_row_send (row_field Lister.the_row) lister, (as_row_send (row_field (ShrRef a.mir a.lft AtomicU64.the_row)) (shr_send a.mir a.lft AtomicU64.the_row counter), tt))
