use Rattle.std.proofs.Common.{map, drop}
use Rattle.indexer.specs.Shifted.{shift_of}
use Rattle.reconciler.proofs.OwedSoFar.{AreOwedSoFar}
use Rattle.reconciler.proofs.owing.owed.Given as goal

abbrev pub invariant-loop-change : goal.invariant-loop-change
invariant-loop-change g l = AreOwedSoFar (g.C.Reconciler.owes l.shown) (map shift_of l.changes) (map shift_of (drop l.change-index l.changes)) l.keys.items
