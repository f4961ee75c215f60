use Rattle.indexer.specs.Shifted.{shift_of}
use Rattle.reconciler.proofs.OwedSoFar.{more_owed, all_owed}
use Rattle.reconciler.proofs.owing.owed.Goals as goal

pub loop-change-preserved : goal.loop-change-preserved
loop-change-preserved g c =
    more_owed (g.C.Reconciler.owes c.args.shown.now) shift_of c.args.changes.now c.loop-change.change-index c.change-item.result c.loop-change.keys.items c.in_ok-more.more.items c.append.new.self.items c.loop-change-test.true
    c.change-item.is c.loop-change.invariant c.in_ok-more.ensures c.in_ok-append.ensures.items

pub returns : goal.returns
returns g c = all_owed (g.C.Reconciler.owes c.args.shown.now) shift_of c.args.changes.now c.loop-change.change-index c.loop-change.keys.items c.loop-change-test.false c.loop-change.invariant
