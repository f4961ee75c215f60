use Rattle.std.proofs.Common.{subst}
use Rattle.spec_client_go.specs.Shifts.{shift_at}
use Rattle.object_keys.specs.Keys.{key_of}
use Rattle.reconciler.proofs.OwedSoFar.{more_owed, all_owed}
use Rattle.reconciler.proofs.unchanged.owed_at.Goals as goal

pub loop-entry-preserved : goal.loop-entry-preserved
loop-entry-preserved g c =
    let ms = c.args.objects.now.members in
    more_owed (g.C.Reconciler.owes c.args.shown.now) (λ e. shift_at ms ms (key_of e.key.now)) c.args.entries.now c.loop-entry.entry-index c.entry-item.result c.loop-entry.keys.items c.in_ok-more.more.items c.append.new.self.items
    c.loop-entry-test.true c.entry-item.is c.loop-entry.invariant (subst (λ s. (g.C.Reconciler.owes c.args.shown.now) s c.in_ok-more.more.items) c.in_ok-change.ensures c.in_ok-more.ensures) c.in_ok-append.ensures.items

pub returns : goal.returns
returns g c =
    let ms = c.args.objects.now.members in
    all_owed (g.C.Reconciler.owes c.args.shown.now) (λ e. shift_at ms ms (key_of e.key.now)) c.args.entries.now c.loop-entry.entry-index c.loop-entry.keys.items c.loop-entry-test.false c.loop-entry.invariant
