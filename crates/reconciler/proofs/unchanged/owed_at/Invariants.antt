use Rattle.std.proofs.Common.{map, drop}
use Rattle.spec_client_go.specs.Shifts.{shift_at}
use Rattle.object_keys.specs.Keys.{key_of}
use Rattle.reconciler.proofs.OwedSoFar.{AreOwedSoFar}
use Rattle.reconciler.proofs.unchanged.owed_at.Given as goal

abbrev pub invariant-loop-entry : goal.invariant-loop-entry
invariant-loop-entry g l =
    AreOwedSoFar (g.C.Reconciler.owes l.shown) (map (λ e. shift_at l.objects.members l.objects.members (key_of e.key.now)) l.entries)
    (map (λ e. shift_at l.objects.members l.objects.members (key_of e.key.now)) (drop l.entry-index l.entries)) l.keys.items
