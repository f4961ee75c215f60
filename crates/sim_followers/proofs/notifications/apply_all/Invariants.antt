use Rattle.std.proofs.Common.{◌≡◌, ◌++◌, map, drop}
use Rattle.spec_client_go.specs.Informers.{all_applied}
use Rattle.reflector.specs.Deltas.{deltas_of}
use Rattle.spec_sim.specs.Followers.{notifications}
use Rattle.sim_followers.specs.Notified.{notification_of}
use Rattle.sim_followers.proofs.notifications.apply_all.Given as goal

-- with what is still to be applied, it is all
abbrev pub invariant-loop-delta : goal.invariant-loop-delta
invariant-loop-delta l =
    record {
      applied : all_applied l.applied.objects (deltas_of (drop l.delta-index l.deltas)) ≡ all_applied l.from (deltas_of l.deltas);
      noted : map notification_of l.applied.notifications.items ++ notifications l.listed l.applied.objects.members (deltas_of (drop l.delta-index l.deltas))
          ≡ notifications l.has_listed l.from.members (deltas_of l.deltas);
    }
