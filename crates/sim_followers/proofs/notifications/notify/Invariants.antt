use Rattle.std.proofs.Common.{◌≡◌, ◌++◌, map}
use Rattle.indexer.specs.Shifted.{shift_of}
use Rattle.spec_sim.specs.Followers.{notified}
use Rattle.sim_followers.specs.Notified.{notification_of}
use Rattle.sim_followers.proofs.notifications.notify.Given as goal

-- those added and those still to be added are all
abbrev pub invariant-loop-shift : goal.invariant-loop-shift
invariant-loop-shift l =
    map notification_of l.notifications.items ++ notified l.is_in_initial_list (map shift_of l.shift-iterator.rest.items)
    ≡ map notification_of l.initial.notifications.items ++ notified l.fn.is_in_initial_list (map shift_of l.fn.shifts.items)
