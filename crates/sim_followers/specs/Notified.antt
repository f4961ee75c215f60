-- Notifications as code has them.
use Rattle.std.specs.Prelude.{Bool, true, false}
use Rattle.spec_client_go.specs.Reflectors.{Delta, replace, put, remove, mark}
use Rattle.indexer.specs.Shifted.{shift_of}
use Rattle.spec_sim.specs.Followers as followers
use Rattle.sim_followers.specs.declared.notifications.Notification.{Notification}

abbrev pub notification_of : Notification → followers.Notification
notification_of n = record { shift = shift_of n.shift; is_in_initial_list = n.is_in_initial_list }

abbrev pub is_replace : Delta → Bool
is_replace (replace r os) = true
is_replace (put o) = false
is_replace (remove r k) = false
is_replace (mark r) = false
