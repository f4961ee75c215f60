-- Laws of what sinks are given.
use Rattle.std.specs.Prelude.{◌≡◌, List, ◌++◌}
use Rattle.spec_client_go.specs.Informers.{Informer, all_applied}
use Rattle.spec_client_go.specs.Reflectors.{Delta}
use Rattle.spec_client_go.specs.Shifts.{Shift, all_shifts}
use Rattle.list_and_watch.specs.Followers.{Follower}
use Rattle.list_and_watch.specs.Told.{Told, Step, after_steps, told_nothing, owed_in, taken_in}

-- deltas lead from the map that an informer began with to what is published, and their changes, in order, are those that the sink has taken
-- and then those that are owed
pub record IsGivenOnce (i : Informer) (taken : List Shift) (t : Told) : Type 0 where
  pub deltas : List Delta
  pub published : t.follower.informer.published ≡ all_applied i.published deltas
  pub changes : taken ++ owed_in t.owed ≡ all_shifts i.published.members deltas

-- whatever follower it is, whatever lists, bytes, cuts, expiries and refusals come, and whenever the sink takes what is owed
abbrev pub ChangesAreGivenOnce : Type 0
ChangesAreGivenOnce = (f : Follower) (ss : List Step) → IsGivenOnce f.informer (taken_in ss (told_nothing f)) (after_steps ss (told_nothing f))
