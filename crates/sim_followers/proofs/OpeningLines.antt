-- The lines of initial events that a server gives are those with which a stream begins.
use Rattle.std.proofs.Common.{◌≡◌, ℕ, [], ◌∷◌, true, refl, ap}
use Rattle.spec_api.specs.History.{Entries}
use Rattle.spec_api.specs.Streams.{initial}
use Rattle.spec_api.specs.WatchReplies.{added_events, opening_lines}
use Rattle.sim_followers.specs.Openings.{initial_lines}

pub opening_is : (r : ℕ) (ms : Entries) → initial_lines (added_events r ms) r ≡ opening_lines true r ms
opening_is r [] = refl
opening_is r (m ∷ ms) = ap (λ ls. initial m.0 m.1 ∷ ls) (opening_is r ms)
