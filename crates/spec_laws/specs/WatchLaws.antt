-- What follows from the definitions of events and streams.
use Rattle.std.specs.Prelude.{◌≡◌, ◌≤◌, ◌<◌, ℕ, List, [], ◌∷◌, ◌++◌}
use Rattle.spec_api.specs.History.{History, View, list}
use Rattle.spec_api.specs.Events.{Event, events, applied}
use Rattle.spec_api.specs.Streams.{Line, IsStream, IsInitialStream, applied_lines}

-- applying the events after a to the list at a gives the list at b
abbrev pub ChangesAreApplied : Type 0
ChangesAreApplied = (h : History) (v : View) (a b : ℕ) → a ≤ b → applied (list h v a) (events h v a b) ≡ list h v b

-- the events after a up to c are those up to b and then those after b
abbrev pub ChangesGoOn : Type 0
ChangesGoOn = (h : History) (v : View) (a b c : ℕ) → a ≤ b → b ≤ c → events h v a c ≡ events h v a b ++ events h v b c

-- each revision is above the one before it, the first above a, and none above b
abbrev pub AreBetween : ℕ → ℕ → List Event → Type 0
AreBetween a b [] = Unit {0}
AreBetween a b (c ∷ cs) = (a < c.revision) × (c.revision ≤ b) × AreBetween c.revision b cs

abbrev pub ChangesLieBetween : Type 0
ChangesLieBetween = (h : History) (v : View) (a b : ℕ) → AreBetween a b (events h v a b)

-- who has the list at a and applies a stream from a to b has the list at b
abbrev pub StreamsAreApplied : Type 0
StreamsAreApplied = (h : History) (v : View) (a b : ℕ) (ls : List Line) → a ≤ b → IsStream h v a b ls → applied_lines (list h v a) ls ≡ list h v b

-- who has nothing and applies an initial stream at a, then to b, has the list at b
abbrev pub InitialStreamsAreApplied : Type 0
InitialStreamsAreApplied = (h : History) (v : View) (a b : ℕ) (ls : List Line) → a ≤ b → IsInitialStream h v a b ls → applied_lines [] ls ≡ list h v b
