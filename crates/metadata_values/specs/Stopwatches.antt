-- How long a clock went on, in nanoseconds, as it was seen now and then.
use Rattle.std.specs.Prelude.{◌≡◌, ◌<◌, ◌≤◌, ℕ, ◌+◌, ◌-◌, List, [], ◌∷◌, Option, Some, None, option_map, ⊤}
use Rattle.std.specs.Time.{instant_nanos}
use Rattle.core.specs.Duration.{as_nanos}
use Rattle.metadata_values.specs.declared.stopwatch.Stopwatch.{Stopwatch}

-- what the clock showed last
abbrev pub seen_last : Stopwatch → Option ℕ
seen_last s = option_map instant_nanos s.seen

-- what has passed
abbrev pub passed_in : Stopwatch → ℕ
passed_in s = as_nanos s.passed

-- how far a clock went on since it was seen: nothing where it fell back, or was not seen
abbrev pub going : Option ℕ → ℕ → ℕ
going None now = 0
going (Some seen) now = now - seen

-- the same where it shows these one after another
abbrev pub going_through : Option ℕ → List ℕ → ℕ
going_through seen [] = 0
going_through seen (now ∷ more) = going seen now + going_through (Some now) more

-- it does not fall back, and this is what it shows in the end
abbrev pub NeverFalls : ℕ → List ℕ → Type 0
NeverFalls seen [] = ⊤
NeverFalls seen (now ∷ more) = (seen ≤ now) × NeverFalls now more

abbrev pub shown_last : ℕ → List ℕ → ℕ
shown_last seen [] = seen
shown_last seen (now ∷ more) = shown_last now more

-- between two falls as much passes as passes on the clock, however often it is seen
abbrev pub AllIsCounted : Type 0
AllIsCounted = (seen : ℕ) (shown : List ℕ) → NeverFalls seen shown → going_through (Some seen) shown ≡ shown_last seen shown - seen

-- nothing passes at a fall, and it is counted on from there
abbrev pub FallsAreNotCounted : Type 0
FallsAreNotCounted = (seen now : ℕ) (more : List ℕ) → now < seen → going_through (Some seen) (now ∷ more) ≡ going_through (Some now) more
