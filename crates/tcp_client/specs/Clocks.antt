-- How long the clock of a machine went on.
use Rattle.std.specs.Prelude.{◌≡◌, ◌⊎◌, ℕ, ◌+◌, Some, min}
use Rattle.std.specs.Duration.{max_nanos}
use Rattle.metadata_values.specs.Stopwatches.{going, passed_in, seen_last}
use Rattle.metadata_values.specs.declared.stopwatch.Stopwatch.{Stopwatch}
use Rattle.tcp_client.specs.declared.wall_clock.WallClock.{WallClock}

abbrev pub stopwatch_of : {R : Type 0} → WallClock R → Stopwatch
stopwatch_of c = c.stopwatch

-- the clock is seen to show something, and what it went on since it was seen is added; or it shows nothing, and nothing is
abbrev pub LooksAgain : Stopwatch → Stopwatch → Type 0
LooksAgain before after =
    ((now : ℕ) × (seen_last after ≡ Some now) × (passed_in after ≡ min (passed_in before + going (seen_last before) now) max_nanos)) ⊎ (after ≡ before)
