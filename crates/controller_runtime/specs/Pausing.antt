-- Pauses between the runs of a controller.
use Rattle.std.specs.Prelude.{◌≡◌, ℕ}
use Rattle.list_and_watch.specs.Pauses.{failed}
use Rattle.list_and_watch.specs.declared.pauses.Pauses.{Pauses}

-- one more run has ended, at some moment, and counts as a try that failed
abbrev pub CountsRun : Pauses → Pauses → Type 0
CountsRun before after = (now : ℕ) × (after ≡ failed now before)
