-- That no look of a turn is older than what was handled before its key was taken.
use Rattle.std.specs.Prelude.{◌≡◌, ◌≤◌, ℕ, List, Option, Some}
use Rattle.spec_api.specs.declared.kinds.Kind.{Kind}
use Rattle.spec_server.specs.Snapshots.{Snapshot}
use Rattle.spec_sim.specs.Turns.{Turn, looked, with_sight}
use Rattle.control_desk.specs.Hands.{HasHandled, state}
use Rattle.control_desk.specs.Steps.{Step}
use Rattle.control_desk.specs.Taken.{IsNext}
use Rattle.control_desk.specs.declared.taken_key.TakenKey.{TakenKey}
use Rattle.manager_worker.specs.Stepping.{Looks}
use Rattle.manager_worker.specs.declared.steps.Progress.TheVariants as progress

module _ {L : Type 0} (shows : L → Kind → Option Snapshot → L → Type 0) where
  -- where a key was taken after a history, and something of a kind is handled in it at a revision, each look at this kind that is taken in the key's turn shows
  -- a map of this revision or of a later one
  abbrev pub LooksAreNotOlder : Type 0
  LooksAreNotOlder =
      (h : List (ℕ × Step)) (taken : TakenKey) (k : Kind) (r : ℕ) (t u : Turn) (before after : L) → IsNext (Some taken) (state h) → HasHandled h k r
      → Looks shows taken.handled k t before u after progress.Went → (s : Snapshot) × shows before k (Some s) after × (r ≤ s.revision) × (u ≡ with_sight (looked k s) t)
