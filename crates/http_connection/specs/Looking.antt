-- A look of a watch.
use Rattle.std.specs.Prelude.{◌≡◌, ◌≤◌, ◌<◌, ◌⊎◌, ℕ, List, [], ◌∷◌, ◌++◌, Option, Some, None, Ok, Err}
use Rattle.chunked.specs.Bodies.{last_chunk}
use Rattle.spec_api.specs.History.{View}
use Rattle.selector.specs.Views.{view_of}
use Rattle.http_watch.specs.Looked.{StandsAt}
use Rattle.http_watch.specs.Watches.{Look, most_events, most_idle, look_frames, ended_frames}
use Rattle.http_watch.specs.declared.standing.WatchStanding.{WatchStanding}
use Rattle.api.specs.declared.served.Served.TheVariants as served
use Rattle.http_connection.specs.declared.phase.ConnectionPhase.{ConnectionPhase}
use Rattle.http_connection.specs.declared.phase.ConnectionPhase.TheVariants as phase
use Rattle.http_connection.specs.declared.watching.Watching.{Watching}
use Rattle.http_connection.specs.Watches.{unwritten, IsBounded, IsGivenAtOnce}

-- there is more to be written of a watch, which then stands here; or it is left
abbrev pub Adds : Watching → List ℕ → Option WatchStanding → ConnectionPhase → Type 0
Adds w more at (phase.Watching u) = IsGivenAtOnce more w u × (u.at ≡ at) × (unwritten u ≡ unwritten w ++ more) × IsBounded u
Adds w more at (phase.Closing s) = s ≡ served.Asked
Adds w more at (phase.Reading a) = ⊥
Adds w more at (phase.Asked a) = ⊥
Adds w more at phase.Answering = ⊥
Adds w more at (phase.Replying r) = ⊥
Adds w more at (phase.Listing l) = ⊥

-- the frames of a look are to be written, and after one that was refused the end of the watch
abbrev pub Shows : Watching → WatchStanding → Look → ConnectionPhase → Type 0
Shows w at (Ok x) result =
    (next : WatchStanding) × StandsAt w.bookmarks at (Ok x) (Ok (Some next))
    × Adds w (look_frames (view_of w.view).kind w.bookmarks at.revision (Ok x ∷ [])) (Some next) result
Shows w at (Err f) result = Adds w (ended_frames (view_of w.view).kind w.bookmarks at.revision (Err f ∷ [])) None result

-- who holds a watch has ended it, unless it was over
abbrev pub EndsFrom : Watching → Option WatchStanding → ConnectionPhase → Type 0
EndsFrom w None result = result ≡ phase.Watching w
EndsFrom w (Some at) result = Adds w last_chunk None result

module _ {S : Type 0} (watches : S → View → ℕ → ℕ → Look → S → Type 0) (w : Watching) (s t : S) where
  -- a watch that stands here was given a look, unless it is over, or as many in a row without a line as end it
  abbrev pub LooksFrom : Option WatchStanding → ConnectionPhase → Type 0
  LooksFrom None result = (t ≡ s) × (result ≡ phase.Watching w)
  LooksFrom (Some at) result =
      ((most_idle ≤ at.idle) × (t ≡ s) × Adds w last_chunk None result)
      ⊎ ((at.idle < most_idle) × ((look : Look) × watches s (view_of w.view) at.revision most_events look t × Shows w at look result))
