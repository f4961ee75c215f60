-- What a part of a watch writes.
use Rattle.std.specs.Prelude.{◌≡◌, ℕ, List, [], ◌∷◌, Bool, true, false, Option, Some, None, Result, Ok, Err}
use Rattle.std.specs.Io.KnownBytes.{Appends}
use Rattle.spec_api.specs.declared.kinds.Kind.{Kind}
use Rattle.spec_api.specs.History.{View}
use Rattle.spec_api.specs.Versions.{Watched}
use Rattle.spec_api.specs.WatchReplies.{told_lines}
use Rattle.chunked.specs.Devices.{AppendsBeginning, device_of, has_failed}
use Rattle.chunked.specs.declared.watched.Watched as device
use Rattle.spec_http.specs.Replies.{frames_text}
use Rattle.http_watch.specs.Watches.{Look, most_events, idle_after, look_frames}
use Rattle.http_watch.specs.declared.fault.Cut.{Cut}
use Rattle.http_watch.specs.declared.fault.Cut.TheVariants as cut
use Rattle.http_watch.specs.declared.looked.Looked.{Looked}
use Rattle.http_watch.specs.declared.standing.WatchStanding.{WatchStanding}

-- the text was written; or the writer has failed, and a beginning was; or out of memory, and nothing was
abbrev pub Writes : {D X : Type 0} → List ℕ → (D → Option (List ℕ)) → device.Watched D → device.Watched D → Result X Cut → Type 0
Writes text contents old new (Ok x) = (has_failed new ≡ false) × Appends (contents (device_of old)) (contents (device_of new)) text
Writes text contents old new (Err cut.Device) = (has_failed new ≡ true) × AppendsBeginning (contents (device_of old)) (contents (device_of new)) text
Writes text contents old new (Err cut.NoMemory) = new ≡ old

-- where the watch stands after it was given this
abbrev pub StandsAfter : Bool → WatchStanding → Watched → Result WatchStanding Cut → Type 0
StandsAfter bookmarks at w (Ok next) = (next.revision ≡ w.stands) × (next.idle ≡ idle_after at.idle (told_lines bookmarks at.revision w))
StandsAfter bookmarks at w (Err c) = Unit {0}

-- these are the frames of what was given, and where the watch then stands
abbrev pub IsShown : Kind → Bool → WatchStanding → Watched → Looked → Type 0
IsShown k bookmarks at w l =
    (l.text.items ≡ frames_text k (told_lines bookmarks at.revision w)) × ((next : WatchStanding) × (l.next ≡ Some next) × StandsAfter bookmarks at w (Ok next))

-- where the watch stands after a look, nowhere after one that was refused
abbrev pub StandsAt : Bool → WatchStanding → Look → Result (Option WatchStanding) Cut → Type 0
StandsAt bookmarks at (Ok w) (Ok (Some next)) = StandsAfter bookmarks at w (Ok next)
StandsAt bookmarks at (Err f) (Ok (Some next)) = ⊥
StandsAt bookmarks at (Ok w) (Ok None) = ⊥
StandsAt bookmarks at (Err f) (Ok None) = Unit {0}
StandsAt bookmarks at w (Err c) = Unit {0}

-- a look was made, and its frames were written
abbrev pub LooksOnce : {S D : Type 0} → (S → View → ℕ → ℕ → Look → S → Type 0) → View → Bool → WatchStanding → S → S → (D → Option (List ℕ)) → device.Watched D → device.Watched D → Result (Option WatchStanding) Cut → Type 0
LooksOnce watches v bookmarks at s t contents old new result =
    (w : Look) × watches s v at.revision most_events w t × Writes (look_frames v.kind bookmarks at.revision (w ∷ [])) contents old new result × StandsAt bookmarks at w result

-- a look was made, with these frames, and the watch then stands there; or out of memory
abbrev pub IsLook : {S E : Type 0} → (S → View → ℕ → ℕ → Look → S → Type 0) → View → Bool → WatchStanding → S → S → Result Looked E → Type 0
IsLook watches v bookmarks at s t (Ok l) =
    (w : Look) × watches s v at.revision most_events w t × (l.text.items ≡ look_frames v.kind bookmarks at.revision (w ∷ [])) × StandsAt bookmarks at w (Ok l.next)
IsLook watches v bookmarks at s t (Err e) = (w : Look) × watches s v at.revision most_events w t
