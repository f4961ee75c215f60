-- A watch that goes on as its bytes are taken, with others served between its looks.
use Rattle.std.specs.Prelude.{◌≡◌, ◌≤◌, ◌<◌, ◌+◌, ◌⊎◌, ℕ, List, [], ◌∷◌, ◌++◌, length, drop, max, Bool, Option, Some, None, Result, Ok, Err, ⊤}
use Rattle.spec_api.specs.declared.kinds.Kind.{Kind}
use Rattle.spec_api.specs.declared.versions.Start.{Start}
use Rattle.spec_api.specs.History.{View}
use Rattle.spec_api.specs.Refusals.{Refusal}
use Rattle.spec_api.specs.Versions.{Listed}
use Rattle.spec_api.specs.WatchReplies.{told_lines}
use Rattle.http_watch.specs.declared.standing.WatchStanding.{WatchStanding}
use Rattle.http_watch.specs.Watches.{Look, Opening, Opens, Ends, most_events, most_idle, stands_after, idle_after, look_frames, ended_frames, opening_text}
use Rattle.http_connection.specs.Deeds.{Glance}
use Rattle.http_connection.specs.declared.watching.Watching.{Watching}

module _ {S : Type 0} (watches : S → View → ℕ → ℕ → Look → S → Type 0) (v : View) where
  -- these looks were given, each from where the watch stands after the one before it; others may have been served between them
  abbrev pub AreLooks : ℕ → List (Glance S) → Type 0
  AreLooks at [] = ⊤
  AreLooks at (g ∷ gs) = watches g.before v at most_events g.look g.after × AreLooks (stands_after at g.look) gs

module _ {S : Type 0} (begins : S → View → Option ℕ → Result Listed Refusal → S → Type 0) (watches : S → View → ℕ → ℕ → Look → S → Type 0) where
  -- a watch of a view that begins so opened so, from one state to the other, and was given these looks
  abbrev pub IsGiven : View → Bool → Start → S → S → Opening → List (Glance S) → Type 0
  IsGiven v bookmarks start s t o gs = Opens begins watches v bookmarks s start (Ok o) t × AreLooks watches v o.stands gs

-- ---- where it stands

-- none of these looks ends a watch
abbrev pub Lasts : Bool → ℕ → ℕ → List Look → Type 0
Lasts bookmarks at idle [] = ⊤
Lasts bookmarks at idle (Ok w ∷ looks) = (idle < most_idle) × Lasts bookmarks w.stands (idle_after idle (told_lines bookmarks at w)) looks
Lasts bookmarks at idle (Err f ∷ looks) = ⊥

-- the revision at which a watch stands after looks
abbrev pub revision_after : ℕ → List Look → ℕ
revision_after at [] = at
revision_after at (w ∷ looks) = revision_after (stands_after at w) looks

-- how many looks in a row have given no line after looks
abbrev pub idles_after : Bool → ℕ → ℕ → List Look → ℕ
idles_after bookmarks at idle [] = idle
idles_after bookmarks at idle (Ok w ∷ looks) = idles_after bookmarks w.stands (idle_after idle (told_lines bookmarks at w)) looks
idles_after bookmarks at idle (Err f ∷ looks) = idles_after bookmarks at idle looks

-- after these looks a watch stands here; nowhere where they end it, or where who holds it has ended it after them
abbrev pub StandsAfter : Bool → Opening → List Look → Option WatchStanding → Type 0
StandsAfter bookmarks o looks (Some at) =
    Lasts bookmarks o.stands o.idle looks × (at.revision ≡ revision_after o.stands looks) × (at.idle ≡ idles_after bookmarks o.stands o.idle looks)
StandsAfter bookmarks o looks None = Ends bookmarks o.stands o.idle looks ⊎ Lasts bookmarks o.stands o.idle looks

-- what a watch is to be written by then: the head and the lines with which it opened, the frames of the looks, and its end once it is over
abbrev pub text_by_then : Kind → Bool → Opening → List Look → Option WatchStanding → List ℕ
text_by_then k bookmarks o looks (Some at) = opening_text k o ++ look_frames k bookmarks o.stands looks
text_by_then k bookmarks o looks None = opening_text k o ++ ended_frames k bookmarks o.stands looks

-- ---- what is still to be written

-- what is being written, what it opened with and is still to be made, and what is to be written after that
abbrev pub unwritten : Watching → List ℕ
unwritten w = drop w.taken w.out.items ++ (w.rest ++ w.later.items)

-- what is made of it
abbrev pub made : Watching → List ℕ
made w = drop w.taken w.out.items ++ w.later.items

-- the most bytes that may be made and left unwritten, beside the most that were made at once
abbrev pub most_unwritten : ℕ
most_unwritten = 4194304

abbrev pub IsBounded : Watching → Type 0
IsBounded w = length (made w) ≤ w.at_once + most_unwritten

-- it is the same watch, wherever it stands
abbrev pub IsSameWatch : Watching → Watching → Type 0
IsSameWatch w u = (u.view ≡ w.view) × (u.bookmarks ≡ w.bookmarks) × (u.at_once ≡ w.at_once)

-- the same, of which so much more was made at once
abbrev pub IsGivenAtOnce : List ℕ → Watching → Watching → Type 0
IsGivenAtOnce more w u = (u.view ≡ w.view) × (u.bookmarks ≡ w.bookmarks) × (u.at_once ≡ max w.at_once (length more))
