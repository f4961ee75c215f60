-- A watch as its looks give it, and what is written for them.
use Rattle.std.specs.Prelude.{◌≡◌, ◌≤◌, ◌<◌, ◌+◌, ℕ, List, [], ◌∷◌, ◌++◌, Bool, Option, None, Result, Ok, Err}
use Rattle.std.specs.Result.{result_map_both}
use Rattle.spec_api.specs.declared.kinds.Kind.{Kind}
use Rattle.spec_api.specs.declared.versions.Start.{Start}
use Rattle.spec_api.specs.declared.versions.Start.TheVariants as start
use Rattle.spec_api.specs.Frames.{frame_text, error_frame}
use Rattle.spec_api.specs.History.{View}
use Rattle.spec_api.specs.Refusals.{Refusal}
use Rattle.spec_api.specs.Streams.{Line, added_lines}
use Rattle.spec_api.specs.Versions.{Listed, Watched}
use Rattle.spec_api.specs.WatchReplies.{told_lines, opening_lines}
use Rattle.chunked.specs.Bodies.{chunk_text, last_chunk}
use Rattle.spec_http.specs.Replies.{watch_head, frames_text}

-- a look gives changes, or is refused
abbrev pub Look : Type 0
Look = Result Watched Refusal

-- how many events a look is asked for at most, and how many looks in a row without a line end a watch
abbrev pub most_events : ℕ
most_events = 64

abbrev pub most_idle : ℕ
most_idle = 1024

-- how many looks in a row have given no line, after one that gave these
abbrev pub idle_after : ℕ → List Line → ℕ
idle_after idle [] = idle + 1
idle_after idle (l ∷ ls) = 0

-- where a watch stands after a look
abbrev pub stands_after : ℕ → Look → ℕ
stands_after at (Ok w) = w.stands
stands_after at (Err f) = at

-- ---- how a watch opens

-- the lines with which it opens, where it then stands, and how many looks have given no line
pub record Opening : Type 0 where
  pub lines : List Line
  pub stands : ℕ
  pub idle : ℕ

-- a watch that names no revision opens with what is there; that is no look
abbrev pub opening_with : Listed → Opening
opening_with l = record { lines = added_lines l.members; stands = l.revision; idle = 0 }

-- one that begins with initial events opens with what is there, and the bookmark that closes it, if bookmarks are asked for; that is no look
abbrev pub opening_closed : Bool → Listed → Opening
opening_closed bookmarks l = record { lines = opening_lines bookmarks l.revision l.members; stands = l.revision; idle = 0 }

-- one that wants none of these opens with nothing, at the present revision
abbrev pub opening_after : Listed → Opening
opening_after l = record { lines = []; stands = l.revision; idle = 0 }

-- one that names a revision opens with the first look from there
abbrev pub opening_at : Bool → ℕ → Watched → Opening
opening_at bookmarks at w = record { lines = told_lines bookmarks at w; stands = w.stands; idle = idle_after 0 (told_lines bookmarks at w) }

-- ---- how it goes on

-- the frames of looks of a watch of a kind that stands at a revision, with bookmarks or without; why a look is refused is a frame too
abbrev pub look_frames : Kind → Bool → ℕ → List Look → List ℕ
look_frames k bookmarks at [] = []
look_frames k bookmarks at (Ok w ∷ looks) = frames_text k (told_lines bookmarks at w) ++ look_frames k bookmarks w.stands looks
look_frames k bookmarks at (Err f ∷ looks) = chunk_text (frame_text (error_frame f)) ++ look_frames k bookmarks at looks

-- these looks end a watch: after the last of them 1,024 in a row have given no line, or it was refused, and before it neither was so
abbrev pub Ends : Bool → ℕ → ℕ → List Look → Type 0
Ends bookmarks at idle [] = most_idle ≤ idle
Ends bookmarks at idle (Ok w ∷ looks) = (idle < most_idle) × Ends bookmarks w.stands (idle_after idle (told_lines bookmarks at w)) looks
Ends bookmarks at idle (Err f ∷ looks) = (idle < most_idle) × (looks ≡ [])

-- the frames of looks and the end of the watch
abbrev pub ended_frames : Kind → Bool → ℕ → List Look → List ℕ
ended_frames k bookmarks at looks = look_frames k bookmarks at looks ++ last_chunk

-- the head, and the lines with which a watch opens
abbrev pub opening_text : Kind → Opening → List ℕ
opening_text k o = watch_head ++ frames_text k o.lines

module _ {S : Type 0} (watches : S → View → ℕ → ℕ → Look → S → Type 0) (v : View) where
  -- these looks are made, each from where the watch stands after the one before it
  abbrev pub Looks : S → ℕ → List Look → S → Type 0
  Looks s at [] t = t ≡ s
  Looks s at (w ∷ looks) t = (mid : S) × watches s v at most_events w mid × Looks mid (stands_after at w) looks t

module _ {S : Type 0} (begins : S → View → Option ℕ → Result Listed Refusal → S → Type 0) (watches : S → View → ℕ → ℕ → Look → S → Type 0) (v : View) (bookmarks : Bool) where
  -- a watch opens so, by how it begins, or is refused
  abbrev pub Opens : S → Start → Result Opening Refusal → S → Type 0
  Opens s start.Listed o t = (l : Result Listed Refusal) × begins s v None l t × (o ≡ result_map_both opening_with (λ f. f) l)
  Opens s (start.Streamed least) o t = (l : Result Listed Refusal) × begins s v least l t × (o ≡ result_map_both (opening_closed bookmarks) (λ f. f) l)
  Opens s (start.After at) o t = (w : Look) × watches s v at most_events w t × (o ≡ result_map_both (opening_at bookmarks at) (λ f. f) w)
  Opens s start.Present o t = (l : Result Listed Refusal) × begins s v None l t × (o ≡ result_map_both opening_after (λ f. f) l)
