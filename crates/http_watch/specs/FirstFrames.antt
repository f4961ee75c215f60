-- The frames with which a watch begins.
use Rattle.std.specs.Prelude.{◌≡◌, ◌<◌, ℕ, List, ◌∷◌, ◌++◌, Bool, length, map}
use Rattle.serde_json.specs.Data.{Data}
use Rattle.spec_api.specs.declared.kinds.Kind.{Kind}
use Rattle.spec_api.specs.History.{Entries}
use Rattle.spec_api.specs.Keys.{Key}
use Rattle.spec_api.specs.WatchReplies.{closing_lines}
use Rattle.spec_http.specs.Replies.{frames_text}
use Rattle.http_response.specs.Frames.{object_frames}

-- those of members
abbrev pub member_frames : Entries → List ℕ
member_frames ms = object_frames (map (λ m. m.1) ms)

-- those of what is there at a revision, and of the bookmark that closes it, where it comes
abbrev pub first_frames : Kind → Bool → ℕ → Entries → List ℕ
first_frames k closing r ms = member_frames ms ++ frames_text k (closing_lines closing r)

-- the frames of the first members, the last of them under this key, were added to a text, and others are left
pub record StopsAt (all : Entries) (old new : List ℕ) (key : Key) : Type 0 where
  pub before : Entries
  pub object : Data
  pub left : Entries
  pub split : all ≡ before ++ ((key, object) ∷ left)
  pub frames : new ++ member_frames left ≡ old ++ member_frames all
  pub more : 0 < length left
  pub full : 0 < length new
