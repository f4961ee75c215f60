-- A frame by the texts of its parts, and what it means that it is read back.
use Rattle.std.specs.Prelude.{◌≡◌, ◌≤◌, ℕ, List, [], ◌∷◌, ◌++◌, length, codes, IsSome}
use Rattle.serde_json.specs.Data.{depth}
use Rattle.serde_json.specs.Find.{as_object}
use Rattle.serde_json.specs.Read.{max_depth}
use Rattle.spec_api.specs.Frames.{Frame, frame_data, frame_text}
use Rattle.spec_client_go.specs.ReadFrames.{longest_frame, reading, onto}

-- the line of a frame, from the texts of its kind and its object
abbrev pub framed_text : List ℕ → List ℕ → List ℕ
framed_text kind text = codes "{\"object\":" ++ (text ++ (codes ",\"type\":\"" ++ (kind ++ codes "\"}\n")))

-- a frame that fits in a line
pub record IsWithin (e : Frame) : Type 0 where
  pub is_object : IsSome (as_object e.object)
  pub nests : depth (frame_data e) ≤ max_depth
  pub fits : length (frame_text e) ≤ longest_frame

-- the text is read as these frames, whatever follows it
abbrev pub ReadsAll : List ℕ → List Frame → Type 0
ReadsAll text es = (more : List ℕ) → reading (text ++ more) ≡ onto es (reading more)

-- the text is read as this frame, whatever follows it
abbrev pub ReadsAs : List ℕ → Frame → Type 0
ReadsAs text e = ReadsAll text (e ∷ [])
