-- Frames of watches, each as a chunk.
use Rattle.std.specs.Prelude.{ℕ, List, map}
use Rattle.serde_json.specs.Data.{Data}
use Rattle.spec_api.specs.declared.frames.FrameKind.TheVariants.{Added}
use Rattle.spec_api.specs.Events.{Event}
use Rattle.spec_api.specs.Frames.{frame_kind, frame_text}
use Rattle.chunked.specs.Bodies.{chunks_text}

-- those of changes
abbrev pub change_frames : List Event → List ℕ
change_frames cs = chunks_text (map (λ c. frame_text (record { kind = frame_kind c.kind; object = c.object })) cs)

-- those of objects that are there as a watch begins
abbrev pub object_frames : List Data → List ℕ
object_frames ds = chunks_text (map (λ d. frame_text (record { kind = Added; object = d })) ds)
