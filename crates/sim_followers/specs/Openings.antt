-- Initial lines as code has them: events of what is there, and the bookmark after them.
use Rattle.std.specs.Prelude.{ℕ, List, [], ◌∷◌, ◌++◌, map, flat_map, Bool, true, false}
use Rattle.spec_api.specs.declared.frames.FrameKind.TheVariants.{Added}
use Rattle.spec_api.specs.Events.{Event}
use Rattle.spec_api.specs.Frames.{frame_text}
use Rattle.spec_api.specs.Streams.{Line, initial, initial_end}

-- the line of an object that is there
abbrev pub initial_line : Event → Line
initial_line c = initial c.key c.object

-- these objects, and the bookmark that closes them
abbrev pub initial_lines : List Event → ℕ → List Line
initial_lines cs r = map initial_line cs ++ initial_end r ∷ []

-- what is left of them
abbrev pub lines_left : Bool → List Event → ℕ → List Line
lines_left true cs r = []
lines_left false cs r = initial_lines cs r

-- the frames of objects that are there
abbrev pub added_text : List Event → List ℕ
added_text cs = flat_map (λ c. frame_text (record { kind = Added; object = c.object })) cs
