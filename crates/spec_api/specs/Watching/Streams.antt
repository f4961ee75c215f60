-- The streams of a watch: events in order with bookmarks between, and before them, if asked for, the list.
use Rattle.std.specs.Prelude.{◌≡◌, ◌≤◌, ◌<◌, ℕ, List, [], ◌∷◌, ◌++◌, map, flat_map, Some, true, false}
use Rattle.serde_json.specs.Data.{Data}
use Rattle.spec_api.specs.declared.kinds.Kind.{Kind}
use Rattle.spec_api.specs.declared.frames.FrameKind.TheVariants.{Added}
use Rattle.spec_api.specs.Texts.Keys.{Key}
use Rattle.spec_api.specs.State.History.{History, View, Entries, list, put_or_remove}
use Rattle.spec_api.specs.Watching.Frames.{Frame, frame_kind, frame_text, bookmark_frame}
use Rattle.spec_api.specs.State.Events.{Event, events, apply}

-- a line of a stream: an event, a bookmark, an object that was there at the beginning, or the bookmark after the last of these
pub data Line : Type 0 where
  event : Event → Line
  bookmark : ℕ → Line
  initial : Key → Data → Line
  initial_end : ℕ → Line

-- the frame of a line, in a watch of a kind
abbrev pub frame_of : Kind → Line → Frame
frame_of k (event c) = record { kind = frame_kind c.kind; object = c.object }
frame_of k (bookmark r) = bookmark_frame k false r
frame_of k (initial n d) = record { kind = Added; object = d }
frame_of k (initial_end r) = bookmark_frame k true r

-- the bytes of lines
abbrev pub text_of_lines : Kind → List Line → List ℕ
text_of_lines k ls = flat_map (λ l. frame_text (frame_of k l)) ls

-- these events in order, and bookmarks, each at least at the revision of what is before it, below that of each event after it, and at most at b (Kubernetes API Concepts, Watch bookmarks)
abbrev pub AreEventsWithBookmarks : ℕ → ℕ → List Event → List Line → Type 0
AreEventsWithBookmarks at b [] [] = Unit {0}
AreEventsWithBookmarks at b (c ∷ cs) (event d ∷ ls) = (d ≡ c) × AreEventsWithBookmarks c.revision b cs ls
AreEventsWithBookmarks at b [] (bookmark r ∷ ls) = (at ≤ r) × (r ≤ b) × AreEventsWithBookmarks r b [] ls
AreEventsWithBookmarks at b (c ∷ cs) (bookmark r ∷ ls) = (at ≤ r) × (r ≤ b) × (r < c.revision) × AreEventsWithBookmarks r b (c ∷ cs) ls
AreEventsWithBookmarks at b cs ls = ⊥

-- a stream of the view v from a to b, in the history h
abbrev pub IsStream : History → View → ℕ → ℕ → List Line → Type 0
IsStream h v a b ls = AreEventsWithBookmarks a b (events h v a b) ls

-- the objects that are there, each as if it had just been added
abbrev pub added_lines : Entries → List Line
added_lines ms = map (λ m. initial m.0 m.1) ms

-- the list at a, the bookmark that closes it, then a stream from a (Kubernetes API Concepts, Streaming lists)
abbrev pub IsInitialStream : History → View → ℕ → ℕ → List Line → Type 0
IsInitialStream h v a b ls = (more : List Line) × (ls ≡ added_lines (list h v a) ++ initial_end a ∷ more) × IsStream h v a b more

-- ---- what they make of the list

abbrev pub apply_line : Entries → Line → Entries
apply_line ms (event c) = apply ms c
apply_line ms (initial n d) = put_or_remove ms n (Some d)
apply_line ms l = ms

-- lines applied one after another
abbrev pub applied_lines : Entries → List Line → Entries
applied_lines ms [] = ms
applied_lines ms (l ∷ ls) = applied_lines (apply_line ms l) ls
