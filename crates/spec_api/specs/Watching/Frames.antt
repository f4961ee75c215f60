-- Frames: how the events, bookmarks and errors of a watch are written, one on each line.
use Rattle.std.specs.Prelude.{ℕ, List, [], ◌∷◌, ◌++◌, Bool, true, false, codes, decimal, Option, Some, None, if◌then◌else◌}
use Rattle.std.specs.Str.{bytes_eq}
use Rattle.serde_json.specs.Data.{Data, string, object, Members, no_members, member}
use Rattle.serde_json.specs.Written.{compact_text}
use Rattle.spec_api.specs.declared.kinds.Kind.{Kind}
use Rattle.spec_api.specs.declared.frames.ChangeKind.{ChangeKind}
use Rattle.spec_api.specs.declared.frames.ChangeKind.TheVariants as change
use Rattle.spec_api.specs.declared.frames.FrameKind.{FrameKind}
use Rattle.spec_api.specs.declared.frames.FrameKind.TheVariants.{Added, Modified, Deleted, Bookmark, Error}
use Rattle.spec_api.specs.Texts.Kinds as kinds
use Rattle.spec_api.specs.Texts.Kinds.{api_version}
use Rattle.spec_api.specs.Objects.Refusals.{Refusal, status_body}

-- a frame of a watch (Kubernetes API reference, WatchEvent)
pub record Frame : Type 0 where
  pub kind : FrameKind
  pub object : Data

-- the member `type` (Kubernetes API Concepts, Efficient detection of changes)
abbrev pub kind_text : FrameKind → List ℕ
kind_text Added = codes "ADDED"
kind_text Modified = codes "MODIFIED"
kind_text Deleted = codes "DELETED"
kind_text Bookmark = codes "BOOKMARK"
kind_text Error = codes "ERROR"

-- the kind of the frame with this `type`
abbrev pub frame_kind_named : List ℕ → Option FrameKind
frame_kind_named t =
    if bytes_eq t (codes "ADDED") then Some Added
    else
    (if bytes_eq t (codes "MODIFIED") then Some Modified
    else (if bytes_eq t (codes "DELETED") then Some Deleted else (if bytes_eq t (codes "BOOKMARK") then Some Bookmark else (if bytes_eq t (codes "ERROR") then Some Error else None))))

-- the kind of a frame that shows an event
abbrev pub frame_kind : ChangeKind → FrameKind
frame_kind change.Added = Added
frame_kind change.Modified = Modified
frame_kind change.Deleted = Deleted

abbrev pub frame_data : Frame → Data
frame_data e = object (member (codes "object") e.object (member (codes "type") (string (kind_text e.kind)) no_members))

-- the line of a frame: compact JSON and a newline
abbrev pub frame_text : Frame → List ℕ
frame_text e = compact_text (frame_data e) ++ 10 ∷ []

-- the metadata of a bookmark: its revision, and at the end of the initial events that they end here (Kubernetes API Concepts, Streaming lists)
abbrev pub bookmark_metadata : Bool → ℕ → Members
bookmark_metadata false r = member (codes "resourceVersion") (string (decimal r)) no_members
bookmark_metadata true r =
    member (codes "annotations") (object (member (codes "k8s.io/initial-events-end") (string (codes "true")) no_members)) (member (codes "resourceVersion") (string (decimal r)) no_members)

-- what a bookmark says of a kind (Kubernetes API Concepts, Watch bookmarks)
abbrev pub bookmark_data : Kind → Bool → ℕ → Data
bookmark_data k closing r =
    object
    (member (codes "apiVersion") (string (api_version k))
    (member (codes "kind") (string (kinds.kind_text k)) (member (codes "metadata") (object (bookmark_metadata closing r)) no_members)))

abbrev pub bookmark_frame : Kind → Bool → ℕ → Frame
bookmark_frame k closing r = record { kind = Bookmark; object = bookmark_data k closing r }

-- a refusal in a watch that has begun
abbrev pub error_frame : Refusal → Frame
error_frame f = record { kind = Error; object = status_body f }
