-- Followers: what follows one kind of a server, from the bytes on a link to what is published and to be handled (client-go, tools/cache, Reflector and SharedInformer).
use Rattle.std.specs.Prelude.{ℕ, List, [], ◌∷◌, ◌++◌, map, Bool, true, false, Option, Some, None}
use Rattle.spec_api.specs.declared.kinds.Kind.{Kind}
use Rattle.spec_api.specs.History.{Entries}
use Rattle.spec_api.specs.Streams.{Line}
use Rattle.spec_api.specs.WatchReplies.{opening_lines}
use Rattle.spec_client_go.specs.Informers as informers
use Rattle.spec_client_go.specs.Informers.{Informer, after_publish}
use Rattle.spec_client_go.specs.Reflectors as reflectors
use Rattle.spec_client_go.specs.Reflectors.{Reflector, Delta, replace, Listed, Fed, with_list, list_delta, apply_delta}
use Rattle.spec_client_go.specs.Shifts.{Shift, shifts_of, all_shifts}
use Rattle.spec_sim.specs.declared.initial_syncs.InitialSync.{InitialSync}
use Rattle.spec_sim.specs.declared.initial_syncs.InitialSync.TheVariants as sync

-- ---- links

-- an open watch: the revision up to which all changes were written, the initial lines that are still to be written before any
-- change, the bytes that were written and not yet read, and whether an ERROR frame was written, after which nothing is
pub record Link : Type 0 where
  pub stands : ℕ
  pub initial : List Line
  pub unread : List ℕ
  pub is_refused : Bool

-- nothing is written on it yet
abbrev pub opened_at : ℕ → Link
opened_at r = record { stands = r; initial = []; unread = []; is_refused = false }

-- nothing is written yet, and what is there at a revision is to be, and then the bookmark that closes it (Kubernetes API Concepts,
-- Streaming lists)
abbrev pub streaming_at : ℕ → Entries → Link
streaming_at r ms = record { stands = r; initial = opening_lines true r ms; unread = []; is_refused = false }

-- ---- notifications

-- a change that was published, and whether it is of the first list, or of the first initial events that were closed (client-go,
-- tools/cache, ResourceEventHandler, isInInitialList)
pub record Notification : Type 0 where
  pub shift : Shift
  pub is_in_initial_list : Bool

abbrev pub notified : Bool → List Shift → List Notification
notified initial ss = map (λ s. record { shift = s; is_in_initial_list = initial }) ss

-- what deltas change of these members, delta by delta: of the first list, which closed initial events give too, unless it was
-- published before, and then of all others
abbrev pub notifications : Bool → Entries → List Delta → List Notification
notifications true ms ds = notified false (all_shifts ms ds)
notifications false ms [] = []
notifications false ms (replace r os ∷ ds) = notified true (shifts_of ms (replace r os)) ++ notified false (all_shifts (apply_delta ms (replace r os)) ds)
notifications false ms (d ∷ ds) = notified false (shifts_of ms d) ++ notifications false (apply_delta ms d) ds

-- ---- followers

-- a link, where a watch is open; a reflector; an informer; the published changes that are still to be handled, the oldest first;
-- and whether the first list was published
pub record Follower : Type 0 where
  pub link : Option Link
  pub reflector : Reflector
  pub informer : Informer
  pub unhandled : List Notification
  pub has_listed : Bool

-- whether who begins so asks for streams of initial events in place of lists
abbrev pub asks_streams : InitialSync → Bool
asks_streams sync.List = false
asks_streams sync.Stream = true

-- nothing is there at first
abbrev pub begun : InitialSync → Kind → Follower
begun s k = record { link = None; reflector = reflectors.begun_by (asks_streams s) k; informer = informers.begun; unhandled = []; has_listed = false }

-- more deltas wait to be published
abbrev pub appended : Informer → List Delta → Informer
appended i ds = record { published = i.published; pending = i.pending ++ ds }

-- a list is taken in
abbrev pub after_list : Listed → Follower → Follower
after_list l f = record f { link = None; reflector = with_list (Some l) f.reflector; informer = appended f.informer (list_delta l ∷ []) }

-- a watch is opened where the reflector is
abbrev pub after_open : Follower → Follower
after_open f = record f { link = Some (opened_at f.reflector.revision) }

-- a stream is opened, by what is there at a revision; nothing of it is taken in yet
abbrev pub after_stream : ℕ → Entries → Follower → Follower
after_stream r ms f = record f { link = Some (streaming_at r ms) }

-- a watch is refused: what is there is asked for again
abbrev pub after_expiry : Follower → Follower
after_expiry f = record f { link = None; reflector = reflectors.expired f.reflector }

-- what bytes gave is taken in, and this link is left
abbrev pub after_bytes : Fed → Option Link → Follower → Follower
after_bytes fed l f = record f { link = l; reflector = fed.after; informer = appended f.informer fed.deltas }

-- the link is cut: what was not read is lost, and so is the frame that is not whole
abbrev pub after_cut : Follower → Follower
after_cut f = record f { link = None; reflector = reflectors.cut f.reflector }

-- all that waits is published at once, and its changes are still to be handled
abbrev pub after_publishing : Follower → Follower
after_publishing f =
    record f {
      informer = after_publish f.informer;
      unhandled = f.unhandled ++ notifications f.has_listed f.informer.published.members f.informer.pending;
      has_listed = true;
    }
