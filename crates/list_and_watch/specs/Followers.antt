-- Followers: what keeps a copy of a kind up to date with a server, from lists and from the bytes of watches (client-go, tools/cache, Reflector).
use Rattle.std.specs.Prelude.{ℕ, List, [], ◌∷◌, Option, Some, None}
use Rattle.spec_api.specs.declared.kinds.Kind.{Kind}
use Rattle.spec_api.specs.History.{Entries}
use Rattle.spec_client_go.specs.Informers.{Informer, appended, after_publish}
use Rattle.spec_client_go.specs.Reflectors as reflectors
use Rattle.spec_client_go.specs.Reflectors.{Reflector, Delta, Listed, Fed, with_list, list_delta, fed}
use Rattle.spec_client_go.specs.Shifts.{Shift, all_shifts}
use Rattle.plain_informer.specs.Appended.{all_appended}

-- a reflector, and an informer of what it was given
pub record Follower : Type 0 where
  pub reflector : Reflector
  pub informer : Informer

-- nothing was taken in
abbrev pub begun_over : Kind → Informer → Follower
begun_over k i = record { reflector = reflectors.begun k; informer = i }

-- nothing was taken in, and a stream of initial events is asked for in place of a list
abbrev pub begun_streaming_over : Kind → Informer → Follower
begun_streaming_over k i = record { reflector = reflectors.begun_streaming k; informer = i }

-- a list that was read replaces the whole map at the next publish; another body changes nothing
abbrev pub after_list : Option Listed → Follower → Follower
after_list None f = f
after_list (Some l) f = record { reflector = with_list (Some l) f.reflector; informer = appended f.informer (list_delta l) }

-- what bytes gave waits for the next publish
abbrev pub with_fed : Fed → Follower → Follower
with_fed d f = record { reflector = d.after; informer = all_appended f.informer d.deltas }

abbrev pub after_bytes : List ℕ → Follower → Follower
after_bytes bytes f = with_fed (fed f.reflector bytes) f

-- a cut drops the frame that is not whole, and nothing else
abbrev pub after_cut : Follower → Follower
after_cut f = record { reflector = reflectors.cut f.reflector; informer = f.informer }

-- after an expiry a list is asked for
abbrev pub after_expiry : Follower → Follower
after_expiry f = record { reflector = reflectors.expired f.reflector; informer = f.informer }

-- after a stream is refused a list is asked for
abbrev pub after_refusal : Follower → Follower
after_refusal f = record { reflector = reflectors.refused f.reflector; informer = f.informer }

-- all that waits is published at once
abbrev pub published : Follower → Follower
published f = record { reflector = f.reflector; informer = after_publish f.informer }

-- what the deltas that wait change, delta by delta; none where none waits, as before the first list
abbrev pub changes_in : Entries → List Delta → Option (List Shift)
changes_in ms [] = None
changes_in ms (d ∷ ds) = Some (all_shifts ms (d ∷ ds))

abbrev pub changes_of : Informer → Option (List Shift)
changes_of i = changes_in i.published.members i.pending

-- changes that the sink has not taken keep back what waits
abbrev pub published_unless : Option (List Shift) → Follower → Follower
published_unless None f = published f
published_unless (Some owed) f = f

abbrev pub owed_after : Option (List Shift) → Informer → Option (List Shift)
owed_after None i = changes_of i
owed_after (Some owed) i = Some owed
