-- What becomes of what is asked over connections.
use Rattle.std.specs.Prelude.{◌≡◌, ◌⊎◌, ℕ, List, length, Option, None, Some, true, false}
use Rattle.spec_api.specs.ObjectRequests.{Request}
use Rattle.chunked.specs.Devices.{device_of, has_failed}
use Rattle.chunked.specs.Reading.{place_of, answered_fault, left_of}
use Rattle.chunked.specs.declared.place.BodyPlace.TheVariants as place
use Rattle.chunked.specs.declared.reader.Reader.{Reader}
use Rattle.chunked.specs.declared.watched.Watched.{Watched}
use Rattle.http_client.specs.Calls.{IsExchanged}
use Rattle.http_client.specs.Watches.{IsMore}
use Rattle.http_client.specs.declared.answer.Answer.{Answer}
use Rattle.http_client.specs.declared.answer.Answer.TheVariants as answer
use Rattle.http_client.specs.declared.more.More.{More}
use Rattle.http_client.specs.declared.more.More.TheVariants as more
use Rattle.request_encoding.specs.Scopes.{Scope}
use Rattle.request_encoding.specs.Seen.{scope_of}
use Rattle.request_encoding.specs.Targets.{list_target, page_target, stream_target, watch_target}
use Rattle.request_encoding.specs.Texts.{can_be_told}
use Rattle.request_encoding.specs.Told.{Asks}
use Rattle.request_encoding.specs.declared.text.RequestText.{RequestText}
use Rattle.api_client.specs.Outgoing.{get_text, written}
use Rattle.api_client.specs.Begun.{IsBegun}
use Rattle.api_client.specs.Exchanges.{Exchange, list, first, watch, stream, read, understood, not_understood}
use Rattle.api_client.specs.declared.opened.Opened.{Opened}
use Rattle.api_client.specs.declared.opened.Opened.TheVariants as opened
use Rattle.api_client.specs.declared.asking.Remote.{Remote}
use Rattle.api_client.specs.declared.limits.Limits.{Limits}

module _ {C R W : Type 0} where
  -- the limits of a server
  abbrev pub limits_of : Remote C R W → Limits
  limits_of r = r.limits

  -- what its lists and watches are of
  abbrev pub scope_at : Remote C R W → Scope
  scope_at r = scope_of r.scope

  -- what connects to it
  abbrev pub connector_at : Remote C R W → C
  connector_at r = r.connector

  -- the watch that is open, if one is
  abbrev pub watch_at : Remote C R W → Option (Reader R)
  watch_at r = r.watch

  -- how much of an answer is taken in, and what is asked for, stay as they were
  abbrev pub Stays : Remote C R W → Remote C R W → Type 0
  Stays before after = (limits_of after ≡ limits_of before) × (scope_at after ≡ scope_at before)

  -- and so does the watch
  abbrev pub Keeps : Remote C R W → Remote C R W → Type 0
  Keeps before after = Stays before after × (watch_at after ≡ watch_at before)

-- where a watch is open, it is read from its beginning, which is left of the connection; else none is
abbrev pub IsWatchedFrom : {R : Type 0} → (R → Option (List ℕ)) → Option (List ℕ) → Opened → Option (Reader R) → Type 0
IsWatchedFrom {R = R} remaining left opened.Open w = (r : Reader R) × (w ≡ Some r) × (left_of remaining r ≡ left) × (place_of r ≡ place.Line) × (answered_fault r ≡ None)
IsWatchedFrom remaining left opened.Expired w = w ≡ None
IsWatchedFrom remaining left (opened.Refused code wait) w = w ≡ None
IsWatchedFrom remaining left opened.Lost w = w ≡ None

module _ {C R W : Type 0} (connects : C → Option (R × W) → C → Type 0) (remaining : R → Option (List ℕ)) (contents : W → Option (List ℕ)) where
  -- no connection was tried, or none came about
  abbrev pub IsUnconnected : C → C → Type 0
  IsUnconnected before after = (after ≡ before) ⊎ connects before None after

  -- a text was written to the writer of the one connection that was made, whole or, as it failed, a beginning of it; and a reply is what that connection's
  -- reader then said, with a body no longer than this
  abbrev pub IsExchangedOver : ℕ → List ℕ → C → Answer → C → Type 0
  IsExchangedOver most text before a after =
      (reader : R) × (old : Watched W) × (new : Watched W) × connects before (Some (reader, device_of old)) after × (has_failed old ≡ false)
      × IsExchanged contents text most (remaining reader) old new a

  -- where nothing was sent, there was no connection to write to
  abbrev pub IsSent : ℕ → List ℕ → C → Answer → C → Type 0
  IsSent most text before answer.NotSent after = IsUnconnected before after
  IsSent most text before answer.Lost after = IsExchangedOver most text before answer.Lost after
  IsSent most text before (answer.Replied r) after = IsExchangedOver most text before (answer.Replied r) after

  -- a request can be told over HTTP, and a text of it was sent
  abbrev pub IsCalled : ℕ → Request → C → Answer → C → Type 0
  IsCalled most q before answer.NotSent after = IsUnconnected before after
  IsCalled most q before answer.Lost after = (t : RequestText) × (can_be_told q ≡ true) × Asks q t × IsSent most (written t) before answer.Lost after
  IsCalled most q before (answer.Replied r) after = (t : RequestText) × (can_be_told q ≡ true) × Asks q t × IsSent most (written t) before (answer.Replied r) after

  -- a text was written to the writer of the one connection that was made for a watch, which then began as this says
  abbrev pub IsBegunOver : List ℕ → C → Opened → C → Option (Reader R) → Type 0
  IsBegunOver text before o after w =
      (reader : R) × (old : Watched W) × (new : Watched W) × (left : Option (List ℕ)) × connects before (Some (reader, device_of old)) after × (has_failed old ≡ false)
      × IsBegun contents text (remaining reader) left old new o × IsWatchedFrom remaining left o w

  -- or it is lost, as there was no connection
  abbrev pub IsOpened : List ℕ → C → Opened → C → Option (Reader R) → Type 0
  IsOpened text before o after w = IsBegunOver text before o after w ⊎ ((o ≡ opened.Lost) × (w ≡ None) × IsUnconnected before after)

-- what comes next of a watch is read, if one is open, and where there is room for it
abbrev pub IsReadOn : {R : Type 0} → (R → Option (List ℕ)) → Option (Reader R) → More → List ℕ → Option (Reader R) → Type 0
IsReadOn remaining None m buffer after = (m ≡ more.Cut) × (after ≡ None)
IsReadOn {R = R} remaining (Some old) m buffer after =
    ((new : Reader R) × (after ≡ Some new) × IsMore remaining old new buffer m) ⊎ ((length buffer ≡ 0) × (m ≡ more.Cut) × (after ≡ Some old))

-- what is asked of a server over connections for the copy of a kind, and what comes; what was understood is told to nobody
module _ {C R W : Type 0} (connects connects_to_watch : C → Option (R × W) → C → Type 0) (remaining : R → Option (List ℕ)) (contents : W → Option (List ℕ)) where
  abbrev pub Exchanges : Remote C R W → Exchange → Remote C R W → Type 0
  Exchanges before (list k a) after =
      IsSent connects remaining contents (limits_of before).list (get_text (list_target (scope_at before) k)) (connector_at before) a (connector_at after) × Keeps before after
  Exchanges before (first k r a) after =
      IsSent connects remaining contents (limits_of before).object (get_text (page_target (scope_at before) k 1 r)) (connector_at before) a (connector_at after)
      × Keeps before after
  Exchanges before (watch k r o) after =
      IsOpened connects_to_watch remaining contents (get_text (watch_target (scope_at before) k r)) (connector_at before) o (connector_at after) (watch_at after)
      × Stays before after
  Exchanges before (stream k o) after =
      IsOpened connects_to_watch remaining contents (get_text (stream_target (scope_at before) k)) (connector_at before) o (connector_at after) (watch_at after)
      × Stays before after
  Exchanges before (read m buffer) after =
      IsReadOn remaining (watch_at before) m buffer (watch_at after) × (connector_at after ≡ connector_at before) × Stays before after
  Exchanges before understood after = after ≡ before
  Exchanges before (not_understood bytes) after = after ≡ before
