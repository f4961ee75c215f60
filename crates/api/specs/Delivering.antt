-- Responses that are written.
use Rattle.std.specs.Prelude.{◌≡◌, ℕ, List, Option, Result, Ok, Err}
use Rattle.spec_api.specs.History.{View}
use Rattle.chunked.specs.declared.watched.Watched.{Watched}
use Rattle.selector.specs.Views.{view_of}
use Rattle.http_watch.specs.declared.fault.Cut.{Cut}
use Rattle.http_watch.specs.declared.fault.Cut.TheVariants as cut
use Rattle.http_watch.specs.Opened.{opening_of}
use Rattle.http_watch.specs.Served.{Follows}
use Rattle.http_watch.specs.Watches.{Look}
use Rattle.api.specs.Replying.{Sends}
use Rattle.api.specs.Responding.{text_of}
use Rattle.api.specs.declared.fault.ServeFault.{ServeFault}
use Rattle.api.specs.declared.fault.ServeFault.TheVariants as fault
use Rattle.api.specs.declared.response.OpenWatch.{OpenWatch}
use Rattle.api.specs.declared.response.Response.{Response}
use Rattle.api.specs.declared.response.Response.TheVariants as response

-- how a connection is left whose watch is left so
abbrev pub after_watch : Result (Unit {0}) Cut → Result (Unit {0}) ServeFault
after_watch (Ok u) = Ok u
after_watch (Err cut.Device) = Err fault.Write
after_watch (Err cut.NoMemory) = Err fault.NoMemory

module _ {S D : Type 0} (watches : S → View → ℕ → ℕ → Look → S → Type 0) (contents : D → Option (List ℕ)) (s t : S) (old new : Watched D) where
  -- what a watch opened with was written, and then the frames of its looks
  abbrev pub GoesOn : OpenWatch → Result (Unit {0}) ServeFault → Type 0
  GoesOn w result =
      (followed : Result (Unit {0}) Cut)
      × Follows watches (view_of w.view) w.bookmarks contents s t old new (opening_of w.opened) w.opened.at.revision w.opened.at.idle followed
      × (result ≡ after_watch followed)

  -- a reply was written, or a watch; nothing where nothing is to be; no list that is made as it is written
  abbrev pub Delivers : Response → Result (Unit {0}) ServeFault → Type 0
  Delivers response.Nothing result = (t ≡ s) × (new ≡ old) × (result ≡ Ok tt)
  Delivers (response.Reply x) result = (t ≡ s) × Sends contents old new (text_of x) result
  Delivers (response.List l) result = ⊥
  Delivers (response.Watch w) result = GoesOn w result
