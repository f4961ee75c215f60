-- Where a connection stands, by all that was read of it and all that was written.
use Rattle.std.specs.Prelude.{◌≡◌, ◌⊎◌, ℕ, List, [], ◌++◌, length, nat_lt, take, Bool, true, Option, Some, None, Result, Ok, ⊤}
use Rattle.std.specs.Io.KnownBytes.{Consumes, Appends}
use Rattle.spec_api.specs.ListQueries.{ListOptions, WatchOptions}
use Rattle.spec_api.specs.History.{View}
use Rattle.spec_api.specs.ObjectRequests.{Request}
use Rattle.spec_api.specs.Refusals.{Refusal}
use Rattle.spec_api.specs.Targets as targets
use Rattle.spec_api.specs.Verbs.{Outcome}
use Rattle.spec_api.specs.Versions.{Listed}
use Rattle.request_decoding.specs.Asked.{asked_seen}
use Rattle.spec_http.specs.Connections.{Asks}
use Rattle.selector.specs.Views.{view_of}
use Rattle.http_watch.specs.Watches.{Look}
use Rattle.http_watch.specs.declared.standing.WatchStanding.{WatchStanding}
use Rattle.api.specs.Responding.{text_of, Replies, Responds}
use Rattle.api.specs.declared.response.Response.{Response}
use Rattle.api.specs.declared.response.Response.TheVariants as response
use Rattle.api.specs.declared.served.Served.{Served}
use Rattle.api.specs.declared.served.Served.TheVariants as served
use Rattle.http_connection.specs.declared.phase.ConnectionPhase.{ConnectionPhase}
use Rattle.http_connection.specs.declared.phase.ConnectionPhase.TheVariants as phase
use Rattle.http_connection.specs.declared.listing.Listing.{Listing}
use Rattle.http_connection.specs.declared.replying.Replying.{Replying}
use Rattle.http_connection.specs.declared.watching.Watching.{Watching}
use Rattle.http_connection.specs.Arriving.{IsArriving, IsRefusal}
use Rattle.http_connection.specs.Deeds as deeds
use Rattle.http_connection.specs.Deeds.{Deed, looks_of, IsDone, IsKept, IsLookedOn}
use Rattle.http_connection.specs.Lists.{list_left}
use Rattle.http_connection.specs.Watches.{IsGiven, StandsAfter, text_by_then, unwritten, IsBounded}

-- so it is, where a connection is to be closed
abbrev pub IfOver : ConnectionPhase → Type 0 → Type 0
IfOver (phase.Closing s) so = so
IfOver (phase.Reading a) so = ⊤
IfOver (phase.Asked a) so = ⊤
IfOver phase.Answering so = ⊤
IfOver (phase.Replying r) so = ⊤
IfOver (phase.Listing l) so = ⊤
IfOver (phase.Watching w) so = ⊤

-- a connection comes to a request that was done only by a whole one
abbrev pub IsServedBy : List ℕ → Served → Type 0
IsServedBy read s = s ≡ served.Asked → (a : targets.Asked) × Asks read (Some (Ok a))

-- a connection is to be written this response, of which nothing is
abbrev pub IsToBeWritten : Response → ConnectionPhase → Type 0
IsToBeWritten response.Nothing result = result ≡ phase.Closing served.NotAsked
IsToBeWritten (response.Reply x) result = (r : Replying) × (result ≡ phase.Replying r) × (r.text ≡ x) × (r.taken ≡ 0) × (r.served ≡ served.Asked)
IsToBeWritten (response.List x) result = (l : Listing) × (result ≡ phase.Listing l) × (l.out.items ≡ []) × (l.taken ≡ 0) × (l.rest ≡ x)
IsToBeWritten (response.Watch x) result =
    (w : Watching) × (result ≡ phase.Watching w) × (w.view ≡ x.view) × (w.bookmarks ≡ x.bookmarks) × (w.at ≡ Some x.opened.at)
    × (w.out ≡ x.opened.text) × (w.taken ≡ 0) × (w.rest ≡ x.opened.rest) × (w.later.items ≡ []) × (w.at_once ≡ length w.out.items)

module _ {S : Type 0} (calls : S → Request → List ℕ → Outcome → S → Type 0) (lists : S → View → ListOptions → Outcome → S → Type 0)
    (begins : S → View → Option ℕ → Result Listed Refusal → S → Type 0) (watches : S → View → ℕ → ℕ → Look → S → Type 0) where
  -- what is asked was done, and its reply is to be written, or its watch
  abbrev pub Answers : List ℕ → S → S → targets.Asked → ConnectionPhase → Type 0
  Answers moment s t a result = (r : Response) × Responds calls lists begins watches moment s t (Some (Ok a)) r × IsToBeWritten r result

  -- this is the text of why the bytes are refused, or of the reply to what they ask, which was done at that moment, from that state to that
  abbrev pub IsReply : List ℕ → Deed S → List ℕ → Type 0
  IsReply read deeds.nothing text = ⊥
  IsReply read (deeds.refused x) text = (text ≡ x) × IsRefusal read x
  IsReply read (deeds.answered moment s t x) text = (text ≡ x) × ((a : targets.Asked) × Asks read (Some (Ok a)) × Replies calls lists begins watches moment s t (Ok a) x)
  IsReply read (deeds.watched s t o gs) text = ⊥

  -- the bytes ask for a watch, which is to be written this by now, and stands here: it has opened so, and was given these looks
  abbrev pub IsWatch : List ℕ → Deed S → View → Bool → Option WatchStanding → List ℕ → Type 0
  IsWatch read deeds.nothing v bookmarks at text = ⊥
  IsWatch read (deeds.refused x) v bookmarks at text = ⊥
  IsWatch read (deeds.answered moment s t x) v bookmarks at text = ⊥
  IsWatch read (deeds.watched s t o gs) v bookmarks at text =
      (options : WatchOptions) × Asks read (Some (Ok (targets.watch v options))) × (bookmarks ≡ options.bookmarks) × IsGiven begins watches v bookmarks options.start s t o gs
      × (StandsAfter bookmarks o (looks_of gs) at × (text ≡ text_by_then v.kind bookmarks o (looks_of gs) at))

  -- a connection of which these bytes were read, and for which this was done, is to be written this by now
  abbrev pub IsText : List ℕ → Deed S → List ℕ → Type 0
  IsText read d text =
      ((d ≡ deeds.nothing) × (text ≡ [])) ⊎ IsReply read d text ⊎ ((v : View) × (bookmarks : Bool) × (at : Option WatchStanding) × IsWatch read d v bookmarks at text)

  -- this is all that it is to be written
  abbrev pub IsWhole : List ℕ → Deed S → List ℕ → Type 0
  IsWhole read d text = IsReply read d text ⊎ ((v : View) × (bookmarks : Bool) × IsWatch read d v bookmarks None text)

  -- all that was read, done and written so far has led here
  abbrev pub Stands : ConnectionPhase → List ℕ → List ℕ → Deed S → Type 0
  Stands (phase.Reading a) read written d = IsArriving a read × (written ≡ []) × (d ≡ deeds.nothing)
  Stands (phase.Asked a) read written d = Asks read (Some (Ok (asked_seen a))) × (written ≡ []) × (d ≡ deeds.nothing)
  Stands phase.Answering read written d = ((a : targets.Asked) × Asks read (Some (Ok a))) × (written ≡ []) × (d ≡ deeds.nothing)
  Stands (phase.Replying r) read written d = IsReply read d (text_of r.text) × (written ≡ take r.taken (text_of r.text)) × IsServedBy read r.served
  Stands (phase.Listing l) read written d = IsReply read d (written ++ list_left l) × IsServedBy read served.Asked
  Stands (phase.Watching w) read written d = IsWatch read d (view_of w.view) w.bookmarks w.at (written ++ unwritten w) × IsBounded w
  Stands (phase.Closing s) read written d = ((text : List ℕ) × (left : List ℕ) × IsText read d text × (written ++ left ≡ text)) × IsServedBy read s

  -- ---- steps

  -- what is asked is done at a moment, from one state to the other
  abbrev pub StandsAnswered : List ℕ → S → S → ConnectionPhase → ConnectionPhase → Type 0
  StandsAnswered moment s t before after =
      (read written : List ℕ) → Stands before read written deeds.nothing → (e : Deed S) × IsDone moment s t e × Stands after read written e

  -- a look is given, from one state to the other, or none
  abbrev pub StandsLooked : S → S → ConnectionPhase → ConnectionPhase → Type 0
  StandsLooked s t before after =
      (read written : List ℕ) (d : Deed S) → Stands before read written d → (e : Deed S) × IsLookedOn d s t e × Stands after read written e

  -- nothing is done
  abbrev pub StandsOn : ConnectionPhase → ConnectionPhase → Type 0
  StandsOn before after = (read written : List ℕ) (d : Deed S) → Stands before read written d → Stands after read written d

  -- why a connection may be closed that stood here, by what was read, done and written: half a request, of whose peer no more comes; a reply, or a watch that
  -- is over, written to its end; a peer that takes no more; or a watch that may want memory, or more room, for what it opened with. A request that is whole
  -- is not closed
  abbrev pub MayClose : (no_more no_room : Bool) → ConnectionPhase → List ℕ → Deed S → List ℕ → Type 0
  MayClose no_more no_room (phase.Reading a) read d written =
      ((no_more ≡ true) × Asks read None × (d ≡ deeds.nothing)) ⊎ ((text : List ℕ) × (d ≡ deeds.refused text) × ((no_room ≡ true) ⊎ IsWhole read d written))
  MayClose no_more no_room (phase.Asked a) read d written = ⊥
  MayClose no_more no_room phase.Answering read d written = ⊥
  MayClose no_more no_room (phase.Replying r) read d written = (no_room ≡ true) ⊎ IsWhole read d written
  MayClose no_more no_room (phase.Listing l) read d written = (no_room ≡ true) ⊎ IsWhole read d written
  MayClose no_more no_room (phase.Watching w) read d written = (no_room ≡ true) ⊎ IsWhole read d written ⊎ (nat_lt 0 (length w.rest) ≡ true)
  MayClose no_more no_room (phase.Closing s) read d written = ⊤

  -- some more was read, and some more written of the same text; what is closed is closed for a reason
  abbrev pub Turns : (no_more no_room : Bool) (unread left held holds : Option (List ℕ)) → ConnectionPhase → ConnectionPhase → Type 0
  Turns no_more no_room unread left held holds before after =
      (read written : List ℕ) (d : Deed S) → Stands before read written d
      → (more : List ℕ) × (put : List ℕ) × (e : Deed S) × IsKept d e × Consumes unread left more × Appends held holds put
      × Stands after (read ++ more) (written ++ put) e × IfOver after (MayClose no_more no_room before (read ++ more) e (written ++ put))
