-- What becomes of a connection.
use Rattle.std.specs.Prelude.{◌≡◌, ◌⊎◌, ℕ, List, Bool, true, false, Option, Some, None, Result, Ok, Err, ⊤}
use Rattle.std.specs.Io.KnownBytes.{Consumes}
use Rattle.spec_api.specs.ListQueries.{ListOptions}
use Rattle.spec_api.specs.History.{View}
use Rattle.spec_api.specs.ObjectRequests.{Request}
use Rattle.spec_api.specs.Refusals.{Refusal, no_memory}
use Rattle.spec_api.specs.Replies.{outcome}
use Rattle.spec_api.specs.Targets.{Asked, request, list, watch}
use Rattle.spec_api.specs.Verbs.{Outcome, refused}
use Rattle.spec_api.specs.Versions.{Listed}
use Rattle.chunked.specs.declared.watched.Watched.{Watched}
use Rattle.spec_http.specs.Connections.{Asks}
use Rattle.spec_http.specs.Replies.{reply_text}
use Rattle.object_keys.specs.Faults.{refusal_of}
use Rattle.http_request_reader.specs.Receiving.{IsWhole, IsNeeded}
use Rattle.http_watch.specs.Served.{Serves}
use Rattle.http_watch.specs.Watches.{Look}
use Rattle.http_watch.specs.declared.fault.Cut.TheVariants as cut
use Rattle.http_watch.specs.declared.fault.WatchFault.{WatchFault}
use Rattle.http_watch.specs.declared.fault.WatchFault.TheVariants as left
use Rattle.api.specs.Replying.{Sends, Replies}
use Rattle.api.specs.declared.fault.ServeFault.{ServeFault}
use Rattle.api.specs.declared.fault.ServeFault.TheVariants as fault
use Rattle.api.specs.declared.served.Served.{Served}
use Rattle.api.specs.declared.served.Served.TheVariants as served

-- ---- what a connection asks

-- all the bytes of a connection, where they are known, ask this
abbrev pub AsksKnown : Option (List ℕ) → Option (Result Asked Refusal) → Type 0
AsksKnown None said = ⊤
AsksKnown (Some bytes) said = Asks bytes said

-- no more is read than a request needs, and a reader that fails does so before a request is whole
abbrev pub Reads : Option (List ℕ) → Option (List ℕ) → Result (Unit {0}) ServeFault → Type 0
Reads before after result = (bytes : List ℕ) × Consumes before after bytes × IsNeeded bytes × (result ≡ Err fault.Read → IsWhole bytes → ⊥)

-- whether the reader has failed, by how a connection is left
abbrev pub has_reader_failed : Result (Unit {0}) ServeFault → Bool
has_reader_failed (Err fault.Read) = true
has_reader_failed (Err fault.Write) = false
has_reader_failed (Err fault.NoMemory) = false
has_reader_failed (Ok u) = false

-- how a connection is left, whatever it came to
abbrev pub how_left : Result Served ServeFault → Result (Unit {0}) ServeFault
how_left (Ok s) = Ok tt
how_left (Err f) = Err f

-- what a connection came to by what it asked
abbrev pub served_of : Option (Result Asked Refusal) → Served
served_of None = served.NotAsked
served_of (Some (Err f)) = served.NotAsked
served_of (Some (Ok asked)) = served.Asked

-- a server is asked only by a whole request
abbrev pub AsksWhole : Option (List ℕ) → Result Served ServeFault → Type 0
AsksWhole input result = result ≡ Ok served.Asked → (asked : Asked) × AsksKnown input (Some (Ok asked))

-- ---- what is done

module _ {D : Type 0} (contents : D → Option (List ℕ)) where
  -- after a watch was served so: one that is refused is replied to
  abbrev pub Concludes : Result (Unit {0}) WatchFault → Watched D → Watched D → Result (Unit {0}) ServeFault → Type 0
  Concludes (Ok u) old new result = (new ≡ old) × (result ≡ Ok u)
  Concludes (Err (left.Cut cut.Device)) old new result = (new ≡ old) × (result ≡ Err fault.Write)
  Concludes (Err (left.Cut cut.NoMemory)) old new result = (new ≡ old) × (result ≡ Err fault.NoMemory)
  Concludes (Err (left.Refused e)) old new result = Replies contents old new (refused (refusal_of e)) result

module _ {S D : Type 0} (calls : S → Request → List ℕ → Outcome → S → Type 0) (lists : S → View → ListOptions → Outcome → S → Type 0)
    (begins : S → View → Option ℕ → Result Listed Refusal → S → Type 0) (watches : S → View → ℕ → ℕ → Look → S → Type 0) (contents : D → Option (List ℕ)) (moment : List ℕ)
    (s t : S) (old new : Watched D) where
  -- what is asked was done, and its reply written; a request that is refused before a server is asked changes nothing
  abbrev pub Answers : Result Asked Refusal → Result (Unit {0}) ServeFault → Type 0
  Answers (Err f) result = (t ≡ s) × Replies contents old new (refused f) result
  Answers (Ok (request q)) result = (o : Outcome) × calls s q moment o t × Replies contents old new o result
  Answers (Ok (list v options)) result = (o : Outcome) × lists s v options o t × Replies contents old new o result
  Answers (Ok (watch v options)) result =
      (mid : Watched D) × (served : Result (Unit {0}) WatchFault) × Serves begins watches v options.bookmarks contents s t old mid options.start served × Concludes contents served mid new result

  -- nothing is done where nothing is asked
  abbrev pub Does : Option (Result Asked Refusal) → Result (Unit {0}) ServeFault → Type 0
  Does None result = (t ≡ s) × (new ≡ old) × (result ≡ Ok tt)
  Does (Some asked) result = Answers asked result

  -- what the connection asks was done; or its reader failed, and nothing was done; or out of memory before a server was asked, and that was replied
  abbrev pub ServesOne : Option (List ℕ) → Result (Unit {0}) ServeFault → Type 0
  ServesOne input result =
      ((said : Option (Result Asked Refusal)) × AsksKnown input said × Does said result)
      ⊎ ((t ≡ s) × (new ≡ old) × (result ≡ Err fault.Read))
      ⊎ ((t ≡ s) × Sends contents old new (reply_text (outcome (refused no_memory))) result)
