-- What was done, and how a connection is left then.
use Rattle.std.proofs.Common.{◌≡◌, ℕ, List, Bool, true, false, Option, Some, None, Result, Ok, Err, sym, ap, true≢false, ◌∙◌}
use Rattle.spec_api.specs.ListQueries.{ListOptions}
use Rattle.spec_api.specs.History.{View}
use Rattle.spec_api.specs.ObjectRequests.{Request}
use Rattle.spec_api.specs.Refusals.{Refusal}
use Rattle.spec_api.specs.Targets as targets
use Rattle.spec_api.specs.Targets.{Asked}
use Rattle.spec_api.specs.Verbs.{Outcome, refused}
use Rattle.spec_api.specs.Versions.{Listed}
use Rattle.chunked.specs.declared.watched.Watched.{Watched}
use Rattle.object_keys.specs.Faults.{refusal_of}
use Rattle.http_request_reader.specs.Receiving as received
use Rattle.http_request_reader.specs.Receiving.{IsNeeded, IsWhole, Needs}
use Rattle.http_request_reader.specs.declared.received.Received.{Received}
use Rattle.http_request_head.specs.declared.fault.ReadFault.TheVariants as read
use Rattle.http_watch.specs.Watches.{Look}
use Rattle.http_watch.specs.declared.fault.Cut.TheVariants as cut
use Rattle.http_watch.specs.declared.fault.WatchFault.{WatchFault}
use Rattle.http_watch.specs.declared.fault.WatchFault.TheVariants as left
use Rattle.api.proofs.Written.{replies_fault}
use Rattle.api.specs.Serving.{AsksKnown, Concludes, Answers, Does, Reads, has_reader_failed, served_of}
use Rattle.api.specs.declared.fault.ServeFault.{ServeFault}
use Rattle.api.specs.declared.served.Served.{Served}
use Rattle.api.specs.declared.served.Served.TheVariants as served
use Rattle.api.specs.declared.fault.ServeFault.TheVariants as fault

module _ {D : Type 0} (contents : D → Option (List ℕ)) where
  concludes_fault : (served : Result (Unit {0}) WatchFault) (old new : Watched D) (r : Result (Unit {0}) ServeFault) → Concludes contents served old new r → has_reader_failed r ≡ false
  concludes_fault (Ok u) old new r c = ap has_reader_failed c.1
  concludes_fault (Err (left.Cut cut.Device)) old new r c = ap has_reader_failed c.1
  concludes_fault (Err (left.Cut cut.NoMemory)) old new r c = ap has_reader_failed c.1
  concludes_fault (Err (left.Refused e)) old new r c = replies_fault contents old new (refused (refusal_of e)) r c

module _ {S D : Type 0} (calls : S → Request → List ℕ → Outcome → S → Type 0) (lists : S → View → ListOptions → Outcome → S → Type 0)
    (begins : S → View → Option ℕ → Result Listed Refusal → S → Type 0) (watches : S → View → ℕ → ℕ → Look → S → Type 0) (contents : D → Option (List ℕ)) (moment : List ℕ)
    (s t : S) (old new : Watched D) where
  answers_fault : (a : Result targets.Asked Refusal) (r : Result (Unit {0}) ServeFault) → Answers calls lists begins watches contents moment s t old new a r → has_reader_failed r ≡ false
  answers_fault (Err f) r a = replies_fault contents old new (refused f) r a.1
  answers_fault (Ok (targets.request q)) r (o, called, w) = replies_fault contents old new o r w
  answers_fault (Ok (targets.list v options)) r (o, listed, w) = replies_fault contents old new o r w
  answers_fault (Ok (targets.watch v options)) r (mid, served, serves, c) = concludes_fault contents served mid new r c

  -- what is done of a request is no fault of the reader
  pub does_fault : (said : Option (Result targets.Asked Refusal)) (r : Result (Unit {0}) ServeFault) → Does calls lists begins watches contents moment s t old new said r → has_reader_failed r ≡ false
  does_fault None r d = ap has_reader_failed d.2
  does_fault (Some a) r d = answers_fault a r d

no_read_fault : (r : Result (Unit {0}) ServeFault) → has_reader_failed r ≡ false → r ≡ Err fault.Read → ⊥
no_read_fault r e same = cc

-- what was read of a request
pub reads_then : (before after : Option (List ℕ)) (received : Received) (r : Result (Unit {0}) ServeFault) → Needs before after (Ok received) → has_reader_failed r ≡ false → Reads before after r
reads_then before after received r (bytes, consumed, needed) e = (bytes, consumed, needed, λ same whole. no_read_fault r e same)

pub reads_out : (before after : Option (List ℕ)) (r : Result (Unit {0}) ServeFault) → Needs before after (Err read.Want) → has_reader_failed r ≡ false → Reads before after r
reads_out before after r (bytes, consumed, needed) e = (bytes, consumed, needed, λ same whole. no_read_fault r e same)

pub reads_failed : (before after : Option (List ℕ)) → Needs before after (Err read.Device) → Reads before after (Err fault.Read)
reads_failed before after (bytes, consumed, (half, needed)) = (bytes, consumed, needed, λ same whole. half whole)

-- what was received is what the connection asks
pub asks_said : (known : Option (List ℕ)) (r : Received) → received.AsksKnown known r → AsksKnown known (received.said r)
asks_said None r a = tt
asks_said (Some bytes) r a = a

-- ---- a whole request

abbrev says_asked : Result Served ServeFault → Bool
says_asked (Ok served.Asked) = true
says_asked (Ok served.NotAsked) = false
says_asked (Err f) = false

pub asked_whole : (input : Option (List ℕ)) (s : Option (Result Asked Refusal)) (r : Served) → AsksKnown input s → r ≡ served_of s → ◌≡◌ {A = Result Served ServeFault} (Ok r) (Ok served.Asked) → (asked : Asked) × AsksKnown input (Some (Ok asked))
asked_whole input (Some (Ok a)) r asks by is = (a, asks)
asked_whole input (Some (Err f)) r asks by is = absurd (true≢false (sym (ap says_asked is) ∙ ap (λ (s : Served). says_asked (Ok s)) by))
asked_whole input None r asks by is = absurd (true≢false (sym (ap says_asked is) ∙ ap (λ (s : Served). says_asked (Ok s)) by))
