-- What a loop makes of the server that it asks.
use Rattle.std.specs.Prelude.{◌≡◌, ◌≤◌, ◌+◌, ℕ, zero, suc, List, Option, Some, Result, Ok}
use Rattle.spec_api.specs.ListQueries.{ListOptions}
use Rattle.spec_api.specs.History.{View}
use Rattle.spec_api.specs.ObjectRequests.{Request}
use Rattle.spec_api.specs.Refusals.{Refusal}
use Rattle.spec_api.specs.Targets as targets
use Rattle.spec_api.specs.Verbs.{Outcome}
use Rattle.spec_api.specs.Versions.{Listed}
use Rattle.http_watch.specs.Watches.{Look, most_events}
use Rattle.api.specs.Responding.{Responds}
use Rattle.api.specs.declared.response.Response.{Response}
use Rattle.http_connection.specs.Arriving.{IsAskedBySome}
use Rattle.http_event_loop.specs.declared.asker.Asker.{Asker}

-- it asks this server, and has not yet
abbrev pub IsNewAsker : {S L : Type 0} → S → Asker S L → Type 0
IsNewAsker s a = (a.site ≡ s) × (a.taken.count ≡ 0) × (a.asked ≡ 0)

-- between the two as many turns were taken as was asked, or more
abbrev pub IsPaid : {S L : Type 0} → Asker S L → Asker S L → Type 0
IsPaid a b = b.asked + a.taken.count ≤ a.asked + b.taken.count

module _ {S : Type 0} (calls : S → Request → List ℕ → Outcome → S → Type 0) (lists : S → View → ListOptions → Outcome → S → Type 0)
    (begins : S → View → Option ℕ → Result Listed Refusal → S → Type 0) (watches : S → View → ℕ → ℕ → Look → S → Type 0) where
  -- what one connection asks is done at some moment: a request, a list, or the beginning of a watch. There are bytes that ask it
  abbrev pub IsRequest : S → S → Type 0
  IsRequest s t = (moment : List ℕ) × (a : targets.Asked) × (r : Response) × IsAskedBySome a × Responds calls lists begins watches moment s t (Some (Ok a)) r

  -- a watch is given a look
  abbrev pub IsLook : S → S → Type 0
  IsLook s t = (v : View) × (at : ℕ) × (look : Look) × watches s v at most_events look t

  -- so many looks, one after another
  abbrev pub AreLooks : ℕ → S → S → Type 0
  AreLooks zero s t = t ≡ s
  AreLooks (suc k) s t = (mid : S) × AreLooks k s mid × IsLook mid t

  -- so many requests, one after another, with looks before, between and after them
  abbrev pub AreAsked : ℕ → S → S → Type 0
  AreAsked zero s t = (k : ℕ) × AreLooks k s t
  AreAsked (suc n) s t = (before : S) × (after : S) × AreAsked n s before × IsRequest before after × ((k : ℕ) × AreLooks k after t)

  -- between the two so much was asked as was counted
  pub record HasAsked {L : Type 0} (a b : Asker S L) : Type 0 where
    pub requests : ℕ
    pub chain : AreAsked requests a.site b.site
    pub counted : b.asked ≡ a.asked + requests
    pub taken : a.taken.count ≤ b.taken.count
