-- What is asked at a seat, as a relation between the seat before and after.
use Rattle.std.specs.Prelude.{◌≡◌, ℕ, List, Option, Result}
use Rattle.baton.specs.declared.views.Known.{Known}
use Rattle.spec_api.specs.declared.kinds.Kind.{Kind}
use Rattle.spec_api.specs.ListQueries.{ListOptions}
use Rattle.spec_api.specs.History.{Entry, View}
use Rattle.spec_api.specs.ObjectRequests.{Request}
use Rattle.spec_api.specs.Refusals.{Refusal}
use Rattle.spec_api.specs.Verbs.{Outcome, write_of}
use Rattle.spec_api.specs.Versions.{Listed, Watched}
use Rattle.spec_server.specs.Servers.{Server}
use Rattle.desk.specs.Asked.{CallsAt, ListsAt, WatchesAt, BeginsAt, Hears}
use Rattle.desk.specs.Desks.{known}
use Rattle.desk.specs.declared.desks.Desk.{Desk}
use Rattle.desk.specs.declared.seats.Seat.{Seat}

-- the desk of a seat, what its pass knows, and what is told of its writes
abbrev pub desk_at : {A L R : Type 0} → Seat A L R → Desk A
desk_at s = s.desk.now

abbrev pub known_at : {A L R : Type 0} → Seat A L R → Known Server Entry
known_at s = known s.pass

abbrev pub listener_at : {A L R : Type 0} → Seat A L R → L
listener_at s = s.listener

module _ {A L R : Type 0} where
  -- the seat stays at its desk
  abbrev pub Stays : Seat A L R → Seat A L R → Type 0
  Stays s t = desk_at t ≡ desk_at s

  -- and its listener hears of nothing
  abbrev pub IsQuiet : Seat A L R → Seat A L R → Type 0
  IsQuiet s t = Stays s t × (listener_at t ≡ listener_at s)

module _ {A L R : Type 0} (may_ask : Request → Type 0) where
  -- a request is answered at the history that the pass then sees, and the listener hears of the kind of its write
  abbrev pub Calls : (Kind → L → L → Type 0) → Seat A L R → Request → List ℕ → Outcome → Seat A L R → Type 0
  Calls hears s q moment o t = CallsAt may_ask (known_at s) q moment o (known_at t) × Hears hears (write_of o) (listener_at s) (listener_at t) × Stays s t

  abbrev pub Lists : Seat A L R → View → ListOptions → Outcome → Seat A L R → Type 0
  Lists s view options o t = ListsAt may_ask (known_at s) view options o (known_at t) × IsQuiet s t

  abbrev pub Watches : Seat A L R → View → ℕ → ℕ → Result Watched Refusal → Seat A L R → Type 0
  Watches s view after most r t = WatchesAt may_ask (known_at s) view after most r (known_at t) × IsQuiet s t

  abbrev pub Begins : Seat A L R → View → Option ℕ → Result Listed Refusal → Seat A L R → Type 0
  Begins s view least l t = BeginsAt may_ask (known_at s) view least l (known_at t) × IsQuiet s t
