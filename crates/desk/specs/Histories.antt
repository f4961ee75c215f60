-- The histories of a store that threads share: how one begins, and what may happen next.
use Rattle.std.specs.Prelude.{◌≡◌, ◌≤◌, ℕ, List, true, Option, Some, option_map}
use Rattle.baton.specs.Marks.{entries, CanHappen}
use Rattle.spec_api.specs.History.{History, Write, Entry, write, compaction, present}
use Rattle.spec_api.specs.Moments.{is_moment}
use Rattle.spec_api.specs.ObjectRequests.{Request}
use Rattle.spec_api.specs.Reached.{IsReached}
use Rattle.spec_api.specs.Verbs.{accept, write_of}
use Rattle.spec_laws.specs.Happening as happening
use Rattle.spec_server.specs.Servers.{Server, opened_server}
use Rattle.desk.specs.Askings.{IsReadable}

-- nothing is there in a store that opens, whatever the size of its windows
abbrev pub IsOpening : Server → Type 0
IsOpening s = (size : ℕ) × (s ≡ opened_server size)

-- the entry of an answer's write, if it has one
abbrev pub written : Option Write → Option Entry
written w = option_map write w

module _ (may_ask : Request → Type 0) where
  -- a write comes after a history if a request that may be asked, at some moment, writes it there; a compaction, if it reaches no
  -- further than the present revision
  abbrev pub Comes : History → Entry → Type 0
  Comes h (write w) = (q : Request) × (moment : List ℕ) × may_ask q × (is_moment moment ≡ true) × (write_of (accept q h moment) ≡ Some w)
  Comes h (compaction r) = r ≤ present h

  -- whichever pass it is of
  abbrev pub MayFollow : List (ℕ × Entry) → ℕ → Entry → Type 0
  MayFollow h name e = Comes (entries h) e

  -- all that has happened came so
  abbrev pub HasCome : List (ℕ × Entry) → Type 0
  HasCome h = CanHappen MayFollow h

-- where only requests that can be read are asked, what has happened is reached
abbrev pub ReadHistoriesAreReached : Type 0
ReadHistoriesAreReached = (h : List (ℕ × Entry)) → HasCome IsReadable h → IsReached (entries h)

-- whatever is asked, no compaction reaches further than what had happened before it
abbrev pub HistoriesCanHappen : (Request → Type 0) → Type 0
HistoriesCanHappen may_ask = (h : List (ℕ × Entry)) → HasCome may_ask h → happening.CanHappen (entries h)
