-- A server that is what a history gives answers as the history does.
use Rattle.std.proofs.Common.{◌≡◌, ◌⊎◌, inl, inr, ℕ, List, [], Option, sym, ap, ◌∙◌, subst, Result, Ok, Err}
use Rattle.spec_api.specs.ListQueries.{ListOptions}
use Rattle.spec_api.specs.History.{History, present, View, viewed}
use Rattle.spec_api.specs.Lists.{list_outcome}
use Rattle.spec_api.specs.ObjectRequests.{Request}
use Rattle.spec_api.specs.Refusals.{Refusal, no_memory}
use Rattle.spec_api.specs.Verbs.{accept, accept_at}
use Rattle.spec_api.specs.Versions.{Listed, watched_from}
use Rattle.object_keys.specs.declared.fault.Fault.{Fault}
use Rattle.spec_laws.proofs.ServerAnswers.{pages_held, watches_held}
use Rattle.spec_laws.proofs.ServerHistories.{opened_holds, entries_hold, accepted_holds}
use Rattle.spec_server.specs.Servers.{Server, opened_server, after_entries, list_served, watch_by, IsServerAfter}
use Rattle.api.specs.Alone.{BeginsAlone}
use Rattle.http_watch.specs.Given.{GivesBegun, there_from}
use Rattle.http_watch.specs.declared.begun.Begun.{Begun}
use Rattle.desk.specs.Told.{IsThere}

abbrev pub IsAfter : ℕ → History → Server → Type 0
IsAfter size h s = s ≡ after_entries (opened_server size) h

pub follows : (size : ℕ) (h : History) (s : Server) → IsAfter size h s → IsServerAfter size s h
follows size h s is = subst (λ (z : Server). IsServerAfter size z h) (sym is) (entries_hold size (opened_server size) [] h (opened_holds size))

pub same_answer : (size : ℕ) (h : History) (s : Server) (q : Request) (moment : List ℕ) → IsAfter size h s → accept_at q s.snapshot.members s.snapshot.revision moment ≡ accept q h moment
same_answer size h s q moment is = (accepted_holds size s h q moment (follows size h s is)).0

pub same_list : (size : ℕ) (h : History) (s : Server) (v : View) (o : ListOptions) → IsAfter size h s → list_served s v o ≡ list_outcome size h v o
same_list size h s v o is = pages_held size s h v o (follows size h s is)

pub same_watch : (size : ℕ) (h : History) (s : Server) (v : View) (a n : ℕ) → IsAfter size h s → watch_by s v a n ≡ watched_from size h v a n
same_watch size h s v a n is = watches_held size s h v a n (follows size h s is)

pub same_present : (size : ℕ) (h : History) (s : Server) → IsAfter size h s → s.snapshot.revision ≡ present h
same_present size h s is = ap (λ z. z.revision) (follows size h s is).0

-- what is there is what the history left there
there : (size : ℕ) (h : History) (s : Server) (v : View) (least : Option ℕ) (l : Result Listed Refusal) → IsAfter size h s → BeginsAlone s v least l s → IsThere h v least l
there size h s v least l is begins = by begins.0
  where
    by : ((l ≡ there_from s.snapshot.revision (viewed v s.snapshot.members) least) ⊎ (l ≡ Err no_memory)) → IsThere h v least l
    by (inl same) = inl (same ∙ ap (λ z. there_from z.revision (viewed v z.members) least) (follows size h s is).0)
    by (inr none) = inr none

pub begun_there : (size : ℕ) (h : History) (s : Server) (v : View) (least : Option ℕ) (r : Result Begun Fault) → IsAfter size h s → GivesBegun (λ l. BeginsAlone s v least l s) r → GivesBegun (IsThere h v least) r
begun_there size h s v least (Ok b) is g = there size h s v least _ is g
begun_there size h s v least (Err e) is g = there size h s v least _ is g
