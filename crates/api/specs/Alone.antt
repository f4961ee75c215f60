-- What a server answers that one thread owns: what its state says, or that memory ran out, which changes nothing.
use Rattle.std.specs.Prelude.{◌≡◌, ◌⊎◌, ℕ, List, Option, Result, Err}
use Rattle.spec_api.specs.ListQueries.{ListOptions}
use Rattle.spec_api.specs.History.{View, viewed}
use Rattle.spec_server.specs.Servers.{list_served, Server, after_writing, watch_by}
use Rattle.spec_api.specs.Refusals.{Refusal, no_memory}
use Rattle.spec_api.specs.Verbs.{Outcome, refused, write_of, accept_at}
use Rattle.spec_api.specs.ObjectRequests.{Request}
use Rattle.spec_api.specs.Versions.{Listed, Watched}
use Rattle.http_watch.specs.Given.{there_from}

-- the outcome of a request, whose write is then written
abbrev pub CallsAlone : Server → Request → List ℕ → Outcome → Server → Type 0
CallsAlone s q moment o t =
    ((o ≡ accept_at q s.snapshot.members s.snapshot.revision moment) ⊎ (o ≡ refused no_memory)) × (t ≡ after_writing s (write_of o))

abbrev pub ListsAlone : Server → View → ListOptions → Outcome → Server → Type 0
ListsAlone s v options o t = ((o ≡ list_served s v options) ⊎ (o ≡ refused no_memory)) × (t ≡ s)

abbrev pub WatchesAlone : Server → View → ℕ → ℕ → Result Watched Refusal → Server → Type 0
WatchesAlone s v after most r t = ((r ≡ watch_by s v after most) ⊎ (r ≡ Err no_memory)) × (t ≡ s)

abbrev pub BeginsAlone : Server → View → Option ℕ → Result Listed Refusal → Server → Type 0
BeginsAlone s v least r t = ((r ≡ there_from s.snapshot.revision (viewed v s.snapshot.members) least) ⊎ (r ≡ Err no_memory)) × (t ≡ s)
