-- What the code's results say of queries.
use Rattle.std.specs.Prelude.{◌≡◌, ℕ, List, [], ◌∷◌, codes, Option, Some, None, Result, Ok, Err}
use Rattle.spec_api.specs.Targets as targets
use Rattle.request_parts.specs.Collected.{collection_seen}
use Rattle.request_parts.specs.declared.faults.MemberFault.{MemberFault}
use Rattle.request_parts.specs.declared.faults.MemberFault.TheVariants.{BadQuery, NoMemory}
use Rattle.request_parts.specs.declared.members.Names.{Names}
use Rattle.request_parts.specs.declared.members.Names.TheVariants.{Refused, OfNoList}
use Rattle.request_parts.specs.declared.query.Query.{Query}

-- the query as the definitions say it
abbrev pub query_seen : Query → targets.Query
query_seen q = record { collection = collection_seen q.collection; policy = q.policy }

abbrev pub names_seen : Names → List (List ℕ)
names_seen Refused = codes "dryRun" ∷ []
names_seen OfNoList = codes "sendInitialEvents" ∷ []

-- the result is this, or that there is none; or memory ran out
abbrev pub Reads : {A : Type 0} → Option A → Result A MemberFault → Type 0
Reads wanted (Ok a) = wanted ≡ Some a
Reads wanted (Err BadQuery) = wanted ≡ None
Reads wanted (Err NoMemory) = Unit {0}
