-- What has happened at a server, whoever asked: what counts as that, and how far it goes.
use Rattle.std.specs.Prelude.{◌≡◌, ◌≤◌, ◌++◌, ℕ, List, length, true, Ok}
use Rattle.spec_api.specs.declared.methods.Method.{Method}
use Rattle.spec_api.specs.History.{History, writes, present, entries_at}
use Rattle.spec_laws.specs.Happening.{CanHappen}
use Rattle.spec_line_protocol.specs.Lines.{history_of}
use Rattle.spec_api.specs.Moments.{is_moment}
use Rattle.spec_api.specs.Reached.{CanBeRead, IsTimestamp, IsReached}
use Rattle.spec_api.specs.Targets.{request, read_request}
use Rattle.spec_api.specs.ObjectRequests.{Request}
use Rattle.spec_laws.specs.HistoryLaws.{Carry}

-- ---- what is reached

-- what has happened once some lines were read is reached
abbrev pub RunsAreReached : Type 0
RunsAreReached = (lines : List (List ℕ)) → IsReached (history_of lines)

-- what had happened before is reached
abbrev pub PastsAreReached : Type 0
PastsAreReached = (h more : History) → IsReached (h ++ more) → IsReached h

-- what is read of a method, a target and a body is well asked
abbrev pub RequestsAreAsked : Type 0
RequestsAreAsked = (method : Method) (target body : List ℕ) (q : Request) → read_request method target body ≡ Ok (request q) → CanBeRead q

-- a moment as objects carry it is a time
abbrev pub MomentsAreTimes : Type 0
MomentsAreTimes = (t : List ℕ) → is_moment t ≡ true → IsTimestamp t

-- ---- how far it goes

-- no compaction reaches further than what had happened before it
abbrev pub ReachedCanHappen : Type 0
ReachedCanHappen = (h : History) → IsReached h → CanHappen h

-- there are no more objects, and no greater revision, than there may be
abbrev pub ReachedStayWithinLimits : Type 0
ReachedStayWithinLimits = (h : History) → IsReached h → (length (entries_at h (present h)) ≤ 262144) × (present h ≤ 9007199254740991)

-- each object that was ever stored carries the revision of its write, the first of which is 2
abbrev pub ReachedCarryRevisions : Type 0
ReachedCarryRevisions = (h : History) → IsReached h → Carry 2 (writes h)
