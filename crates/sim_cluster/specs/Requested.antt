-- What workers reach of a cluster: what is there, and what a request of theirs is answered and writes.
use Rattle.std.specs.Prelude.{◌≡◌, Bool, Option}
use Rattle.std.specs.List.{list_all}
use Rattle.spec_api.specs.History.{Write}
use Rattle.spec_api.specs.Kinds.{kinds}
use Rattle.spec_api.specs.ObjectRequests.{Request}
use Rattle.spec_api.specs.Reached.{CanBeRead}
use Rattle.spec_api.specs.Verbs.{Answer, Outcome, answered, with_write, write_of}
use Rattle.spec_laws.specs.AnswerLaws.{IsReadBack}
use Rattle.line_session.specs.SessionStates.{SessionState, accepted, changed_by, of_write}
use Rattle.sim_cluster.specs.ClusterStates.{ClusterState, follower}

-- the first list of each kind was published (client-go, HasSynced)
abbrev pub have_all_listed : ClusterState → Bool
have_all_listed w = list_all (λ k. (follower k w).has_listed) kinds

-- this is what the answer to some request writes, whose body can be read of bytes
abbrev pub IsWriteOf : SessionState → Option Write → Type 0
IsWriteOf s o = (q : Request) × CanBeRead q × (write_of (accepted s q) ≡ o)

-- where a request is answered, the text of the answer is read as the answer
abbrev pub IsRead : Outcome → Type 0
IsRead o = (a : Answer) → o ≡ answered a → IsReadBack a.body

-- the cluster once this was written, if anything was
abbrev pub written : Option Write → ClusterState → ClusterState
written o w = record w { session = changed_by w.session (of_write o); journal = with_write w.journal o }
