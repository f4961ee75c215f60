-- Rest: nothing is left to do.
use Rattle.std.specs.Prelude.{◌≡◌, ℕ, [], true, Some, None}
use Rattle.std.specs.FinMap as map
use Rattle.std.specs.FinSet as set
use Rattle.spec_api.specs.declared.kinds.Kind.{Kind}
use Rattle.spec_api.specs.Events.{events}
use Rattle.spec_api.specs.History.{History, present, list}
use Rattle.spec_client_go.specs.Expectations.{Owner, Expectation, Table}
use Rattle.spec_client_go.specs.WorkQueues.{WorkKey}
use Rattle.spec_laws.specs.SentLaws.{whole}
use Rattle.spec_sim.specs.Clusters.{history, follower}
use Rattle.spec_sim.specs.ControlPlanes.{ControlPlane}
use Rattle.spec_sim.specs.Followers.{Follower}
use Rattle.spec_sim.specs.Turns.{Turn}
use Rattle.sim_worker_laws.specs.TakeLaws.{HasInHand}

-- of a kind a list was published, nothing waits to be published or handled, what is published is what is there, and nothing was written of the kind since the revision
-- that is published with it: else an object that came and went unseen could have been read live
pub record IsUpToDate (h : History) (k : Kind) (f : Follower) : Type 0 where
  pub listed : f.has_listed ≡ true
  pub pending : f.informer.pending ≡ []
  pub handled : f.unhandled ≡ []
  pub shows : f.informer.published.members ≡ list h (whole k) (present h)
  pub told : events h (whole k) f.informer.published.revision (present h) ≡ []

-- no creation and no deletion of a pod is still to be seen
abbrev pub ExpectsNothing : Table → Type 0
ExpectsNothing t = (o : Owner) (e : Expectation) → map.get t o ≡ Some e → (e.creations ≡ 0) × (set.len e.deletions ≡ 0)

-- each follower is up to date, no key is queued or delayed, no worker is in a turn, and nothing is expected
pub record IsAtRest (p : ControlPlane) : Type 0 where
  pub followers : (k : Kind) → IsUpToDate (history p.cluster) k (follower k p.cluster)
  pub queue : p.manager.board.work.queue ≡ []
  pub delays : (j : WorkKey) → map.get p.manager.board.delays j ≡ None
  pub hands : (w : ℕ) (t : Turn) → HasInHand w t p → ⊥
  pub expected : ExpectsNothing p.manager.board.expected
