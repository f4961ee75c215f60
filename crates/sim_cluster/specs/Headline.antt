-- What holds of every cluster, by the journal of all that has happened at it.
use Rattle.std.specs.Prelude.{◌≡◌, ◌≤◌, ℕ, List, [], ◌∷◌, ◌++◌, Some, None}
use Rattle.serde_json.specs.Data.{Data}
use Rattle.spec_api.specs.declared.kinds.Kind.{Kind}
use Rattle.spec_api.specs.History as history
use Rattle.spec_api.specs.History.{History, write, present, state, list, unfiltered}
use Rattle.spec_api.specs.Keys.{Key}
use Rattle.spec_api.specs.Metadata.{version}
use Rattle.spec_api.specs.ObjectRequests.{Request}
use Rattle.spec_sim.specs.Clusters.{ClusterStep, request}
use Rattle.sim_cluster_laws.specs.ClusterLaws.{NoRestart, Asks, NamesVersion}
use Rattle.sim_cluster.specs.ClusterStates.{ClusterState, published, run}

-- what is published of each kind is the server's list at the revision that is published with it, which has happened
pub record ShowsLists (w : ClusterState) : Type 0 where
  pub lists : (k : Kind) → (published k w).members ≡ list w.journal (unfiltered k None) (published k w).revision
  pub past : (k : Kind) → (published k w).revision ≤ present w.journal

-- where none of these steps is a restart, the revision that is published of a kind does not fall
pub record RevisionsRise (steps : List ClusterStep) (before after : ClusterState) : Type 0 where
  pub rise : (k : Kind) → NoRestart steps → (published k before).revision ≤ (published k after).revision

-- where the step is a line that asks an update, an update of the status, a patch or a delete, and it names a version: if that made a
-- write, it is of the object asked for, and what stood there before had just this version (Kubernetes API Conventions, Concurrency
-- Control and Consistency)
pub record ReplacesNamedVersion (s : ClusterStep) (before after : History) : Type 0 where
  pub replaces :
      (t : List ℕ) (q : Request) (k : Key) (named : List ℕ) (w : history.Write) → s ≡ request t → Asks t q → NamesVersion before k named q → after ≡ before ++ write w ∷ []
      → (existing : Data) × (w.key ≡ k) × (state before (present before) k ≡ Some existing) × (version existing ≡ Some named)

-- and so it is of each of these steps, after those before it
pub record ReplacesNamedVersions (steps : List ClusterStep) (before : ClusterState) : Type 0 where
  pub replaces :
      (taken rest : List ClusterStep) (s : ClusterStep) → steps ≡ taken ++ s ∷ rest → ReplacesNamedVersion s (run before taken).journal (run before (taken ++ s ∷ [])).journal
