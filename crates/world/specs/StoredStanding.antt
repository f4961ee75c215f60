-- What a stored world stands for.
use Rattle.std.specs.Prelude.{◌≡◌, ℕ, List}
use Rattle.spec_sim.specs.declared.initial_syncs.InitialSync.{InitialSync}
use Rattle.spec_sim.specs.ControlPlanes as planes
use Rattle.spec_sim.specs.ControlPlanes.{ControlPlane, Step}
use Rattle.sim_cluster.specs.Standing as cluster
use Rattle.world.specs.StoredStates.{StoredState}

-- its cluster stands for that of the control plane, and its manager is the same; it does not count the steps that were taken
pub record StandsFor (w : StoredState) (p : ControlPlane) : Type 0 where
  pub cluster : cluster.StandsFor w.cluster p.cluster
  pub manager : w.manager ≡ p.manager

-- it stands for what some list of steps made of an opening control plane
unfoldable pub Stands : StoredState → Type 0
Stands w = (window workers : ℕ) × (initial : InitialSync) × (steps : List Step) × StandsFor w (planes.run (planes.opened window workers initial) steps)
