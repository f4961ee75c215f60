-- What workers ask of the server of a world can be read of bytes.
use Rattle.std.proofs.Common.{◌≡◌, sym, subst, ℕ, IfSome}
use Rattle.spec_api.specs.Reached.{CanBeRead}
use Rattle.spec_sim.specs.ControlPlanes as planes
use Rattle.spec_sim.specs.Managers.{Action, Acted, act}
use Rattle.sim_control_plane_laws.proofs.Asking.{asks_readable}
use Rattle.sim_control_plane_laws.proofs.PlaneRuns.{all_well}
use Rattle.sim_manager.specs.Reached.{client_of, CanBeAsked}
use Rattle.world.proofs.Reaching.{same_client}
use Rattle.world.specs.StoredStanding.{Stands}
use Rattle.world.specs.StoredStates.{StoredState}

pub asked : (w : StoredState) (n : ℕ) (a : Action) → Stands w → CanBeAsked w.cluster n a w.manager
unfolding Stands
asked w n a (window, workers, initial, steps, is) =
    let p = planes.run (planes.opened window workers initial) steps in
    let same : act (client_of w.cluster) n a w.manager ≡ act (planes.client p.cluster) n a p.manager = λ i. act (same_client w.cluster p.cluster is.cluster i) n a (is.manager i) in
    subst (λ (r : Acted). IfSome r.request CanBeRead) (sym same) (asks_readable (planes.client p.cluster) n a p.manager (all_well window workers initial steps).1)
