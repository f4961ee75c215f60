-- Where followers began for the last time.
use Rattle.std.specs.Prelude.{◌≡◌, ℕ, List, ◌++◌}
use Rattle.spec_api.specs.declared.kinds.Kind.{Kind}
use Rattle.spec_sim.specs.declared.initial_syncs.InitialSync.{InitialSync}
use Rattle.spec_sim.specs.ControlPlanes.{ControlPlane, Step, opened, run}
use Rattle.sim_worker_laws.specs.OwedLaws.{NoRestart}
use Rattle.sim_rest_laws.specs.ShiftRunLaws.{HasNothing}

-- of these steps some are before the last restart, or none are, and it is one of them; the others are after it
pub record LastStart (p : ControlPlane) (steps : List Step) : Type 0 where
  pub before : List Step
  pub after : List Step
  pub is : steps ≡ before ++ after
  pub nothing : (k : Kind) → HasNothing k (run p before)
  pub none : NoRestart after

-- every list of steps has one
abbrev pub EveryRunHasALastStart : Type 0
EveryRunHasALastStart = (window workers : ℕ) (initial : InitialSync) (steps : List Step) → LastStart (opened window workers initial) steps
