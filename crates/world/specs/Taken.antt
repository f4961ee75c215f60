-- What was done since a control plane was opened.
use Rattle.std.specs.Prelude.{ℕ, List, [], ◌∷◌, ◌++◌}
use Rattle.spec_sim.specs.declared.initial_syncs.InitialSync.{InitialSync}
use Rattle.spec_sim.specs.ControlPlanes.{ControlPlane, Step, opened, run}

-- the size of the server's windows, the number of workers and how followers begin, as it was opened, and the steps that were taken since, the first
-- one first
pub record Taken : Type 0 where
  pub window : ℕ
  pub workers : ℕ
  pub initial : InitialSync
  pub steps : List Step

-- no step
abbrev pub begun : ℕ → ℕ → InitialSync → Taken
begun window workers initial = record { window = window; workers = workers; initial = initial; steps = [] }

-- one step more
abbrev pub followed : Taken → Step → Taken
followed t s = record t { steps = t.steps ++ s ∷ [] }

-- more steps
abbrev pub followed_by_all : Taken → List Step → Taken
followed_by_all t ss = record t { steps = t.steps ++ ss }

-- the control plane that was opened, and what these steps made of it
abbrev pub opening : Taken → ControlPlane
opening t = opened t.window t.workers t.initial

abbrev pub plane : Taken → ControlPlane
plane t = run (opening t) t.steps
