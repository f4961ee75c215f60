-- A world: what is stored of it, with what it was opened, and the steps that it took since.
use Rattle.std.specs.Prelude.{ℕ, List, [], ◌∷◌, refl}
use Rattle.std.specs.Coded.{Coded, code_by, coded×}
use Rattle.spec_sim.specs.declared.initial_syncs.InitialSync.{InitialSync}
use Rattle.spec_sim.specs.ControlPlanes.{Step}
use Rattle.spec_sim.specs.Outcomes.{Outcome}
use Rattle.world.specs.Codes.{coded_taken}
use Rattle.world.specs.Taken as traces
use Rattle.world.specs.Taken.{Taken, followed}
use Rattle.world.specs.StoredStates as stored
use Rattle.world.specs.StoredStates.{StoredState, coded_stored}

-- the trace is a ghost: it has the steps of all calls, and takes no memory
pub record WorldState : Type 0 where
  pub stored : StoredState
  pub trace : Taken

-- a code by which a model may store it
abbrev pub coded_world : Coded WorldState
coded_world = code_by (StoredState × Taken) (coded× coded_stored coded_taken) (λ w. (w.stored, w.trace)) (λ p. record { stored = p.0; trace = p.1 }) (λ _. refl)

-- nothing has happened yet; windows have this size, there are so many workers, and followers begin so
abbrev pub opened : ℕ → ℕ → InitialSync → WorldState
opened window workers initial = record { stored = stored.opened window workers initial; trace = traces.begun window workers initial }

-- ---- steps

-- a world after a step, and what is told of it
pub record Stepped : Type 0 where
  pub world : WorldState
  pub outcome : Outcome

-- a step that is not open is one of those that were taken, too, and changes nothing else
abbrev pub step : WorldState → Step → Stepped
step w s =
    let v = stored.step w.stored s in
    record { world = record { stored = v.world; trace = followed w.trace s }; outcome = v.outcome }

-- one step after another
abbrev pub run : WorldState → List Step → WorldState
run w [] = w
run w (s ∷ ss) = run (step w s).world ss
