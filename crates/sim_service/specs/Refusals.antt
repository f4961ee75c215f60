-- What a line is told for which there was no memory.
use Rattle.std.specs.Prelude.{ℕ, List, Option, Some, None, is_some, if◌then◌else◌}
use Rattle.line_service.specs.Shown.{no_memory_line}
use Rattle.spec_sim.specs.Clusters.{ClusterStep, request, compact, moves, restart}
use Rattle.spec_sim.specs.StepLines.{config_of_line}
use Rattle.spec_sim.specs.ControlPlanes.{Step, in_cluster, handle, works, tick}
use Rattle.spec_sim.specs.ControlPlaneStepLines.{step_asked}

-- a request is answered that there was none
abbrev pub of_cluster_step : ClusterStep → Option (List ℕ)
of_cluster_step (request t) = Some no_memory_line
of_cluster_step (compact r) = None
of_cluster_step (moves k m) = None
of_cluster_step restart = None

-- where any other step is refused for want of memory, no line is answered any more
abbrev pub of_step : Step → Option (List ℕ)
of_step (in_cluster s) = of_cluster_step s
of_step (handle k) = None
of_step (works n a) = None
of_step (tick n) = None

-- nor is one where the sizes that a line says are
abbrev pub refusal : List ℕ → Option (List ℕ)
refusal t = if is_some (config_of_line t) then None else of_step (step_asked t)
