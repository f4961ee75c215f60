-- A simulation as what answers one line after another: what is written for a line, and what is there after it. Before the first line that is
-- not empty nothing is there. A world may be as the definitions have it, or as it is stored: `opened` is one of these sizes, `after` what
-- it is after a step, and `told` the text by which a step is told.
use Rattle.std.specs.Prelude.{ℕ, ◌==◌, List, [], length, Option, Some, None, if◌then◌else◌}
use Rattle.spec_sim.specs.StepLines.{Config, default_config, config_of_line}
use Rattle.spec_sim.specs.ControlPlanes.{Step}
use Rattle.spec_sim.specs.ControlPlaneStepLines.{step_asked}

module _ {W : Type 0} (opened : Config → W) (after : W → Step → W) (told : W → Step → List ℕ) where
  -- the first line may be a configuration, for which nothing is written
  abbrev pub first_text : List ℕ → Option Config → List ℕ
  first_text t None = told (opened default_config) (step_asked t)
  first_text t (Some c) = []

  abbrev pub first_world : List ℕ → Option Config → W
  first_world t None = after (opened default_config) (step_asked t)
  first_world t (Some c) = opened c

  abbrev pub text_of : Option W → List ℕ → List ℕ
  text_of None t = first_text t (config_of_line t)
  text_of (Some w) t = told w (step_asked t)

  abbrev pub world_after : Option W → List ℕ → W
  world_after None t = first_world t (config_of_line t)
  world_after (Some w) t = after w (step_asked t)

  -- an empty line is skipped
  abbrev pub reply : Option W → List ℕ → List ℕ
  reply s t = if length t == 0 then [] else text_of s t

  abbrev pub next : Option W → List ℕ → Option W
  next s t = if length t == 0 then s else Some (world_after s t)

-- neither has begun, or the one stands for the other
abbrev pub FollowsBy : {W C : Type 0} → (W → C → Type 0) → Option W → Option C → Type 0
FollowsBy R None None = Unit {0}
FollowsBy R None (Some c) = ⊥
FollowsBy R (Some w) None = ⊥
FollowsBy R (Some w) (Some c) = R w c
